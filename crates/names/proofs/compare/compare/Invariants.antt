-- The units before `i` and `j` are equal, and decide nothing.
use Rattle.names.specs.Order.{order}
use Rattle.names.specs.Units.{units}
use lib.ListN.{drop, length}
use mathlib.Core.Path.{◌≡◌}
use Prim.Native.Nat.{◌-◌}
use Rattle.names.proofs.compare.compare.Given as goal

abbrev pub invariant-loop-x : goal.invariant-loop-x
invariant-loop-x l = order (units l.a) (units l.b) ≡ order (units (drop l.i l.a)) (units (drop l.j l.b))

abbrev pub decreases-loop-x : goal.decreases-loop-x
decreases-loop-x l = length l.a - l.i
