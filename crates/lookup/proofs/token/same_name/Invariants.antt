-- The units before `i` and `j` are the same, and decide nothing.
use Rattle.lookup.specs.Tokens.{token_units}
use Rattle.names.specs.Units.{units}
use Rattle.text.specs.Ceilings.{same}
use lib.ListN.{drop, length}
use mathlib.Core.Path.{◌≡◌}
use Prim.Native.Nat.{◌-◌}
use Rattle.lookup.proofs.token.same_name.Given as goal

abbrev pub invariant-loop-x : goal.invariant-loop-x
invariant-loop-x l = same (token_units l.token) (units l.name) ≡ same (token_units (drop l.j l.token)) (units (drop l.i l.name))

abbrev pub decreases-loop-x : goal.decreases-loop-x
decreases-loop-x l = length l.name - l.i
