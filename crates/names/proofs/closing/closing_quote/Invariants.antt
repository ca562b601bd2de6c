-- From `i` on the name closes where it does from `from` on.
use Rattle.names.specs.Units.{closing}
use lib.ListN.{drop, length}
use mathlib.Core.Path.{◌≡◌}
use Prim.Native.Nat.{◌-◌, ◌≤◌}
use Rattle.names.proofs.closing.closing_quote.Given as goal

abbrev pub invariant-loop-i : goal.invariant-loop-i
invariant-loop-i l = (l.from ≤ l.i) × (l.i ≤ length l.text) × (closing l.from (drop l.from l.text) ≡ closing l.i (drop l.i l.text))

abbrev pub decreases-loop-i : goal.decreases-loop-i
decreases-loop-i l = length l.text - l.i
