-- Each arm keeps the invariant by its law in proofs/Loop, or stops as the law says.
use Prim.Native.Nat.{◌-◌}
use Rattle.reader.specs.Loop.{Kept}
use lib.ListN.{length}
use Rattle.reader.proofs.fill.fill.Given as goal

abbrev pub invariant-loop-i : goal.invariant-loop-i
invariant-loop-i l = Kept l.text l.initial.table l.table l.state.marks l.state.depth l.i l.count l.inner l.name l.first l.due

abbrev pub decreases-loop-i : goal.decreases-loop-i
decreases-loop-i l = length l.text - l.i
