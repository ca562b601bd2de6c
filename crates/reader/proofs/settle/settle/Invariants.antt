-- The loop closes the innermost open container, whatever the table held at entry and whatever is refused.
use Prim.Native.Nat.{◌*◌, ◌≤◌}
use Rattle.reader.specs.Loop.{Stopped}
use Rattle.scan.specs.declared.refusal.Refusal.{Refusal}
use Rattle.std.specs.Prelude.{None, Option}
use Rattle.text.specs.Table.{Words, record_words}
use lib.ListN.{length}
use Rattle.reader.proofs.settle.settle.Given as goal

abbrev pub invariant-loop-d : goal.invariant-loop-d
invariant-loop-d l =
    (w : Words) (e : Option Refusal) → record_words * length l.text ≤ length w
    → Stopped l.text w l.initial.table l.state.marks l.state.depth l.count l.initial.inner l.initial.first e None → Stopped l.text w l.table l.state.marks l.d l.count l.inner l.first e None
