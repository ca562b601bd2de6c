use Rattle.std.proofs.Common.{◌+◌, ◌-◌, ◌*◌, ◌≡◌}
use Rattle.text.specs.Bytes.{Bytes}
use Rattle.text.specs.Ceilings.{max_depth}
use Rattle.writer.specs.Walks.{Going, Ready}
use Rattle.writer.proofs.put.+put_entries_put_entry_put_value.Given as goal

abbrev pub decreases-put_entries : goal.decreases-put_entries
decreases-put_entries l = 3 * (max_depth - l.depth) + 2

abbrev pub decreases-put_entry : goal.decreases-put_entry
decreases-put_entry l = 3 * (max_depth - l.depth) + 1

abbrev pub decreases-put_value : goal.decreases-put_value
decreases-put_value l = 3 * (max_depth - l.depth)

abbrev pub invariant-put_entries-loop-left : goal.invariant-put_entries-loop-left
invariant-put_entries-loop-left l =
    (l.table ≡ l.initial.table) × ((c : Bytes) → Ready l.text l.initial.table l.depth l.b l.fn.entries.count l.fn.entries.head c → Going l.text l.initial.table l.depth l.b l.left l.x l.initial.out l.at l.out c)
