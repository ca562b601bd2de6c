use Rattle.std.proofs.Common.{◌+◌, ◌-◌, ◌*◌}
use Rattle.patch.proofs.Walking.{Walked}
use Rattle.text.specs.Ceilings.{max_depth}
use Rattle.patch.proofs.walk.+merge_member_merge_members_merge_value.Given as goal

abbrev pub decreases-merge_member : goal.decreases-merge_member
decreases-merge_member l = 3 * (max_depth - l.depth) + 1

abbrev pub decreases-merge_members : goal.decreases-merge_members
decreases-merge_members l = 3 * (max_depth - l.depth) + 2

abbrev pub decreases-merge_value : goal.decreases-merge_value
decreases-merge_value l = 3 * (max_depth - l.depth)

abbrev pub invariant-merge_members-loop-a : goal.invariant-merge_members-loop-a
invariant-merge_members-loop-a l =
    Walked l.initial.target l.initial.patch l.target l.patch l.depth l.initial.a l.initial.b l.a l.b l.on l.initial.out l.at l.out

abbrev pub decreases-merge_members-loop-a : goal.decreases-merge_members-loop-a
decreases-merge_members-loop-a l = l.a.count + l.b.count
