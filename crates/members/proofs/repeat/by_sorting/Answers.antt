use Rattle.members.proofs.Chaining.{linked_back, linked_earliest, linked_room, linked_seats, linked_sorted, linked_up}
use Rattle.members.proofs.RowLaws.{row_count, row_free, row_in, row_seats}
use Rattle.members.proofs.repeat.by_sorting.Goals as goal

pub sort-requires : goal.sort-requires
sort-requires c = let q = c.requires.1 in (c.requires.0, row_count q.1 _ q.2, row_free q.1 q.2)

pub neighbours-z-requires : goal.neighbours-z-requires
neighbours-z-requires c =
    let p = linked_up c.sort.ensures.sorted in
    rw c.sort.ensures.counted (c.requires.0, linked_seats _ p (row_seats c.requires.1.1 c.requires.1.2), linked_sorted _ p)

pub clear-requires : goal.clear-requires
clear-requires c = let q = c.requires.1 in linked_room _ _ c.sort.ensures.sorted (λ v i. (row_seats q.1 q.2 v i).1.0)

pub returns-clause-earliest : goal.returns-clause-earliest
returns-clause-earliest c = linked_earliest _ (linked_up c.sort.ensures.sorted) _ (rw c.sort.ensures.counted at c.neighbours-z.ensures)

pub returns-clause-same : goal.returns-clause-same
returns-clause-same c = let q = c.requires.1 in linked_back _ _ c.sort.ensures.sorted c.clear.ensures.cleared (λ v i. q.1.low v (row_in q.1 q.2 i))
