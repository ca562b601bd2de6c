use Rattle.members.proofs.Chaining.{linked_along, linked_up}
use Rattle.members.proofs.RowLaws.{row_count, row_free, row_near, row_seats}
use Rattle.members.proofs.chain.order.Goals as goal

pub ascending-requires : goal.ascending-requires
ascending-requires c = row_seats c.requires c.count-n.ensures.counted

pub link_along-requires : goal.link_along-requires
link_along-requires c = row_near c.requires c.count-n.ensures.counted

pub returns-then-ascending-clause-linked : goal.returns-then-ascending-clause-linked
returns-then-ascending-clause-linked c = linked_along _ _ _ _ _ (c.ascending.ensures.sorted c.if-ascending.true) c.link_along.ensures.linked

pub sort-requires : goal.sort-requires
sort-requires c =
    let s = c.count-n.ensures.counted in
    (c.ascending.ensures.some c.if-ascending.false, row_count c.requires _ s, row_free c.requires s)

pub returns-clause-linked : goal.returns-clause-linked
returns-clause-linked c = rw c.sort.ensures.counted (linked_up c.sort.ensures.sorted)
