use Rattle.members.proofs.Earliness.{distinct_ascending}
use Rattle.members.proofs.Lineage.{siblings_unique}
use Rattle.members.proofs.RowLaws.{row_seats}
use Rattle.members.proofs.repeat.earliest.Goals as goal

pub ascending-requires : goal.ascending-requires
ascending-requires c = row_seats c.requires c.count-n.ensures.counted

pub returns-then-ascending-clause-earliest : goal.returns-then-ascending-clause-earliest
returns-then-ascending-clause-earliest c = λ l s. rw (siblings_unique s c.count-n.ensures.counted) (distinct_ascending _ (c.ascending.ensures.sorted c.if-ascending.true))

pub returns-clause-earliest : goal.returns-clause-earliest
returns-clause-earliest c = λ l s. rw (siblings_unique s c.count-n.ensures.counted) c.by_sorting.ensures.earliest
