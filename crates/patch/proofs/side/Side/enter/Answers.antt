use Rattle.patch.proofs.Chaining.{object_chained, object_left, object_row}
use Rattle.patch.proofs.side.Side.enter.Goals as goal

pub order-requires : goal.order-requires
order-requires c = object_row c.requires.2 _ c.next.ensures

pub returns-clause-chained : goal.returns-clause-chained
returns-clause-chained c = λ d ps s. object_chained s _ c.next.ensures _ c.order.ensures.counted _ _ c.order.ensures.linked

pub returns-clause-kept : goal.returns-clause-kept
returns-clause-kept c = object_left c.requires.2 _ c.next.ensures _ c.order.ensures.counted _ _ c.order.ensures.linked
