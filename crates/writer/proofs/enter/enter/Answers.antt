use Rattle.writer.proofs.Entered.{array_kept, array_ready, entering, entering_row, object_kept, object_ready}
use Rattle.writer.proofs.enter.enter.Goals as goal

pub order-requires : goal.order-requires
order-requires c = entering_row c.requires.1.2 c.requires.0 _ c.next-end.ensures c.if-b-eq123.true

pub returns-then-b-eq123 : goal.returns-then-b-eq123
returns-then-b-eq123 c = record { ready = (λ d x z. object_ready z c.requires.0 _ c.next-end.ensures _ c.order.ensures.counted _ _ c.if-b-eq123.true c.order.ensures.linked); kept = object_kept c.requires.1.2 c.requires.0 _ c.next-end.ensures _ c.order.ensures.counted _ _ c.if-b-eq123.true c.order.ensures.linked }

pub count-requires : goal.count-requires
count-requires c = entering c.requires.1.2 c.requires.0 _ c.next-end.ensures

pub returns : goal.returns
returns c = record { ready = (λ d x z. array_ready z c.requires.0 _ c.next-end.ensures _ c.count.ensures.counted c.if-b-eq123.false); kept = array_kept c.requires.1.2 c.requires.0 _ c.next-end.ensures _ c.count.ensures.counted c.if-b-eq123.false }
