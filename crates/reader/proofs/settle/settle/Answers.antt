-- The loop closes the innermost open container, whatever the table held at entry and whatever is refused.
use Rattle.reader.proofs.Settling.{pend_room, pended, settled_as, stopped_closable, stopped_closes, stopped_most}
use native.Mathlib.Omega.{arith}
use Rattle.reader.proofs.settle.settle.Goals as goal

pub pend-count-requires : goal.pend-count-requires
pend-count-requires c = let s = c.requires.0 in let r = stopped_most c.requires.1 s.stopped in (r.0, r.1, pend_room s.room s.stopped)

pub close_at-c-requires : goal.close_at-c-requires
close_at-c-requires c = let s = c.requires.0 in (stopped_closable (c.loop-d.invariant s.entry s.refusal s.room (pended s.stopped c.pend-count.ensures.pended)) (omega arith), c.requires.1, omega arith)

pub loop-d-preserved : goal.loop-d-preserved
loop-d-preserved c = λ w e r s. stopped_closes (c.loop-d.invariant w e r s) 0 _ _ _ r (omega arith) c.close_at-c.ensures.closed

pub returns : goal.returns
returns c = record { settled = λ w e s r. settled_as _ c.pend-count.ensures.pended s (c.loop-d.invariant w e r (pended s c.pend-count.ensures.pended)) (omega arith) }
