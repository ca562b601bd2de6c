-- All but what is written from `i` on stands in the first `p` bytes of the output.
use Rattle.spell.proofs.StringLaws.{unit_part, upto_close, upto_fits, upto_last, upto_lend}
use Rattle.spell.proofs.string.put_ending.Goals as goal

pub bounds-out-p : goal.bounds-out-p
bounds-out-p c = (upto_last (upto_lend c.loop-u.invariant.1 c.bare_run-j.ensures.plain.part c.put_word-p.ensures.put) c.in_default.ensures.step).1

pub returns-in_default : goal.returns-in_default
returns-in_default c = record { put = upto_close (upto_lend c.loop-u.invariant.1 c.bare_run-j.ensures.plain.part c.put_word-p.ensures.put) c.in_default.ensures.step }

pub put_unit-p-requires : goal.put_unit-p-requires
put_unit-p-requires c = let s = c.in-Some.ensures.step in upto_fits (upto_lend c.loop-u.invariant.1 c.bare_run-j.ensures.plain.part c.put_word-p.ensures.put) (unit_part _ _ _ _ s.0)

pub loop-u-preserved : goal.loop-u-preserved
loop-u-preserved c = let (e, h, k, l) = c.in-Some.ensures.step in
    (k, upto_lend (upto_lend c.loop-u.invariant.1 c.bare_run-j.ensures.plain.part c.put_word-p.ensures.put) (unit_part _ _ _ _ e) c.put_unit-p.ensures.put)
