-- What the digits from `i` on come to behind `value`, all of them come to.
use Rattle.lookup.proofs.Indices.{digits_more}
use Rattle.lookup.proofs.token.index_from.Goals as goal

pub loop-u-preserved : goal.loop-u-preserved
loop-u-preserved c = (c.if-value-ge-MAX_TEXT.false, λ r x. c.loop-u.invariant.1 r (digits_more _ _ _ _ c.in-Some.ensures.step c.in_ok-value.ensures r x))
