use Rattle.members.proofs.Ordering.{before_then}
use Rattle.members.proofs.member.comes_before.Goals as goal

pub returns : goal.returns
returns c = rw (c.is_lt.ensures, c.then.ensures, c.cmp.ensures) (before_then _ _ _ _ c.order_of.ensures)
