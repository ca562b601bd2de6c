use Rattle.names.proofs.Order.{order_equal}
use borrow.Author.Tests.{ne_eqb}
use mathlib.Core.Path.{refl, sym}
use Rattle.members.proofs.name.same_at.Goals as goal

pub returns-else-not-differ_at_once : goal.returns-else-not-differ_at_once
returns-else-not-differ_at_once c =
    rw c.if-not-differ_at_once.false (sym (ne_eqb _ _ (λ e. c.if-not-differ_at_once.ensures refl (order_equal _ _ e))))
