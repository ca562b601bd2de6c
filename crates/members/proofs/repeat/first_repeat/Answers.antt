use Rattle.members.proofs.Quoting.{quote_repeated, quotes_distinct, quotes_none, quotes_one}
use Rattle.members.proofs.repeat.first_repeat.Goals as goal
use Rattle.members.proofs.repeat.first_repeat.Goals.{then-end-first-via-else-end-first+then-end-next, then-end-first-via-then-end-first}

pub returns-then-end-first-clause-repeated : goal.returns-then-end-first-clause-repeated
returns-then-end-first-clause-repeated c =
    elim c.then-end-first.branch [
      | then-end-first-via-then-end-first w ↦ λ l s. quotes_none c.requires s w.if-end-first.true
      | then-end-first-via-else-end-first+then-end-next w ↦ λ l s. quotes_one c.requires s w.if-end-first.false (rw w.next.ensures at w.if-end-next.true)
    ]

pub returns-in_err-z-clause-repeated : goal.returns-in_err-z-clause-repeated
returns-in_err-z-clause-repeated c = λ l s. rw c.from_residual.ensures (quotes_distinct c.requires s (c.in_err-z.ensures.earliest l s))

pub returns-clause-repeated : goal.returns-clause-repeated
returns-clause-repeated c = λ l s. quote_repeated c.requires s (c.in_ok-z.ensures.earliest l s) (rw c.in_ok-z.ensures.same at c.word_at.ensures)
