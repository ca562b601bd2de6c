-- By the count, which halves: each half becomes a chain in the opposite order, and merging turns it round.
use Rattle.members.proofs.Halving.{all_sorted, left_free, merge_ready, one_after, one_sorted, right_free, some_in}
use Rattle.std.proofs.Common.{arith, ◌∙◌}
use Rattle.members.proofs.sort.+halved.Goals as goal

pub next-requires : goal.next-requires
next-requires t c = (c.requires.2.seats _ (some_in _ _ _ c.requires.0)).1.0

pub returns-then-n-eq1-clause-rest : goal.returns-then-n-eq1-clause-rest
returns-then-n-eq1-clause-rest t c = c.next.ensures ∙ one_after _ _ _ c.if-n-eq1.true

pub returns-then-n-eq1-clause-sorted : goal.returns-then-n-eq1-clause-sorted
returns-then-n-eq1-clause-sorted t c = one_sorted _ _ _ _ _ _ c.if-n-eq1.true

pub halved-a-requires : goal.halved-a-requires
halved-a-requires t c = (omega (arith, c.decreases), (omega arith, omega arith, left_free _ _ _ (omega arith) c.requires.2))

pub halved-b-requires : goal.halved-b-requires
halved-b-requires t c = (omega (arith, c.decreases), (omega arith, omega arith, right_free _ _ _ (omega arith) c.requires.2 _ _ _ c.halved-a.ensures.rest c.halved-a.ensures.sorted))

pub merge-requires : goal.merge-requires
merge-requires t c = (omega arith, merge_ready _ _ _ (omega arith) c.requires.2 _ _ _ c.halved-a.ensures.rest c.halved-a.ensures.sorted _ _ c.halved-b.ensures.rest c.halved-b.ensures.sorted)

pub returns : goal.returns
returns t c =
    let all = all_sorted _ _ _ (omega arith) c.requires.2 _ _ _ c.halved-a.ensures.rest c.halved-a.ensures.sorted _ _ c.halved-b.ensures.rest c.halved-b.ensures.sorted _ c.merge.ensures.merged in
    record { rest = all.0; sorted = all.1 }
