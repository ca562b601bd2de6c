-- The first `k` bytes of the word stand there: the answer is still that of the word's rest behind them.
use Rattle.scan.proofs.WordLaws.{word_more, word_wrong, word_short, word_end}
use native.Mathlib.Omega.{arith}
use mathlib.Core.Path.{◌≡◌}
use Rattle.scan.proofs.word.word_at.Goals as goal

pub returns-then-text-i : goal.returns-then-text-i
returns-then-text-i c = record { read = word_short _ _ _ _ c.loop-k.invariant.same c.loop-k-test.true c.if-text-i.true }

pub returns-then-text-i-2 : goal.returns-then-text-i-2
returns-then-text-i-2 c = record { read = word_wrong _ _ _ _ c.loop-k.invariant.same c.loop-k-test.true c.if-text-i.false c.if-text-i-2.true }

pub loop-k-preserved : goal.loop-k-preserved
loop-k-preserved c = record { ahead = omega arith; inside = omega arith; same = word_more _ _ _ _ c.loop-k.invariant.same c.loop-k-test.true c.if-text-i.false c.if-text-i-2.false }

pub returns : goal.returns
returns c =
    let k : c.max.result ≡ c.loop-k.k = omega arith in
    record { read = rw k (omega arith, c.loop-k.invariant.inside, word_end _ _ _ _ c.loop-k.invariant.same c.loop-k-test.false) }
