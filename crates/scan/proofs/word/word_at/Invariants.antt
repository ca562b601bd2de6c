-- The first `k` bytes of the word stand there: the answer is still that of the word's rest behind them. In a word with no byte `k` stays 1.
use Rattle.scan.proofs.WordLaws.{Upto}
use lib.ListN.{length}
use Prim.Native.Nat.{◌≤◌, ◌+◌, max}
use Rattle.scan.proofs.word.word_at.Given as goal

abbrev pub invariant-loop-k : goal.invariant-loop-k
invariant-loop-k l = record { ahead : l.k ≤ max (length l.word) 1; inside : l.from + l.k ≤ length l.text; same : Upto l.text l.word l.from l.k }
