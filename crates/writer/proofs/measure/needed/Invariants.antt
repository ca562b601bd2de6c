-- What is counted and what is pending make up the whole.
use Rattle.writer.proofs.Weighing.{Tally}
use Rattle.writer.proofs.measure.needed.Given as goal

abbrev pub invariant-loop-k : goal.invariant-loop-k
invariant-loop-k l = Tally l.text l.table l.r l.end l.n l.k
