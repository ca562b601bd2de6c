-- The `k` exponent digits before `i` come to `e`, and each of them was allowed to stand there.
use Rattle.scan.proofs.Counts.{Powered}
use Rattle.scan.proofs.power.power_rest.Given as goal

abbrev pub invariant-loop-i : goal.invariant-loop-i
invariant-loop-i l = Powered l.text l.m l.down l.from l.first l.i l.e l.k
