-- Only whitespace stands before `i`.
use Rattle.scan.specs.Space.{Skipped}
use Rattle.scan.proofs.space.skip_each.Given as goal

abbrev pub invariant-loop-i : goal.invariant-loop-i
invariant-loop-i l = Skipped l.text l.from l.i
