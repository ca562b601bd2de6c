-- Only whitespace stands before `i`.
use Rattle.scan.proofs.Steps.{holds}
use Rattle.scan.proofs.Spaces.{skipped_more}
use Rattle.scan.proofs.space.skip_each.Goals as goal

pub loop-i-preserved : goal.loop-i-preserved
loop-i-preserved c = skipped_more _ _ _ c.loop-i.invariant c.loop-i-test.true (holds _ _ c.is_space.ensures c.if-not-is_space.false)
