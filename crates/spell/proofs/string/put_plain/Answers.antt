use Rattle.std.proofs.Common.{arith}
use Rattle.spell.proofs.StringLaws.{copied_more}
use Rattle.spell.proofs.string.put_plain.Goals as goal

pub loop-i-preserved : goal.loop-i-preserved
loop-i-preserved c = copied_more _ _ _ c.requires.2 c.loop-i.invariant (omega arith) (cc)
