-- Each turn stores the last digit of what is left, before the digits stored so far.
use Rattle.std.proofs.Common.{arith}
use Rattle.spell.proofs.Filling.{filling_end, filling_step}
use Rattle.text.specs.Ceilings.{max_digits}
use Rattle.spell.proofs.digits.put_digits.Goals as goal

pub loop-i-preserved : goal.loop-i-preserved
loop-i-preserved c = filling_step c.requires.0 c.requires.1 c.loop-i-test.true c.loop-i.invariant

pub returns : goal.returns
returns c = record { put = filling_end c.requires.0 c.requires.1 (c.digits_length-n.ensures max_digits c.requires.0 (omega arith)) c.loop-i-test.false c.loop-i.invariant }
