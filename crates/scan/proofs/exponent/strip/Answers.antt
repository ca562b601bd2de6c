-- What the coefficient is without its last zeros stays the same as they are taken off.
use Rattle.scan.proofs.Zeros.{strip_nought, strip_step, zeros_nought, zeros_step}
use Rattle.text.proofs.Decimals.{strip_none, zeros_none}
use native.Mathlib.Omega.{arith}
use Rattle.scan.proofs.exponent.strip.Goals as goal

pub returns-then-c-ne0 : goal.returns-then-c-ne0
returns-then-c-ne0 c = record { coefficient = grind (arith, strip_none); zeros = grind (arith, zeros_none) }

pub loop-zeros-preserved : goal.loop-zeros-preserved
loop-zeros-preserved c = (grind (arith, strip_step), grind (arith, zeros_step))

pub returns : goal.returns
returns c = record { coefficient = grind (arith, strip_nought); zeros = grind (arith, zeros_nought) }
