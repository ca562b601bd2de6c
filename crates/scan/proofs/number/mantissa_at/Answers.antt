use Rattle.scan.proofs.Numbers.{whole_over, whole_rest, whole_zero}
use Rattle.scan.proofs.Steps.{fails, holds, passed_on}
use mathlib.Core.Path.{refl}
use Rattle.scan.proofs.number.mantissa_at.Goals as goal

pub returns-in_err-whole : goal.returns-in_err-whole
returns-in_err-whole c = record { part = rw (passed_on _ c.from_residual.ensures.1) (whole_over _ _ _ refl c.from.ensures c.requires.1 _ _ c.in_err-whole.ensures.counted) }

pub returns-then-is_digit : goal.returns-then-is_digit
returns-then-is_digit c = record { part = whole_zero _ _ _ refl c.from.ensures c.requires.1 _ _ c.requires.0 c.in_ok-whole.ensures.counted (rw (← c.byte_at.ensures) (holds _ _ c.is_digit.ensures c.if-is_digit.true)) }

pub returns : goal.returns
returns c =
    record { part = whole_rest _ _ _ refl c.from.ensures c.requires.1 _ _ _ c.in_ok-whole.ensures.counted (rw (← c.byte_at.ensures) (fails _ _ c.is_digit.ensures c.if-is_digit.false)) c.point_at.ensures.part }
