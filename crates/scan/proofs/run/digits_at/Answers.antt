-- The digits up to `i` are counted in `d`; one that is too many ends the loop.
use Rattle.scan.proofs.Counts.{counted_many, counted_none, counted_one}
use Rattle.scan.proofs.Numerals.{no_digit}
use Rattle.scan.proofs.Steps.{fails, holds}
use mathlib.Core.Path.{refl}
use native.Mathlib.Omega.{arith}
use Rattle.scan.proofs.run.digits_at.Goals as goal

pub loop-i-init : goal.loop-i-init
loop-i-init c = (counted_none _ _ c.requires, refl)

pub returns-then-not-is_digit : goal.returns-then-not-is_digit
returns-then-not-is_digit c = record { counted = (c.loop-i.invariant.0, rw c.loop-i.invariant.1 (fails _ _ c.is_digit.ensures c.if-not-is_digit.true)) }

pub returns-then-d-eq-MAX_DIGITS : goal.returns-then-d-eq-MAX_DIGITS
returns-then-d-eq-MAX_DIGITS c =
    record { counted = counted_many _ _ _ _ c.loop-i.invariant c.loop-i-test.true (holds _ _ c.is_digit.ensures c.if-not-is_digit.false) (omega arith) }

pub loop-i-preserved : goal.loop-i-preserved
loop-i-preserved c = counted_one _ _ _ _ c.loop-i.invariant c.loop-i-test.true (holds _ _ c.is_digit.ensures c.if-not-is_digit.false) (omega arith) _ c.and_digit-d.ensures

pub returns : goal.returns
returns c = record { counted = (c.loop-i.invariant.0, no_digit c.args.text.now c.loop-i.d.end (omega arith)) }
