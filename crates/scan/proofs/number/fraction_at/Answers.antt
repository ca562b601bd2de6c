use Rattle.scan.proofs.Numbers.{point_full, point_none, point_rest}
use native.Mathlib.Omega.{arith}
use Rattle.scan.proofs.number.fraction_at.Goals as goal

pub returns-then-b-ne46 : goal.returns-then-b-ne46
returns-then-b-ne46 c = record { counted = point_none _ c.args.whole _ c.byte_at-b.ensures c.requires.0 c.requires.1 c.if-b-ne46.true }

pub returns-then-whole-eq-MAX_DIGITS : goal.returns-then-whole-eq-MAX_DIGITS
returns-then-whole-eq-MAX_DIGITS c = record { counted = point_full _ c.args.whole _ c.byte_at-b.ensures c.if-b-ne46.false c.if-whole-eq-MAX_DIGITS.true }

pub returns : goal.returns
returns c = record { counted = point_rest _ c.args.whole _ c.byte_at-b.ensures c.if-b-ne46.false _ (omega arith) c.decimals_at.ensures.counted }
