use Rattle.scan.proofs.Numbers.{decimals}
use Rattle.scan.proofs.Steps.{passed_on}
use Rattle.scan.specs.Numerals.{Wanting}
use Rattle.scan.proofs.number.decimals_at.Goals as goal

pub returns-in_err-b : goal.returns-in_err-b
returns-in_err-b c = record { counted = rw (passed_on _ c.from_residual.ensures.1) (λ neg. c.in_err-b.ensures.read.1 _ Wanting.point) }

pub returns : goal.returns
returns c = record { counted = decimals _ _ _ c.args.whole _ c.in_ok-b.ensures.read c.and_digit.ensures _ c.digits_at.ensures.counted }
