use Rattle.scan.proofs.Numerals.{digit_short, digit_wrong, no_digit}
use Rattle.scan.proofs.Steps.{fails}
use Rattle.scan.proofs.run.digit_at.Goals as goal

pub returns-then-text-at : goal.returns-then-text-at
returns-then-text-at c = record { read = (no_digit _ _ c.if-text-at.true, digit_short _ _ c.if-text-at.true) }

pub returns-then-not-is_digit : goal.returns-then-not-is_digit
returns-then-not-is_digit c =
    record {
      read =
          let d = fails _ _ c.is_digit.ensures c.if-not-is_digit.true in
          (d, digit_wrong _ _ c.if-text-at.false d);
    }
