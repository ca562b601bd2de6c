use Rattle.scan.proofs.Steps.{passed_on}
use Rattle.scan.proofs.Numbers.{number_rest, number_spoilt}
use Rattle.scan.proofs.number.number_at.Goals as goal

pub returns-in_err-lead : goal.returns-in_err-lead
returns-in_err-lead c = record { read = rw (passed_on _ c.from_residual.ensures.1) (number_spoilt _ _ c.requires.0 c.requires.1 _ c.behind_minus-j.ensures c.in_err-lead.ensures.read) }

pub returns : goal.returns
returns c = record { read = number_rest _ _ c.requires.0 c.requires.1 _ _ c.behind_minus-j.ensures c.in_ok-lead.ensures.read c.mantissa_at.ensures.part }
