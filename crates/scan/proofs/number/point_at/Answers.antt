use Rattle.scan.proofs.Steps.{passed_on}
use Rattle.scan.proofs.number.point_at.Goals as goal

pub returns-in_err-all : goal.returns-in_err-all
returns-in_err-all c = record { part = rw (passed_on _ c.from_residual.ensures.1) (c.in_err-all.ensures.counted _) }
