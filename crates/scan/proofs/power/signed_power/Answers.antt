use Rattle.scan.proofs.Steps.{passed_on}
use Rattle.scan.proofs.Numbers.{sign_rest}
use Rattle.scan.specs.Numerals.{Wanting}
use Rattle.scan.proofs.power.signed_power.Goals as goal

pub returns-in_err-b : goal.returns-in_err-b
returns-in_err-b c = record { part = rw (passed_on _ c.from_residual.ensures.1) (c.in_err-b.ensures.read.1 _ Wanting.sign) }

pub returns : goal.returns
returns c = record { part = sign_rest _ _ _ c.args.m _ _ c.in_ok-b.ensures.read (rw (← c.from.ensures) c.power_rest.ensures.part) }
