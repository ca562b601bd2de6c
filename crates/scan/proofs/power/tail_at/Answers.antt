use Rattle.scan.proofs.Numbers.{tail_power}
use Rattle.scan.proofs.Numerals.{settle_fraction}
use Rattle.scan.proofs.Steps.{fails, holds}
use Rattle.scan.proofs.power.tail_at.Goals as goal

pub returns-then-is_e : goal.returns-then-is_e
returns-then-is_e c = record { part = tail_power _ _ c.args.m _ c.requires.1 (rw (← c.byte_at-b.ensures) (holds _ _ c.is_e.ensures c.if-is_e.true)) c.power_at.ensures.part }

pub returns : goal.returns
returns c = record { part = rw c.ended.ensures (settle_fraction _ c.args.m _ c.requires.0 c.requires.1 (rw (← c.byte_at-b.ensures) (fails _ _ c.is_e.ensures c.if-is_e.false))) }
