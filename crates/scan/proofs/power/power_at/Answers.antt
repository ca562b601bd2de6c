use Rattle.scan.proofs.Numbers.{mark_rest}
use Rattle.scan.proofs.power.power_at.Goals as goal

pub returns : goal.returns
returns c = record { part = mark_rest _ _ _ c.byte_at-b.ensures c.args.m _ c.requires c.behind_sign.ensures c.signed_power.ensures.part }
