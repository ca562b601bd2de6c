use Rattle.scan.proofs.Steps.{fails}
use Rattle.scan.proofs.StringLaws.{hex_refused, hex_short}
use Rattle.scan.proofs.string.hex_at.Goals as goal

pub returns-then-text-i : goal.returns-then-text-i
returns-then-text-i c = record { read = hex_short _ _ c.if-text-i.true }

pub returns : goal.returns
returns c = record { read = hex_refused _ _ c.if-text-i.false (fails _ _ c.is_hex.ensures c.if-is_hex.false) }
