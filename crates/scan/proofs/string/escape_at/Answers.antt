use Rattle.scan.proofs.Steps.{holds, fails}
use Rattle.scan.proofs.StringLaws.{escape_one, escape_refused, unit_at, escape_short}
use native.Mathlib.Omega.{arith}
use Rattle.scan.proofs.string.escape_at.Goals as goal

pub returns-then-text-i : goal.returns-then-text-i
returns-then-text-i c = record { read = escape_short _ _ c.if-text-i.true }

pub returns-then-is_escape : goal.returns-then-is_escape
returns-then-is_escape c = record { read = (omega arith, omega arith, escape_one _ _ c.if-text-i.false (holds _ _ c.is_escape.ensures c.if-is_escape.true)) }

pub returns-then-b-ne117 : goal.returns-then-b-ne117
returns-then-b-ne117 c = record { read = escape_refused _ _ c.if-text-i.false (fails _ _ c.is_escape.ensures c.if-is_escape.false) c.if-b-ne117.true }

pub returns : goal.returns
returns c = record { read = unit_at _ _ c.if-text-i.false (fails _ _ c.is_escape.ensures c.if-is_escape.false) c.if-b-ne117.false _ c.four_at.ensures.read }
