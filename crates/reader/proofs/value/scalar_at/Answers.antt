use Rattle.reader.proofs.Tokens.{false_scalar, no_scalar, null_scalar, string_scalar, true_scalar}
use Rattle.scan.proofs.Steps.{fails}
use Rattle.reader.proofs.value.scalar_at.Goals as goal

pub returns-then-b-eq34 : goal.returns-then-b-eq34
returns-then-b-eq34 c = record { read = string_scalar _ c.requires.0 _ c.if-b-eq34.true c.string_at.ensures.read }

pub returns-then-b-eq110 : goal.returns-then-b-eq110
returns-then-b-eq110 c = record { read = null_scalar _ c.requires.0 _ c.if-b-eq110.true c.word_at.ensures.read }

pub returns-then-b-eq116 : goal.returns-then-b-eq116
returns-then-b-eq116 c = record { read = true_scalar _ c.requires.0 _ c.if-b-eq116.true c.word_at-then-b-eq116.ensures.read }

pub returns-then-b-eq102 : goal.returns-then-b-eq102
returns-then-b-eq102 c = record { read = false_scalar _ c.requires.0 _ c.if-b-eq102.true c.word_at-then-b-eq102.ensures.read }

pub returns : goal.returns
returns c = record { read = no_scalar _ c.requires.0 c.requires.1 (fails _ _ c.opens_number.ensures c.if-opens_number.false) c.if-b-eq110.false c.if-b-eq116.false c.if-b-eq102.false c.if-b-eq34.false c.requires.2 c.requires.3 }
