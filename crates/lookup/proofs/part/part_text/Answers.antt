use Rattle.lookup.proofs.Parting.{part_found, part_none, part_room}
use native.Mathlib.Omega.{arith}
use Rattle.lookup.proofs.part.part_text.Goals as goal

pub returns-in_default : goal.returns-in_default
returns-in_default c = record { part = part_none c.in_default.field-0 c.in_default.ensures.finder }

pub word_at-requires : goal.word_at-requires
word_at-requires c = omega (arith, part_room c.in-Ok.ensures.finder)

pub word_at-requires-2 : goal.word_at-requires-2
word_at-requires-2 c = omega (arith, part_room c.in-Ok.ensures.finder)

pub returns : goal.returns
returns c = record { part = part_found c.in-Ok.ensures.finder c.word_at.ensures c.word_at-2.ensures }
