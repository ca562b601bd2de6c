-- What the leaf reads is the number that the bytes are, and it refuses no number.
use Rattle.spell.proofs.Meeting.{number_opens, read_normal, read_some}
use Rattle.spell.proofs.normal.normal_of.Goals as goal

pub number_at-requires : goal.number_at-requires
number_at-requires c = number_opens c.requires.1

pub returns-in_default : goal.returns-in_default
returns-in_default c = record { normal = absurd (read_some c.in_default.ensures.read c.requires.1) }

pub returns : goal.returns
returns c = record { normal = read_normal c.in-Ok.ensures.read c.requires.1 c.normalised.ensures }
