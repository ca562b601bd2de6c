-- A coefficient with its sign, and the exponent behind it.
use Rattle.meaning.specs.Canonical.{put_number}
use Rattle.spell.proofs.Joining.{both_put, put_as}
use Rattle.spell.proofs.Parts.{number_joined}
use Rattle.text.specs.Ceilings.{max_digits}
use mathlib.Core.List.{[]}
use mathlib.Core.Path.{ap}
use native.Mathlib.Omega.{arith}
use Rattle.spell.proofs.number.put_number.Goals as goal

pub returns : goal.returns
returns c = record { put = λ y m. let j = number_joined c.args.out.now c.normal_of-x.ensures.normal c.requires.1 c.requires.2 in put_as (ap (λ z. put_number z []) (c.normal_of-x.ensures.normal.same y m)) (both_put j (c.put_signed-n.ensures.put max_digits c.normal_of-x.ensures.normal.small (omega arith)) c.put_power.ensures.put) }
