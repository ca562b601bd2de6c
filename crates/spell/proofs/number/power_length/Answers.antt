use Rattle.spell.proofs.Parts.{signed_most}
use Rattle.text.specs.Ceilings.{max_power_digits}
use native.Mathlib.Omega.{arith}
use Rattle.spell.proofs.number.power_length.Goals as goal

pub overflow_add-result : goal.overflow_add-result
overflow_add-result c = omega (arith, c.signed_length.ensures max_power_digits (omega arith) (omega arith), signed_most c.args.down c.args.power max_power_digits)
