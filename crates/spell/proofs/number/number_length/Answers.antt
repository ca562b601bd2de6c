use Rattle.meaning.proofs.NumberLength.{power_length}
use Rattle.spell.proofs.Parts.{signed_most}
use Rattle.text.specs.Ceilings.{max_digits}
use mathlib.Core.List.{[]}
use native.Mathlib.Omega.{arith}
use Rattle.spell.proofs.number.number_length.Goals as goal

pub overflow_add-result : goal.overflow_add-result
overflow_add-result c = omega (arith, c.signed_length.ensures max_digits c.normal_of-x.ensures.normal.small (omega arith), signed_most c.normal_of-x.result.negative c.normal_of-x.result.coefficient max_digits, c.power_length.ensures, power_length c.normal_of-x.result.down c.normal_of-x.result.power [])
