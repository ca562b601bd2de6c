use Rattle.meaning.proofs.NumberLength.{digits_most}
use Rattle.spell.proofs.Parts.{sign_most}
use Rattle.text.specs.Ceilings.{max_digits}
use mathlib.Core.List.{[]}
use native.Mathlib.Omega.{arith}
use Rattle.spell.proofs.number.signed_length.Goals as goal

pub overflow_add-result : goal.overflow_add-result
overflow_add-result c = omega (arith, c.sign_length.ensures, sign_most c.args.negative, c.digits_length.ensures max_digits c.requires (omega arith), digits_most max_digits c.args.c [])
