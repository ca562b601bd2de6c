use Rattle.scan.proofs.Counts.{few_below}
use native.Mathlib.Omega.{arith}
use Rattle.scan.proofs.digits.and_digit.Goals as goal

pub overflow_mul-result : goal.overflow_mul-result
overflow_mul-result c = omega (arith, few_below)

pub overflow_add-result-2 : goal.overflow_add-result-2
overflow_add-result-2 c = omega (arith, few_below)
