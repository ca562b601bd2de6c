use Rattle.std.proofs.lemmas.Bool.Decides.{nat_tests}
use Rattle.text.specs.Decimal.{exponent_of, normal, scaled}
use native.Mathlib.Omega.{arith}
use Rattle.scan.proofs.exponent.exponent_of.Goals as goal

pub returns-then-coefficient-eq0 : goal.returns-then-coefficient-eq0
unfolding normal scaled exponent_of
returns-then-coefficient-eq0 c = grind (arith, nat_tests)

pub returns-then-down : goal.returns-then-down
unfolding normal scaled exponent_of
returns-then-down c = grind (arith, nat_tests)

pub returns : goal.returns
unfolding normal scaled exponent_of
returns c = grind (arith, nat_tests)
