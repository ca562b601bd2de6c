use Rattle.scan.specs.Numerals.{passes}
use Rattle.std.proofs.lemmas.Bool.Decides.{nat_tests}
use Rattle.text.specs.Ceilings.{house}
use native.Mathlib.Omega.{arith}
use Rattle.scan.proofs.power.may_pass.Goals as goal

pub returns-then-before-lt2 : goal.returns-then-before-lt2
unfolding passes house
returns-then-before-lt2 c = (grind (arith, nat_tests), λ e. omega arith)

pub returns-then-before-eq2 : goal.returns-then-before-eq2
unfolding passes house
returns-then-before-eq2 c = (grind (arith, nat_tests), λ e. omega arith)

pub returns-else-before-eq2 : goal.returns-else-before-eq2
unfolding passes house
returns-else-before-eq2 c = (grind (arith, nat_tests), λ e. grind (arith, nat_tests))
