-- Numbers in normal form, as the code holds them.
use Rattle.std.specs.Prelude.{◌<◌, ◌^◌, ◌≤◌, ◌≡◌}
use Rattle.spell.specs.Scalars.{Numeral}
use Rattle.spell.specs.declared.normal.Normal.{Normal}
use Rattle.text.specs.Bytes.{Bytes}
use Rattle.text.specs.Ceilings.{max_digits, max_power}
use Rattle.text.specs.Decimal.{Decimal}

abbrev pub meant : Normal → Decimal
meant n = Decimal.decimal n.negative n.coefficient n.down n.power

-- The bytes `s` are the number `n`, which is within the ceilings.
pub record NormalOf (s : Bytes) (n : Normal) : Type 0 where
  pub same : (x : Decimal) → Numeral s x → meant n ≡ x
  pub small : n.coefficient < 10 ^ max_digits
  pub near : n.power ≤ max_power
