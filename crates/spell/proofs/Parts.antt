-- A number is written in parts, one behind another: its sign, its digits, and an exponent that isn't 0.
use Prim.Native.Char.{code}
use Prim.Native.Nat.{◌+◌, ◌<◌, ◌^◌, ◌≤◌, suc, ℕ}
use Rattle.meaning.proofs.Append.{digits_append, sign_append}
use Rattle.meaning.specs.Canonical.{put_digits, put_number, put_power, put_sign}
use Rattle.meaning.proofs.NumberLength.{digits_most}
use Rattle.spell.proofs.Joining.{Joined}
use Rattle.spell.proofs.Widths.{width}
use Rattle.spell.specs.Normals.{NormalOf, meant}
use Rattle.spell.specs.Scalars.{Numeral}
use Rattle.spell.specs.declared.normal.Normal.{Normal}
use Rattle.text.specs.Bytes.{Bytes}
use Rattle.text.specs.Ceilings.{max_digits, max_power_digits}
use Rattle.text.specs.Decimal.{Decimal}
use borrow.Author.Tests.{ne_eqb}
use lib.ListN.{length, length-append}
use mathlib.Core.Bool.{Bool, false, true}
use mathlib.Core.List.{[], ◌++◌, ◌∷◌}
use mathlib.Core.Path.{◌∙◌, ◌≡◌, ap, subst⁻¹}
use native.Mathlib.Omega.{arith}

pub sign_most : (s : Bool) → length (put_sign s []) ≤ 1
unfolding put_sign
sign_most true = omega arith
sign_most false = omega arith

module _ (s : Bool) (c : ℕ) where
  pub signed_parts : (n : ℕ) → put_sign s (put_digits n c []) ≡ put_sign s [] ++ put_digits n c []
  signed_parts n = sign_append s [] (put_digits n c [])

  pub signed_length : (n : ℕ) → length (put_sign s (put_digits n c [])) ≡ length (put_sign s []) + length (put_digits n c [])
  signed_length n = ap length (signed_parts n) ∙ length-append (put_sign s []) (put_digits n c [])

  pub signed_width : c < 10 ^ max_digits → (n : ℕ) → c < 10 ^ n → 0 < n → put_sign s (put_digits max_digits c []) ≡ put_sign s (put_digits n c [])
  signed_width h n l p = ap (put_sign s) (width max_digits n c [] h l (omega arith) p)

  pub signed_most : (n : ℕ) → length (put_sign s (put_digits n c [])) ≤ suc n
  signed_most n = omega (arith, signed_length n, sign_most s, digits_most n c [])

module _ (down : Bool) (e : ℕ) where
  pub power_parts : (e ≡ 0 → ⊥) → put_power down e [] ≡ (code "e" ∷ []) ++ put_sign down (put_digits max_power_digits e [])
  unfolding put_power
  power_parts h = rw (ne_eqb e 0 h, put_power)

pub number_parts : (x : Normal) → put_number (meant x) [] ≡ put_sign x.negative (put_digits max_digits x.coefficient []) ++ put_power x.down x.power []
unfolding put_number
number_parts x =
    ap (put_sign x.negative) (digits_append max_digits x.coefficient [] (put_power x.down x.power []))
    ∙ sign_append x.negative (put_digits max_digits x.coefficient []) (put_power x.down x.power [])

pub number_sum : (x : Normal) → length (put_number (meant x) []) ≡ length (put_sign x.negative (put_digits max_digits x.coefficient [])) + length (put_power x.down x.power [])
number_sum x = ap length (number_parts x) ∙ length-append (put_sign x.negative (put_digits max_digits x.coefficient [])) (put_power x.down x.power [])

-- A number that is written in its parts is the number that the bytes are.
pub number_joined : {s : Bytes} {x : Normal} {y : Decimal} (o : Bytes) → NormalOf s x → Numeral s y → length (put_number y []) ≤ length o
    → Joined (put_number (meant x) []) (put_sign x.negative (put_digits max_digits x.coefficient [])) (put_power x.down x.power []) o
number_joined {x = x} {y = y} o k m l = record { whole = number_parts x; room = subst⁻¹ (λ z. length (put_number z []) ≤ length o) (k.same y m) l }
