-- A number in fewest digits: the width that it must keep to has no part in it, and its last digit stands apart.
use Prim.Native.Char.{code}
use Prim.Native.Nat.{◌%◌, ◌+◌, ◌/◌, ◌<◌, ◌^◌, ◌≤◌, suc, zero, ℕ}
use Rattle.meaning.proofs.Append.{digits_append}
use Rattle.meaning.specs.Canonical.{put_digits}
use Rattle.text.specs.Bytes.{Bytes}
use Rattle.text.specs.Ceilings.{max_digits}
use borrow.Author.Tests.{le-ltb, lt-ltb, ltb-false, ltb-true}
use lib.Dec.{ltb}
use lib.ListN.{length}
use mathlib.Core.Bool.{Bool, false, true}
use mathlib.Core.List.{[], ◌++◌, ◌∷◌}
use mathlib.Core.Path.{◌∙◌, ◌≡◌, ap, refl, sym}
use native.Mathlib.Omega.{arith}

-- The digits of `c`.
abbrev pub written : ℕ → Bytes
written c = put_digits max_digits c []

-- The last digit of `c`.
abbrev pub digit : ℕ → ℕ
digit c = code "0" + c % 10

pub digits_one : (n c : ℕ) (o : Bytes) → c < 10 → 0 < n → put_digits n c o ≡ digit c ∷ o
unfolding put_digits
digits_one zero c o h l = absurd (omega arith)
digits_one (suc n) c o h l = let e : c ≡ c % 10 = omega arith in rw (lt-ltb c 10 h, put_digits) (ap (λ x. (code "0" + x) ∷ o) e)

digits_more : (n c : ℕ) (o : Bytes) → 10 ≤ c → put_digits (suc n) c o ≡ put_digits n (c / 10) (digit c ∷ o)
unfolding put_digits
digits_more n c o h = rw (le-ltb c 10 h, put_digits)

-- Two digits need a width over 1.
roomy : (n c : ℕ) → 10 ≤ c → c < 10 ^ suc n → 0 < n
roomy zero c h l = absurd (omega arith)
roomy (suc n) c h l = omega arith

-- Two widths that are wide enough.
pub width : (n m c : ℕ) (o : Bytes) → c < 10 ^ n → c < 10 ^ m → 0 < n → 0 < m → put_digits n c o ≡ put_digits m c o
width zero m c o h g k l = absurd (omega arith)
width (suc n) zero c o h g k l = absurd (omega arith)
width (suc n) (suc m) c o h g k l = by (ltb c 10) refl (λ h g k l. width n m (c / 10) (digit c ∷ o) h g k l)
  where
    by : (b : Bool) → ltb c 10 ≡ b
        → (c / 10 < 10 ^ n → c / 10 < 10 ^ m → 0 < n → 0 < m → put_digits n (c / 10) (digit c ∷ o) ≡ put_digits m (c / 10) (digit c ∷ o))
        → put_digits (suc n) c o ≡ put_digits (suc m) c o
    by true e f = let s : c < 10 = ltb-true c 10 e in digits_one (suc n) c o s k ∙ sym (digits_one (suc m) c o s l)
    by false e f =
        let s : 10 ≤ c = ltb-false c 10 e in
        digits_more n c o s ∙ f (omega arith) (omega arith) (roomy n c s h) (roomy m c s g) ∙ sym (digits_more m c o s)

-- The digits before the last are those of a tenth.
pub digits_last : (n c : ℕ) → 10 ≤ c → c < 10 ^ n → put_digits n c [] ≡ put_digits n (c / 10) [] ++ (digit c ∷ [])
digits_last zero c h l = absurd (omega arith)
digits_last (suc n) c h l =
    digits_more n c [] h ∙ width n (suc n) (c / 10) (digit c ∷ []) (omega arith) (omega arith) (roomy n c h l) (omega arith)
    ∙ digits_append (suc n) (c / 10) [] (digit c ∷ [])

-- The last digit of any number, behind the digits before it, if it has any.
pub record Last (n c : ℕ) : Type 0 where
  pub front : Bytes
  pub all : put_digits n c [] ≡ front ++ (digit c ∷ [])
  pub more : 0 < length front → front ≡ put_digits n (c / 10) []

pub last : (n c : ℕ) → c < 10 ^ n → 0 < n → Last n c
last n c h l = by (ltb c 10) refl
  where
    by : (b : Bool) → ltb c 10 ≡ b → Last n c
    by true e = record { front = []; all = digits_one n c [] (ltb-true c 10 e) l; more = λ z. absurd (omega arith) }
    by false e = record { front = put_digits n (c / 10) []; all = digits_last n c (ltb-false c 10 e) h; more = λ z. refl }
