-- Digits are counted by the powers of ten that a number reaches, nine at a time.
use Prim.Native.Nat.{◌+◌, ◌/◌, ◌<◌, ◌^◌, ◌≤◌, suc, zero, ℕ}
use Rattle.meaning.specs.Canonical.{put_digits}
use Rattle.spell.proofs.Widths.{digit, digits_last, digits_one, width, written}
use Rattle.spell.specs.Numerals.{reach}
use Rattle.text.specs.Ceilings.{max_digits}
use borrow.Author.Tests.{le-leb, lt-leb, ltb-false, ltb-true}
use lib.Dec.{ltb}
use lib.ListN.{length, length-append}
use mathlib.Core.Bool.{Bool, cond, false, true}
use mathlib.Core.List.{[], ◌∷◌}
use mathlib.Core.Path.{◌∙◌, ◌≡◌, ap, ap₂, refl, sym}
use native.Mathlib.Omega.{arith}

module _ (b c : ℕ) where
  pub reach_one : b ≤ c → 1 ≡ reach b c
  reach_one h = ap (λ t. cond t 1 0) (sym (le-leb b c h))

  pub reach_none : c < b → 0 ≡ reach b c
  reach_none h = ap (λ t. cond t 1 0) (sym (lt-leb b c h))

-- A tenth has one digit fewer.
pub length_one : (c : ℕ) → c < 10 → length (written c) ≡ 1
length_one c h = ap length (digits_one max_digits c [] h (omega arith))

length_last : (c : ℕ) → c < 10 ^ max_digits → 10 ≤ c → length (written c) ≡ 1 + length (written (c / 10))
length_last c s h = ap length (digits_last max_digits c h s) ∙ length-append (written (c / 10)) (digit c ∷ []) ∙ omega arith

-- One, and one more for each of the first `k` powers of ten that `c` reaches.
unfoldable places : ℕ → ℕ → ℕ
places zero c = 1
places (suc k) c = places k c + reach (10 ^ suc k) c

-- All of them are reached.
places_all : (k c : ℕ) → 10 ^ k ≤ c → places k c ≡ suc k
unfolding places
places_all zero c h = refl
places_all (suc k) c h = ap₂ ◌+◌ (places_all k c (omega arith)) (sym (reach_one (10 ^ suc k) c h)) ∙ omega arith

length_all : (k c : ℕ) → c < 10 ^ max_digits → 10 ^ k ≤ c → c < 10 ^ suc k → length (written c) ≡ suc k
length_all zero c s h l = length_one c l
length_all (suc k) c s h l =
    let e = length_all k (c / 10) (omega arith) (omega arith) (omega arith) in
    omega (arith, e, length_last c s (omega arith))

places_length : (k c : ℕ) → c < 10 ^ max_digits → c < 10 ^ suc k → places k c ≡ length (written c)
unfolding places
places_length zero c s h = sym (length_one c h)
places_length (suc k) c s h = by (ltb c (10 ^ suc k)) refl (λ l. omega (arith, places_length k c s l, reach_none (10 ^ suc k) c l))
  where
    by : (b : Bool) → ltb c (10 ^ suc k) ≡ b → (c < 10 ^ suc k → places (suc k) c ≡ length (written c)) → places (suc k) c ≡ length (written c)
    by true e f = f (ltb-true c (10 ^ suc k) e)
    by false e f = let l = ltb-false c (10 ^ suc k) e in places_all (suc k) c l ∙ sym (length_all (suc k) c s l h)

pub few_count : {c a₁ a₂ a₃ a₄ a₅ a₆ a₇ a₈ : ℕ} → c < 10 ^ 9
    → a₁ ≡ reach (10 ^ 1) c → a₂ ≡ reach (10 ^ 2) c → a₃ ≡ reach (10 ^ 3) c → a₄ ≡ reach (10 ^ 4) c → a₅ ≡ reach (10 ^ 5) c → a₆ ≡ reach (10 ^ 6) c → a₇ ≡ reach (10 ^ 7) c → a₈ ≡ reach (10 ^ 8) c
    → 1 + a₁ + a₂ + a₃ + a₄ + a₅ + a₆ + a₇ + a₈ ≡ length (written c)
unfolding places
few_count {c} h e₁ e₂ e₃ e₄ e₅ e₆ e₇ e₈ = rw (e₁, e₂, e₃, e₄, e₅, e₆, e₇, e₈) (places_length 8 c (omega arith) h)

-- Behind the digits of a part stand as many as it was divided by ten.
tenths : ℕ → ℕ → ℕ
tenths zero c = c
tenths (suc k) c = tenths k (c / 10)

power_some : (k : ℕ) → 1 ≤ 10 ^ k
power_some zero = omega arith
power_some (suc k) = omega (arith, power_some k)

tenths_length : (k c : ℕ) → c < 10 ^ max_digits → 10 ^ k ≤ c → length (written c) ≡ k + length (written (tenths k c))
unfolding tenths
tenths_length zero c s h = omega arith
tenths_length (suc k) c s h =
    let e = tenths_length k (c / 10) (omega arith) (omega arith) in
    omega (arith, e, length_last c s (omega (arith, power_some k)))

nine_tenths : (c : ℕ) → tenths 9 c ≡ c / 10 ^ 9
unfolding tenths
nine_tenths c = omega arith

pub many_count : {c d : ℕ} → c < 10 ^ max_digits → 10 ^ 9 ≤ c → d ≡ length (written (c / 10 ^ 9)) → 9 + d ≡ length (written c)
many_count {c} s h e = omega (arith, e, tenths_length 9 c s h, ap (λ x. length (written x)) (nine_tenths c))

-- Any width that is wide enough.
pub counted : {c r : ℕ} → c < 10 ^ max_digits → r ≡ length (written c) → (n : ℕ) → c < 10 ^ n → 0 < n → r ≡ length (put_digits n c [])
counted {c} s e n l p = e ∙ ap length (width max_digits n c [] s l (omega arith) p)
