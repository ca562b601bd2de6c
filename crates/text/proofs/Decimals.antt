-- Normal form: what `zeros` and `strip` give, and its exponent.
use Prim.Native.Nat.{◌%◌, ◌*◌, ◌+◌, ◌/◌, ◌<◌, ◌^◌, ◌≤◌, suc, zero, ℕ}
use Rattle.text.specs.Decimal.{Decimal, exponent_of, normal, scaled, strip, zeros}
use borrow.Author.Tests.{eqb-false, eqb-true, ne_eqb}
use lib.Dec.{eqb, leb}
use mathlib.Core.Bool.{Bool, cond, false, true}
use mathlib.Core.Path.{◌∙◌, ◌≡◌, ap, refl, sym}
use native.Mathlib.Nat.{mul_assoc, pow-suc}
use native.Mathlib.Omega.{arith}

-- A coefficient that does not end in 0, and the power that this fixes.
pub strip_normal : (n c : ℕ) → 0 < c → c < 10 ^ n → (c ≡ strip n c * 10 ^ zeros n c) × ¬ (strip n c % 10 ≡ 0)
unfolding strip zeros
strip_normal zero c h l = absurd (omega arith)
strip_normal (suc n) c h l = by (eqb (c % 10) 0) refl (λ p q. strip_normal n (c / 10) p q)
  where
    by : (t : Bool) → eqb (c % 10) 0 ≡ t → (0 < c / 10 → c / 10 < 10 ^ n → (c / 10 ≡ strip n (c / 10) * 10 ^ zeros n (c / 10)) × ¬ (strip n (c / 10) % 10 ≡ 0))
        → (c ≡ elim t as (λ _. ℕ) [ true ↦ strip n (c / 10) | false ↦ c ] * 10 ^ elim t as (λ _. ℕ) [ true ↦ suc (zeros n (c / 10)) | false ↦ 0 ])
        × ¬ (elim t as (λ _. ℕ) [ true ↦ strip n (c / 10) | false ↦ c ] % 10 ≡ 0)
    by true e f =
        let z : c % 10 ≡ 0 = eqb-true (c % 10) 0 e in
        let (a, b) = f (omega arith) (omega arith) in
        let g : strip n (c / 10) * 10 ^ suc (zeros n (c / 10)) ≡ strip n (c / 10) * 10 ^ zeros n (c / 10) * 10 =
        ap (λ x. strip n (c / 10) * x) (pow-suc 10 (zeros n (c / 10))) ∙ sym (mul_assoc (strip n (c / 10)) (10 ^ zeros n (c / 10)) 10) in
        (omega arith, b)
    by false e f = (omega arith, eqb-false (c % 10) 0 e)

pub strip_most : (n c : ℕ) → strip n c ≤ c
unfolding strip
strip_most zero c = omega arith
strip_most (suc n) c = by (eqb (c % 10) 0) (strip_most n (c / 10))
  where
    by : (b : Bool) → strip n (c / 10) ≤ c / 10 → (elim b as (λ _. ℕ) [ true ↦ strip n (c / 10) | false ↦ c ]) ≤ c
    by true h = omega arith
    by false h = omega arith

zeros_most : (n c : ℕ) → zeros n c ≤ n
unfolding zeros
zeros_most zero c = omega arith
zeros_most (suc n) c = by (eqb (c % 10) 0) (zeros_most n (c / 10))
  where
    by : (t : Bool) → zeros n (c / 10) ≤ n → elim t as (λ _. ℕ) [ true ↦ suc (zeros n (c / 10)) | false ↦ 0 ] ≤ suc n
    by true h = omega arith
    by false h = omega arith

-- A coefficient that does not end in 0 stays as it is.
pub zeros_none : (n c : ℕ) → ¬ (c % 10 ≡ 0) → zeros n c ≡ 0
unfolding zeros
zeros_none zero c h = refl
zeros_none (suc n) c h = ap (λ b. elim b as (λ _. ℕ) [ true ↦ suc (zeros n (c / 10)) | false ↦ 0 ]) (ne_eqb (c % 10) 0 h)

pub strip_none : (n c : ℕ) → ¬ (c % 10 ≡ 0) → strip n c ≡ c
unfolding strip
strip_none zero c h = refl
strip_none (suc n) c h = ap (λ b. elim b as (λ _. ℕ) [ true ↦ strip n (c / 10) | false ↦ c ]) (ne_eqb (c % 10) 0 h)

-- What is true of both sides of a test is true of the side that it takes; the same of two tests that are one.
chosen : (P : Decimal → Type 0) (b : Bool) {x y : Decimal} → P x → P y → P (cond b x y)
chosen P true p q = p
chosen P false p q = q

both_chosen : (R : Decimal → Decimal → Type 0) (b : Bool) {x y z w : Decimal} → R x z → R y w → R (cond b x y) (cond b z w)
both_chosen R true p q = p
both_chosen R false p q = q

-- The exponent of a normal form: the sign has no part in it, ...
abbrev Alike : Decimal → Decimal → Type 0
Alike x y = exponent_of x ≡ exponent_of y

scaled_sign : (neg : Bool) (c p m : ℕ) → Alike (scaled neg c p m) (scaled false c p m)
unfolding scaled exponent_of
scaled_sign neg c p m = both_chosen Alike (leb m p) refl refl

pub normal_sign : (neg : Bool) (c n f : ℕ) (down : Bool) (e : ℕ) → exponent_of (normal neg c n f down e) ≡ exponent_of (normal false c n f down e)
unfolding normal exponent_of
normal_sign neg c n f down e = both_chosen Alike (eqb c 0) refl (both_chosen Alike down (scaled_sign neg _ _ _) (scaled_sign neg _ _ _))

-- ... and it is no more than what it is made of together.
scaled_exponent : (neg : Bool) (c p m : ℕ) {k : ℕ} → p + m ≤ k → exponent_of (scaled neg c p m) ≤ k
unfolding scaled exponent_of
scaled_exponent neg c p m {k} h = chosen (λ x. exponent_of x ≤ k) (leb m p) (omega arith) (omega arith)

pub normal_exponent : (neg : Bool) (c n f : ℕ) (down : Bool) (e : ℕ) → exponent_of (normal neg c n f down e) ≤ e + f + n
unfolding normal exponent_of
normal_exponent neg c n f down e =
    let h = zeros_most n c in
    let P : Decimal → Type 0 = λ x. exponent_of x ≤ e + f + n in
    chosen P (eqb c 0) (omega arith) (chosen P down (scaled_exponent neg _ _ _ (omega arith)) (scaled_exponent neg _ _ _ (omega arith)))
