-- What bytes end in, as far as numbers go, and the longest such ending, found from left to right.
use Prim.Native.Char.{code}
use Prim.Native.Nat.{◌≤◌, suc, zero, ℕ}
use Rattle.text.proofs.Tests.{digit_most, one_of, true_is}
use Rattle.text.specs.Bytes.{Bytes, is_digit, is_e}
use lib.Dec.{T, eqb, leb}
use mathlib.Core.Bool.{Bool, ◌||◌, cond, false, true}
use mathlib.Core.List.{[], ◌++◌, ◌∷◌, append_assoc, append-nil}
use mathlib.Core.Path.{◌∙◌, ◌≡◌, ap, refl, subst, subst⁻¹}
use native.Mathlib.Omega.{arith}

-- The sign of an exponent.
abbrev pub is_sign : ℕ → Bool
is_sign b = eqb b (code "+") || eqb b (code "-")

-- So many digits, the mark of an exponent (`e` or `E`), or an exponent of so many digits.
pub data Ending : Type 0 where
  digits : ℕ → Ending
  mark : Ending
  power : ℕ → Ending

-- `Ends x p`: the bytes `p` end in `x`, whatever stands before it. An exponent is its mark, a sign or none, and digits.
pub data Ends : Ending → Bytes → Type 0 where
  none : {p : Bytes} → Ends (Ending.digits 0) p
  digit : {p : Bytes} {n : ℕ} (b : ℕ) → Ends (Ending.digits n) p → T (is_digit b) → Ends (Ending.digits (suc n)) (p ++ (b ∷ []))
  mark : (p : Bytes) (b : ℕ) → T (is_e b) → Ends Ending.mark (p ++ (b ∷ []))
  unsigned : {p : Bytes} → Ends Ending.mark p → Ends (Ending.power 0) p
  signed : {p : Bytes} (b : ℕ) → Ends Ending.mark p → T (is_sign b) → Ends (Ending.power 0) (p ++ (b ∷ []))
  power : {p : Bytes} {n : ℕ} (b : ℕ) → Ends (Ending.power n) p → T (is_digit b) → Ends (Ending.power (suc n)) (p ++ (b ∷ []))

-- The ending behind a digit more, behind a sign, and behind any byte.
unfoldable pub and_one : Ending → Ending
and_one (Ending.digits n) = Ending.digits (suc n)
and_one Ending.mark = Ending.power 1
and_one (Ending.power n) = Ending.power (suc n)

unfoldable pub and_sign : Ending → Ending
and_sign (Ending.digits n) = Ending.digits 0
and_sign Ending.mark = Ending.power 0
and_sign (Ending.power n) = Ending.digits 0

unfoldable pub next : Ending → ℕ → Ending
next x b = cond (is_digit b) (and_one x) (cond (is_e b) Ending.mark (cond (is_sign b) (and_sign x) (Ending.digits 0)))

-- No digit and no sign of an exponent stands last. (The last letter of `true` may be taken for an exponent's mark.)
unfoldable pub bare : Ending → Bool
bare (Ending.digits zero) = true
bare (Ending.digits (suc n)) = false
bare Ending.mark = true
bare (Ending.power n) = false

-- The ending of bytes behind others that end in `x`, and of bytes alone.
unfoldable pub ending_from : Ending → Bytes → Ending
ending_from x [] = x
ending_from x (b ∷ p) = ending_from (next x b) p

abbrev pub ending : Bytes → Ending
ending p = ending_from (Ending.digits 0) p

-- How the last byte changes it, by the byte's class.
ending_last : (x : Ending) (p : Bytes) (b : ℕ) → ending_from x (p ++ (b ∷ [])) ≡ next (ending_from x p) b
unfolding ending_from
ending_last x [] b = refl
ending_last x (c ∷ p) b = ending_last (next x c) p b

pub next_digit : (x : Ending) (b : ℕ) → T (is_digit b) → next x b ≡ and_one x
unfolding next
next_digit x b t = rw (true_is (is_digit b) t)

pub next_mark : (x : Ending) (b : ℕ) → T (is_e b) → next x b ≡ Ending.mark
unfolding next
next_mark x b t = one_of (λ b. next x b ≡ Ending.mark) b (code "E") (code "e") t refl refl

next_sign : (x : Ending) (b : ℕ) → T (is_sign b) → next x b ≡ and_sign x
unfolding next
next_sign x b t = one_of (λ b. next x b ≡ and_sign x) b (code "+") (code "-") t refl refl

-- A letter is no digit and no sign.
pub next_letter : (x : Ending) (b : ℕ) → code "a" ≤ b → T (bare (next x b))
unfolding next bare
next_letter x b l = by (is_digit b) (is_e b) (is_sign b) (λ t. omega (arith, digit_most b t)) (λ t. sign_low t)
  where
    sign_low : T (is_sign b) → ⊥
    sign_low t = one_of (λ b. code "a" ≤ b → ⊥) b (code "+") (code "-") t (λ h. omega arith) (λ h. omega arith) l

    by : (d e s : Bool) → (T d → ⊥) → (T s → ⊥) → T (bare (cond d (and_one x) (cond e Ending.mark (cond s (and_sign x) (Ending.digits 0)))))
    by true e s f g = absurd (f tt)
    by false true s f g = tt
    by false false true f g = absurd (g tt)
    by false false false f g = tt

-- Bytes end in their ending.
ends_one : (x : Ending) {p : Bytes} (b : ℕ) → T (is_digit b) → Ends x p → Ends (and_one x) (p ++ (b ∷ []))
unfolding and_one
ends_one (Ending.digits n) b t h = Ends.digit b h t
ends_one Ending.mark b t h = Ends.power b (Ends.unsigned h) t
ends_one (Ending.power n) b t h = Ends.power b h t

ends_sign : (x : Ending) {p : Bytes} (b : ℕ) → T (is_sign b) → Ends x p → Ends (and_sign x) (p ++ (b ∷ []))
unfolding and_sign
ends_sign (Ending.digits n) b t h = Ends.none
ends_sign Ending.mark b t h = Ends.signed b h t
ends_sign (Ending.power n) b t h = Ends.none

ends_next : {x : Ending} {p : Bytes} (b : ℕ) → Ends x p → Ends (next x b) (p ++ (b ∷ []))
unfolding next
ends_next {x} {p} b h = by (is_digit b) (is_e b) (is_sign b) (λ t. t) (λ t. t) (λ t. t)
  where
    by : (d e s : Bool) → (T d → T (is_digit b)) → (T e → T (is_e b)) → (T s → T (is_sign b)) → Ends (cond d (and_one x) (cond e Ending.mark (cond s (and_sign x) (Ending.digits 0)))) (p ++ (b ∷ []))
    by true e s f g k = ends_one x b (f tt) h
    by false true s f g k = Ends.mark p b (g tt)
    by false false true f g k = ends_sign x b (k tt) h
    by false false false f g k = Ends.none

ends_from : (x : Ending) (q p : Bytes) → Ends x q → Ends (ending_from x p) (q ++ p)
unfolding ending_from
ends_from x q [] h = subst⁻¹ (Ends x) (append-nil q) h
ends_from x q (b ∷ p) h = subst (Ends (ending_from (next x b) p)) (append_assoc q (b ∷ []) p) (ends_from (next x b) (q ++ (b ∷ [])) p (ends_next b h))

pub ends : (p : Bytes) → Ends (ending p) p
ends p = ends_from (Ending.digits 0) [] p (Ends.none {p = []})

-- The digits of an ending.
unfoldable pub count : Ending → ℕ
count (Ending.digits n) = n
count Ending.mark = 0
count (Ending.power n) = n

pub count_one : (x : Ending) → count (and_one x) ≡ suc (count x)
unfolding count and_one
count_one (Ending.digits n) = refl
count_one Ending.mark = refl
count_one (Ending.power n) = refl

pub few_bare : (x : Ending) → T (bare x) → T (leb (count x) 1)
unfolding count bare
few_bare (Ending.digits zero) t = tt
few_bare (Ending.digits (suc n)) t = absurd t
few_bare Ending.mark t = tt
few_bare (Ending.power n) t = absurd t

-- Whatever else bytes end in is a part of their ending: no more digits, the same mark, the same exponent.
Within : Ending → Ending → Type 0
Within (Ending.digits n) y = n ≤ count y
Within Ending.mark y = y ≡ Ending.mark
Within (Ending.power n) y = and_one y ≡ Ending.power (suc n)

within : {x : Ending} {p : Bytes} → Ends x p → Within x (ending p)
unfolding Within and_one and_sign
within Ends.none = omega arith
within (Ends.digit {p = p} b h t) =
    let e : count (ending (p ++ (b ∷ []))) ≡ suc (count (ending p)) = ap count (ending_last (Ending.digits 0) p b ∙ next_digit (ending p) b t) ∙ count_one (ending p) in
    omega (arith, within h)
within (Ends.mark p b t) = ending_last (Ending.digits 0) p b ∙ next_mark (ending p) b t
within (Ends.unsigned h) = ap and_one (within h)
within (Ends.signed {p = p} b h t) = ap and_one (ending_last (Ending.digits 0) p b ∙ next_sign (ending p) b t ∙ ap and_sign (within h))
within (Ends.power {p = p} b h t) = ap and_one (ending_last (Ending.digits 0) p b ∙ next_digit (ending p) b t ∙ within h)

pub digits_within : {n : ℕ} {p : Bytes} → Ends (Ending.digits n) p → n ≤ count (ending p)
unfolding Within
digits_within h = within h

pub power_within : {n : ℕ} {p : Bytes} → Ends (Ending.power n) p → and_one (ending p) ≡ Ending.power (suc n)
unfolding Within
power_within h = within h
