-- The number leaf's answers, part by part.
use Prim.Native.Char.{code}
use Prim.Native.Nat.{◌+◌, ◌-◌, ◌<◌, ◌≤◌, ℕ}
use Rattle.scan.proofs.Counts.{Joined}
use Rattle.scan.proofs.Numerals.{digit_bounds, digit_settles, first_nonzero, first_zero, fraction_mark, mark_minus, mark_plus, minus_first, no_point, no_sign, onto_settled, onto_spoilt, point_digit, point_many, sign_digit, value_first, value_minus, whole_point, zero_whole}
use Rattle.scan.proofs.Steps.{differs, stands}
use Rattle.scan.specs.Answers.{at}
use Rattle.scan.specs.Numbers.{NumberAt, opens_number}
use Rattle.scan.specs.Numerals.{BehindMinus, BehindSign, DigitAt, DigitsAt, FractionAt, Onto, PartAt, Settled, Spoilt, Wanting, WholeAt, behind_decimal, behind_fraction, behind_mark, behind_point, behind_power, behind_sign, behind_whole, first}
use Rattle.scan.specs.declared.digits.Digits.{Digits}
use Rattle.scan.specs.declared.exponent.Mantissa.{Mantissa}
use Rattle.scan.specs.declared.number.Written.{Written}
use Rattle.scan.specs.declared.refusal.Refusal.{Refusal}
use Rattle.std.specs.Prelude.{Err, Ok, Result}
use Rattle.text.proofs.Digits.{and_digit}
use Rattle.text.proofs.Machine.{Numeral, Stack, State}
use Rattle.text.proofs.Tests.{is_true}
use Rattle.text.specs.Bytes.{Bytes, is_digit, is_e}
use Rattle.text.specs.Ceilings.{max_digits}
use borrow.Author.Tests.{eq-eqb, ne_eqb}
use lib.Dec.{T, T_not, eqb}
use lib.ListN.{get_or, length}
use mathlib.Core.Bool.{Bool, false, not, true}
use mathlib.Core.Path.{◌∙◌, ◌≡◌, sym}
use native.Mathlib.Omega.{arith}

onto_part : (t : Bytes) (s s' : Numeral) (i j : ℕ) (r : Result Written Refusal) → i ≤ j → Onto t s i s' j → PartAt t s' j r → PartAt t s i r
onto_part t s s' i j (Ok w) h x y = onto_settled h x y
onto_part t s s' i j (Err e) h x y = onto_spoilt x y

digit_there : (t : Bytes) (i b : ℕ) → DigitAt t i (Ok b) → T (is_digit (get_or t i 0))
digit_there t i b (h, e, d) = rw (← e) (is_true d)

-- An exponent's first digit, the sign before it, and its `e`.
pub sign_rest : (t : Bytes) (i b : ℕ) (m : Mantissa) (down : Bool) (r : Result Written Refusal) → DigitAt t i (Ok b) → PartAt t (behind_power m down (b - 48) 1) (i + 1) r → PartAt t (behind_sign m down) i r
sign_rest t i b m down r d =
    let g : and_digit 0 (get_or t i 0) ≡ b - 48 = omega arith in
    onto_part t _ _ i (i + 1) r (omega arith) (rw g at (sign_digit t i d.0 (digit_there t i b d) m down))

module _ (t : Bytes) (i b : ℕ) (e : b ≡ get_or t i 0) where
  sign_in : (b ≡ 0 → ⊥) → i < length t
  sign_in f = stands t i (λ g. f (e ∙ g))

  sign_bound : {j : ℕ} → i ≤ length t → BehindSign b i j → (i ≤ j) × (j ≤ length t)
  sign_bound h (BehindSign.plus f g) = let l = sign_in (λ z. absurd (omega arith)) in (omega arith, omega arith)
  sign_bound h (BehindSign.minus f g) = let l = sign_in (λ z. absurd (omega arith)) in (omega arith, omega arith)
  sign_bound h (BehindSign.none f f' g) = (omega arith, omega arith)

  to_sign : (m : Mantissa) {j : ℕ} → BehindSign b i j → Onto t (behind_mark m) i (behind_sign m (eqb b (code "-"))) j
  to_sign m (BehindSign.plus f g) = rw (f, g) (mark_plus t i (sign_in (λ z. absurd (omega arith))) m (sym e ∙ f))
  to_sign m (BehindSign.minus f g) = rw (f, g) (mark_minus t i (sign_in (λ z. absurd (omega arith))) m (sym e ∙ f))
  to_sign m (BehindSign.none f f' g) = rw (ne_eqb b (code "-") f', g) (no_sign t i m (differs _ _ (λ h. f (e ∙ h))) (differs _ _ (λ h. f' (e ∙ h))))

  pub mark_rest : (m : Mantissa) (r : Result Written Refusal) {j : ℕ} → i ≤ length t → BehindSign b i j → PartAt t (behind_sign m (eqb b (code "-"))) j r → PartAt t (behind_mark m) i r
  mark_rest m r {j} h x = onto_part t _ _ i j r (sign_bound h x).0 (to_sign m x)

pub tail_power : (t : Bytes) (i : ℕ) (m : Mantissa) (r : Result Written Refusal) → T (not (is_digit (get_or t i 0))) → T (is_e (get_or t i 0)) → PartAt t (behind_mark m) (i + 1) r → PartAt t (behind_fraction m) i r
tail_power t i m r d e = onto_part t _ _ i (i + 1) r (omega arith) (fraction_mark t i (stands t i (λ z. rw z at e)) m d e)

-- The digits behind the point.
fraction_onto : (t : Bytes) (s s' : Bool → Numeral) (i j : ℕ) (d : Digits) (r : Result Digits Refusal) → i ≤ j → ((neg : Bool) → Onto t (s neg) i (s' neg) j) → FractionAt t s' j d r → FractionAt t s i d r
fraction_onto t s s' i j d (Ok e) l x u = record { onward = omega (arith, u.onward); bound = u.bound; more = u.more; last = u.last; same = λ neg p st. x neg p st ∙ u.same neg p st }
fraction_onto t s s' i j d (Err e) l x a = λ neg. onto_spoilt (x neg) (a neg)

module _ (t : Bytes) (i b : ℕ) (d x : Digits) (a : DigitAt t i (Ok b)) (j : Joined d b i x) where
  to_fraction : (neg : Bool) → Onto t (behind_point d neg) i (behind_decimal x 1 neg) x.end
  to_fraction neg = rw (j.0, j.1, j.2, a.1) (point_digit t i a.0 (digit_there t i b a) neg d.coefficient d.digits)

  run_fraction : (r : Result Digits Refusal) → DigitsAt t x r → FractionAt t (behind_decimal x 1) x.end d r
  run_fraction (Ok e) (u, z) =
      let g : e.digits - d.digits ≡ 1 + (e.digits - x.digits) = omega (arith, u.more, j.2) in
      record { onward = u.onward; bound = u.bound; more = omega (arith, u.more, j.2); last = z; same = λ neg. rw g (u.fraction neg 1) }
  run_fraction (Err e) y = λ neg. y.1 neg 1

  pub decimals : (r : Result Digits Refusal) → DigitsAt t x r → FractionAt t (behind_point d) i d r
  decimals r y = fraction_onto t _ _ i x.end d r (omega (arith, j.0)) to_fraction (run_fraction r y)

-- A point, or none.
module _ (t : Bytes) (d : Digits) (b : ℕ) (e : b ≡ get_or t d.end 0) where
  pub point_none : d.end ≤ length t → T (not (is_digit (get_or t d.end 0))) → (b ≡ code "." → ⊥) → FractionAt t (behind_whole d) d.end d (Ok d)
  point_none h z f =
      let g : d.digits - d.digits ≡ 0 = omega arith in
      record { onward = omega arith; bound = h; more = omega arith; last = z; same = λ neg. rw g (no_point t d.end neg d.coefficient d.digits z (differs _ _ (λ g. f (e ∙ g)))) }

  module _ (f : b ≡ code ".") where
    point_in : d.end < length t
    point_in = stands t d.end (λ g. absurd (omega arith))

    pub point_full : d.digits ≡ max_digits → (neg : Bool) → Spoilt t (behind_whole d neg) d.end 6 d.end
    point_full l neg = point_many t d.end point_in neg d.coefficient d.digits (sym e ∙ f) (omega arith)

    pub point_rest : (r : Result Digits Refusal) → d.digits < max_digits → FractionAt t (behind_point d) (d.end + 1) d r → FractionAt t (behind_whole d) d.end d r
    point_rest r l = fraction_onto t _ _ d.end (d.end + 1) d r (omega arith) (λ neg. whole_point t d.end point_in neg d.coefficient d.digits (sym e ∙ f) l)

-- The digits before the point, of which `d`, the byte `b`, is the first.
module _ (t : Bytes) (b : ℕ) (d : Digits) (o : d.digits ≡ 1) (v : d.coefficient ≡ b - code "0") (l : is_digit b ≡ true) (neg : Bool) where
  to_zero : d.coefficient ≡ 0 → Onto t (first neg b) d.end (Numeral.zero neg) d.end
  to_zero e p st = rw (first_zero b neg (omega (arith, digit_bounds b (is_true l))))

  to_whole : (d.coefficient ≡ 0 → ⊥) → Onto t (first neg b) d.end (behind_whole d neg) d.end
  to_whole f p st = let g : and_digit 0 b ≡ d.coefficient = omega arith in rw (first_nonzero b neg (λ e. f (omega arith)), g, o)

  pub whole_over : (e : Refusal) → WholeAt t d (Err e) → PartAt t (first neg b) d.end (Err e)
  whole_over e (WholeAt.zero f g) = cc
  whole_over e (WholeAt.run f a) = onto_spoilt (to_whole f) (a.0 neg)

  module _ (w : Digits) where
    pub whole_zero : d.end ≤ length t → WholeAt t d (Ok w) → T (is_digit (get_or t w.end 0))
        → Settled t (first neg b) d.end (record { negative = neg; coefficient = 0; digits = 1; fraction = 0; down = false; power = 0; end = w.end })
    whole_zero h (WholeAt.zero e f) y = let g : w.end ≡ d.end = cc in rw g (onto_settled (omega arith) (to_zero e) (digit_settles t neg d.end h (rw g at y)))
    whole_zero h (WholeAt.run f (u, z)) y = absurd (T_not (is_digit (get_or t w.end 0)) z y)

    pub whole_rest : (r : Result Written Refusal) → WholeAt t d (Ok w) → T (not (is_digit (get_or t w.end 0))) → PartAt t (behind_whole w neg) w.end r → PartAt t (first neg b) d.end r
    whole_rest r (WholeAt.zero e f) z x =
        let g : w ≡ d = cc in
        onto_part t _ _ d.end d.end r (omega arith) (λ p st. to_zero e p st ∙ rw (e, o) (zero_whole t d.end neg (rw g at z) p st)) (rw g at x)
    whole_rest r (WholeAt.run f (u, y)) z x = onto_part t _ _ d.end w.end r u.onward (λ p st. to_whole f p st ∙ u.whole neg p st) x

-- The whole number.
opens_digit : (b : ℕ) → opens_number b ≡ true → (b ≡ code "-" → ⊥) → is_digit b ≡ true
opens_digit b e f = let z : opens_number b ≡ is_digit b = rw (ne_eqb b 45 f) in sym z ∙ e

begins : (t : Bytes) (i j : ℕ) (s : Numeral) (r : Result Written Refusal) → i < j → ((st : Stack) → at t (State.value st) i ≡ at t (State.number s i st) j) → PartAt t s j r → NumberAt t i r
begins t i j s (Ok w) l e x = record { onward = omega (arith, x.onward); bound = x.bound; sized = x.sized; same = λ st. e st ∙ x.same i st }
begins t i j s (Err k) l e x = record { number = x.number; same = λ st. e st ∙ x.same i st }

-- Its first digit stands at `j`, behind a minus or at once.
module _ (t : Bytes) (i : ℕ) (h : i < length t) (o : opens_number (get_or t i 0) ≡ true) where
  pub number_spoilt : (e : Refusal) {j : ℕ} → BehindMinus (get_or t i 0) i j → DigitAt t j (Err e) → NumberAt t i (Err e)
  number_spoilt e (BehindMinus.none f g) (d, x) = absurd (T_not (is_digit (get_or t i 0)) (rw g at d) (is_true (opens_digit (get_or t i 0) o f)))
  number_spoilt e {j} (BehindMinus.minus f g) (d, x) = begins t i j Numeral.minus (Err e) (omega arith) (λ st. rw g (value_minus t i h f st)) (x Numeral.minus Wanting.minus)

  pub number_rest : (d : ℕ) {j : ℕ} (r : Result Written Refusal) → BehindMinus (get_or t i 0) i j → DigitAt t j (Ok d) → PartAt t (first (eqb (get_or t i 0) (code "-")) d) (j + 1) r → NumberAt t i r
  number_rest d {j} r (BehindMinus.none f e) a = begins t i (j + 1) _ r (omega arith) (λ st. rw (ne_eqb (get_or t i 0) (code "-") f, a.1, e) (value_first t i h (digit_there t i d (rw e at a)) st))
  number_rest d {j} r (BehindMinus.minus f e) a =
      begins t i (j + 1) _ r (omega arith) (λ st. rw (eq-eqb (get_or t i 0) (code "-") f, a.1) (value_minus t i h f st ∙ rw (← e) (minus_first t j a.0 (digit_there t j d a) i st)))
