-- Runs of digits, of a coefficient and of an exponent.
use Prim.Native.Nat.{◌+◌, ◌-◌, ◌<◌, ◌^◌, ◌≤◌, ℕ}
use Rattle.scan.proofs.Numerals.{digit_bounds, fraction_digit, fraction_many, onto_settled, onto_spoilt, power_digit, power_many, settle_power, whole_digit, whole_many}
use Rattle.scan.specs.Numerals.{Counted, DigitsAt, Onto, Settled, Spoilt, behind_power, passes, written_of}
use Rattle.scan.specs.declared.digits.Digits.{Digits}
use Rattle.scan.specs.declared.exponent.Mantissa.{Mantissa}
use Rattle.scan.specs.declared.refusal.Refusal.{Refusal}
use Rattle.std.specs.Prelude.{Err}
use Rattle.text.proofs.Digits.{and_digit}
use Rattle.text.specs.Bytes.{Bytes, is_digit}
use Rattle.text.specs.Ceilings.{max_digits, max_power, max_power_digits}
use lib.Dec.{T}
use lib.ListN.{get_or, length}
use mathlib.Core.Bool.{Bool, not}
use mathlib.Core.Path.{◌∙◌, ◌≡◌, refl}
use native.Mathlib.Nat.{pow-le-pow_right}
use native.Mathlib.Omega.{arith}

pub few_below : (n : ℕ) → n ≤ max_digits → 10 ^ n ≤ 1_000_000_000_000_000_000
few_below n l = pow-le-pow_right (omega arith) l

-- `x` is `d` and the digit `b`, which stands at `i`.
abbrev pub Joined : Digits → ℕ → ℕ → Digits → Type 0
Joined d b i x = (x.end ≡ i + 1) × (x.coefficient ≡ and_digit d.coefficient b) × (x.digits ≡ d.digits + 1)

pub counted_none : (t : Bytes) (d : Digits) → d.end ≤ length t → Counted t d d
counted_none t d h =
    let g : (f : ℕ) → f + (d.digits - d.digits) ≡ f = λ f. omega arith in
    record { onward = omega arith; bound = h; more = omega arith; whole = λ neg p st. refl; fraction = λ neg f. rw (g f) (λ p st. refl) }

-- The coefficient's digits: those up to `j` are `e`.
module _ (t : Bytes) (d e : Digits) (j : ℕ) (q : Counted t d e × (e.end ≡ j)) (h : j < length t) (p : T (is_digit (get_or t j 0))) where
  pub counted_one : e.digits < max_digits → (x : Digits) → Joined e (get_or t j 0) j x → Counted t d x × (x.end ≡ j + 1)
  counted_one l x (u, v, w) =
      let g : (f : ℕ) → f + (x.digits - d.digits) ≡ f + (e.digits - d.digits) + 1 = λ f. omega (arith, q.0.more) in (
        record {
          onward = omega (arith, q.0.onward);
          bound = omega arith;
          more = omega (arith, q.0.more);
          whole = λ neg. rw (u, v, w) (λ i st. rw q.1 at (q.0.whole neg i st) ∙ whole_digit t j h p neg e.coefficient e.digits l i st);
          fraction = λ neg f. rw (g f, u, v, w) (λ i st. rw q.1 at (q.0.fraction neg f i st) ∙ fraction_digit t j h p neg e.coefficient e.digits (f + (e.digits - d.digits)) l i st);
        },
        u,
      )

  pub counted_many : max_digits ≤ e.digits → DigitsAt t d (Err (Refusal.Digits j))
  counted_many l = (
    λ neg. onto_spoilt (rw q.1 at (q.0.whole neg)) (whole_many t j h p neg e.coefficient e.digits l),
    λ neg f. onto_spoilt (rw q.1 at (q.0.fraction neg f)) (fraction_many t j h p neg e.coefficient e.digits (f + (e.digits - d.digits)) l),
  )

-- The exponent's digits: `k` of them, the first of which is `e₀`, come to `e`.
pub record Powered (t : Bytes) (m : Mantissa) (down : Bool) (from e₀ i e k : ℕ) : Type 0 where
  pub onward : from ≤ i
  pub bound : i ≤ length t
  pub low : 1 ≤ k
  pub top : k ≤ max_power_digits
  pub three : e ≤ max_power
  pub two : k ≤ 2 → e ≤ 99
  pub one : k ≤ 1 → e ≤ 9
  pub same : Onto t (behind_power m down e₀ 1) from (behind_power m down e k) i

module _ (t : Bytes) (m : Mantissa) (down : Bool) (from e₀ i e k : ℕ) (q : Powered t m down from e₀ i e k) where
  module _ (h : i < length t) (d : T (is_digit (get_or t i 0))) where
    pub powered_one : T (passes m down (and_digit e (get_or t i 0)) k) → k ≤ 2 → Powered t m down from e₀ (i + 1) (and_digit e (get_or t i 0)) (k + 1)
    powered_one p l =
        let b = (digit_bounds (get_or t i 0) d).1 in
        let w : e ≤ 99 = q.two l in
        record {
          onward = omega (arith, q.onward);
          bound = omega arith;
          low = omega arith;
          top = omega arith;
          three = omega arith;
          two = λ x. let v : e ≤ 9 = q.one (omega arith) in omega arith;
          one = λ x. absurd (omega (arith, q.low));
          same = λ u st. q.same u st ∙ power_digit t i h d m down e k p u st;
        }

    pub powered_many : T (not (passes m down (and_digit e (get_or t i 0)) k)) → Spoilt t (behind_power m down e₀ 1) from 7 i
    powered_many p = onto_spoilt q.same (power_many t i h d m down e k p)

  pub powered_end : T (not (is_digit (get_or t i 0))) → Settled t (behind_power m down e₀ 1) from (written_of m down e i)
  powered_end d = onto_settled q.onward q.same (settle_power t m i q.bound d down e k q.three)
