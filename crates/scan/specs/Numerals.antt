-- What the parts of the number leaf answer: each says how a number goes on behind what was read of it.
use Prim.Native.Char.{code}
use Rattle.std.specs.Prelude.{◌+◌, ◌-◌, ◌<◌, ◌≤◌, suc, ℕ, T, eqb, ltb, get_or, length, Bool, true, ◌||◌, cond, not, ◌≡◌, Result, Ok, Err}
use Rattle.scan.specs.Answers.{at, refused}
use Rattle.scan.specs.Numbers.{Refused, Sized, decimal_of}
use Rattle.scan.specs.Refusals.{number_of, place_of}
use Rattle.scan.specs.declared.digits.Digits.{Digits}
use Rattle.scan.specs.declared.number.Written.{Written}
use Rattle.scan.specs.declared.exponent.Mantissa.{Mantissa}
use Rattle.scan.specs.declared.refusal.Refusal.{Refusal}
use Rattle.text.proofs.Digits.{and_digit}
use Rattle.text.proofs.Machine.{Numeral, Stack, State}
use Rattle.text.specs.Bytes.{Bytes, is_digit}
use Rattle.text.specs.Ceilings.{Gate, house}
use Rattle.text.specs.Node.{Node}

-- What has been read of a number, behind the digits before its point, behind the point, and behind `f` digits of its fraction.
abbrev pub behind_whole : Digits → Bool → Numeral
behind_whole d neg = Numeral.whole neg d.coefficient d.digits

abbrev pub behind_point : Digits → Bool → Numeral
behind_point d neg = Numeral.point neg d.coefficient d.digits

abbrev pub behind_decimal : Digits → ℕ → Bool → Numeral
behind_decimal d f neg = Numeral.fraction neg d.coefficient d.digits f

-- The same behind all of its fraction, its `e`, its exponent's sign, and `k` digits of its exponent.
abbrev pub behind_fraction : Mantissa → Numeral
behind_fraction m = Numeral.fraction m.negative m.coefficient m.digits m.fraction

abbrev pub behind_mark : Mantissa → Numeral
behind_mark m = Numeral.mark m.negative m.coefficient m.digits m.fraction

abbrev pub behind_sign : Mantissa → Bool → Numeral
behind_sign m down = Numeral.sign m.negative m.coefficient m.digits m.fraction down

abbrev pub behind_power : Mantissa → Bool → ℕ → ℕ → Numeral
behind_power m down e k = Numeral.power m.negative m.coefficient m.digits m.fraction down e k

-- Behind the first digit `b`.
unfoldable pub first : Bool → ℕ → Numeral
first neg b = cond (eqb b (code "0")) (Numeral.zero neg) (Numeral.whole neg (and_digit 0 b) 1)

-- `j` is the offset of the first digit of a number that begins at `i` with the byte `b`.
pub data BehindMinus (b i j : ℕ) : Type 0 where
  minus : b ≡ code "-" → j ≡ i + 1 → BehindMinus b i j
  none : (b ≡ code "-" → ⊥) → j ≡ i → BehindMinus b i j

-- `j` is the offset behind an exponent's sign, if the byte `b` at `i` is one.
pub data BehindSign (b i j : ℕ) : Type 0 where
  plus : b ≡ code "+" → j ≡ i + 1 → BehindSign b i j
  minus : b ≡ code "-" → j ≡ i + 1 → BehindSign b i j
  none : (b ≡ code "+" → ⊥) → (b ≡ code "-" → ⊥) → j ≡ i → BehindSign b i j

abbrev pub written_of : Mantissa → Bool → ℕ → ℕ → Written
written_of m down e i =
    record { negative = m.negative; coefficient = m.coefficient; digits = m.digits; fraction = m.fraction; down = down; power = e; end = i }

-- A digit of the exponent, which takes it to `e`, may stand behind `k` others.
unfoldable pub passes : Mantissa → Bool → ℕ → ℕ → Bool
passes m down e k = ltb k 2 || house (Gate.power m.coefficient m.digits m.fraction down e (suc k))

-- The number that is read up to `i` is `w`.
pub record Settled (t : Bytes) (s : Numeral) (i : ℕ) (w : Written) : Type 0 where
  pub onward : i ≤ w.end
  pub bound : w.end ≤ length t
  pub sized : Sized w
  pub same : (p : ℕ) (st : Stack) → at t (State.number s p st) i ≡ at t (State.after st (Node.number p w.end (decimal_of w))) w.end

-- It is refused.
pub record Spoilt (t : Bytes) (s : Numeral) (i k q : ℕ) : Type 0 where
  pub number : Refused k
  pub same : (p : ℕ) (st : Stack) → at t (State.number s p st) i ≡ refused k q

abbrev pub PartAt : Bytes → Numeral → ℕ → Result Written Refusal → Type 0
PartAt t s i (Ok w) = Settled t s i w
PartAt t s i (Err e) = Spoilt t s i (number_of e) (place_of e)

-- Behind a minus, a point and an exponent's sign, a digit is wanted.
pub data Wanting : Numeral → Type 0 where
  minus : Wanting Numeral.minus
  point : {neg : Bool} {c n : ℕ} → Wanting (Numeral.point neg c n)
  sign : {neg : Bool} {c n f : ℕ} {down : Bool} → Wanting (Numeral.sign neg c n f down)

-- What stands at `i` is the digit `b`, else no digit, and a number that wants one is refused.
abbrev pub DigitAt : Bytes → ℕ → Result ℕ Refusal → Type 0
DigitAt t i (Ok b) = (i < length t) × (b ≡ get_or t i 0) × (is_digit b ≡ true)
DigitAt t i (Err e) = T (not (is_digit (get_or t i 0))) × ((s : Numeral) → Wanting s → Spoilt t s i (number_of e) (place_of e))

-- From one part of a number to another.
abbrev pub Onto : Bytes → Numeral → ℕ → Numeral → ℕ → Type 0
Onto t s i s' j = (p : ℕ) (st : Stack) → at t (State.number s p st) i ≡ at t (State.number s' p st) j

-- The digits `e` are those of `d` and a run behind them, before the point or behind it.
pub record Counted (t : Bytes) (d e : Digits) : Type 0 where
  pub onward : d.end ≤ e.end
  pub bound : e.end ≤ length t
  pub more : d.digits ≤ e.digits
  pub whole : (neg : Bool) → Onto t (behind_whole d neg) d.end (behind_whole e neg) e.end
  pub fraction : (neg : Bool) (f : ℕ) → Onto t (behind_decimal d f neg) d.end (behind_decimal e (f + (e.digits - d.digits)) neg) e.end

-- The whole run, with no digit behind it, or a refusal.
abbrev pub DigitsAt : Bytes → Digits → Result Digits Refusal → Type 0
DigitsAt t d (Ok e) = Counted t d e × T (not (is_digit (get_or t e.end 0)))
DigitsAt t d (Err e) =
    ((neg : Bool) → Spoilt t (behind_whole d neg) d.end (number_of e) (place_of e))
    × ((neg : Bool) (f : ℕ) → Spoilt t (behind_decimal d f neg) d.end (number_of e) (place_of e))

-- The digits before the point, of which `d` is the first: none behind a 0, else the whole run.
pub data WholeAt (t : Bytes) (d : Digits) (r : Result Digits Refusal) : Type 0 where
  zero : d.coefficient ≡ 0 → r ≡ Ok d → WholeAt t d r
  run : (d.coefficient ≡ 0 → ⊥) → DigitsAt t d r → WholeAt t d r

-- From `s` at `i`, behind the digits `d` before the point, on to the last digit behind it: all are `e`.
pub record Fraction (t : Bytes) (s : Bool → Numeral) (i : ℕ) (d e : Digits) : Type 0 where
  pub onward : i ≤ e.end
  pub bound : e.end ≤ length t
  pub more : d.digits ≤ e.digits
  pub last : T (not (is_digit (get_or t e.end 0)))
  pub same : (neg : Bool) → Onto t (s neg) i (behind_decimal e (e.digits - d.digits) neg) e.end

-- The same, or a refusal.
abbrev pub FractionAt : Bytes → (Bool → Numeral) → ℕ → Digits → Result Digits Refusal → Type 0
FractionAt t s i d (Ok e) = Fraction t s i d e
FractionAt t s i d (Err e) = (neg : Bool) → Spoilt t (s neg) i (number_of e) (place_of e)
