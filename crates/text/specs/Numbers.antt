-- Numbers. 01 "The grammar"; RFC 8259 section 6. Each rule says what the bytes from an offset on begin with and
-- which bytes it leaves.
use Prim.Native.Char.{code}
use Rattle.std.specs.Prelude.{ℕ, suc, T, Bool, true, false, length, [], ◌∷◌, ◌++◌}
use Rattle.text.specs.Bytes.{Bytes, Source, from, is_digit, is_nonzero, is_e, value_from}
use Rattle.text.specs.Ceilings.{Ceilings, Gate}
use Rattle.text.specs.Decimal.{Decimal, normal}

-- An optional `-`.
pub data Minus : Source → Source → Bool → Type 0 where
  none : {o : Source} → Minus o o false
  minus : {p : ℕ} {o : Bytes} → Minus (from p (code "-" ∷ o)) (from (suc p) o) true

-- Any number of digits.
pub data Digits : Source → Source → Bytes → Type 0 where
  none : {o : Source} → Digits o o []
  more : {p b : ℕ} {i ds : Bytes} {o : Source} → T (is_digit b) → Digits (from (suc p) i) o ds → Digits (from p (b ∷ i)) o (b ∷ ds)

-- `0`, or a digit 1 to 9 and any digits.
pub data Whole : Source → Source → Bytes → Type 0 where
  zero : {p : ℕ} {o : Bytes} → Whole (from p (code "0" ∷ o)) (from (suc p) o) (code "0" ∷ [])
  nonzero : {p b : ℕ} {i ds : Bytes} {o : Source} → T (is_nonzero b) → Digits (from (suc p) i) o ds → Whole (from p (b ∷ i)) o (b ∷ ds)

-- Optionally `.` and one or more digits.
pub data Fraction : Source → Source → Bytes → Type 0 where
  none : {o : Source} → Fraction o o []
  point : {p b : ℕ} {i ds : Bytes} {o : Source} → T (is_digit b) → Digits (from (suc (suc p)) i) o ds → Fraction (from p (code "." ∷ b ∷ i)) o (b ∷ ds)

-- An optional `+` or `-`; `true` is minus.
pub data Sign : Source → Source → Bool → Type 0 where
  none : {o : Source} → Sign o o false
  plus : {p : ℕ} {o : Bytes} → Sign (from p (code "+" ∷ o)) (from (suc p) o) false
  minus : {p : ℕ} {o : Bytes} → Sign (from p (code "-" ∷ o)) (from (suc p) o) true

-- Optionally `e` or `E`, a sign, and one or more digits.
pub data Power : Source → Source → Bool → Bytes → Type 0 where
  none : {o : Source} → Power o o false []
  mark : {p q e b : ℕ} {i m ds : Bytes} {o : Source} {down : Bool}
      → T (is_e e) → Sign (from (suc p) i) (from q (b ∷ m)) down → T (is_digit b) → Digits (from (suc q) m) o ds → Power (from p (e ∷ i)) o down (b ∷ ds)

-- The ceilings let a number pass: its digits by their count, and its exponent.
pub data Allowed (C : Ceilings) (c n f : ℕ) (down : Bool) (e k : ℕ) : Type 0 where
  allowed : T (C (Gate.digits n)) → T (C (Gate.power c n f down e k)) → Allowed C c n f down e k

-- `Number C i o x`: the bytes `i` begin with a number that means `x`. Its digits are `ds` before the point and `fs`
-- behind it, and those of its exponent are `es`.
pub data Number (C : Ceilings) : Source → Source → Decimal → Type 0 where
  number : {h i j k o : Source} {neg down : Bool} {ds fs es : Bytes} → Minus h i neg → Whole i j ds → Fraction j k fs → Power k o down es
      → Allowed C (value_from 0 (ds ++ fs)) (length (ds ++ fs)) (length fs) down (value_from 0 es) (length es)
      → Number C h o (normal neg (value_from 0 (ds ++ fs)) (length (ds ++ fs)) (length fs) down (value_from 0 es))
