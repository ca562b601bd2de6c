-- The house ceilings, each of which can be dropped by itself. 01 "House ceilings" and "The answer and its numbers".
use Rattle.std.specs.Prelude.{ℕ, eqb, leb, ltb, Bool, true, false, not, ◌&&◌, ◌||◌, List, [], ◌∷◌}
use Rattle.text.specs.Bytes.{Units}
use Rattle.text.specs.Decimal.{exponent_of, normal}

abbrev pub max_depth : ℕ
max_depth = 64

abbrev pub max_digits : ℕ
max_digits = 18

abbrev pub max_power_digits : ℕ
max_power_digits = 3

abbrev pub max_power : ℕ
max_power = 999

-- Each place where a ceiling speaks: a container inside `d` open ones; a name behind the names before it; a string
-- character of 80 or more; `n` digits before and behind the point; a number whose `n` digits come to `c`, `f` of
-- them behind the point, with `k` exponent digits that come to `e`, or to minus `e` if `down`.
pub data Gate : Type 0 where
  depth : (d : ℕ) → Gate
  name : Units → List Units → Gate
  high : ℕ → Gate
  digits : (n : ℕ) → Gate
  power : (c n f : ℕ) (down : Bool) (e k : ℕ) → Gate

-- A set of ceilings says which gates are open.
abbrev pub Ceilings : Type 0
Ceilings = Gate → Bool

-- The refusal's number at a gate that is shut.
unfoldable pub number_of : Gate → ℕ
number_of (Gate.depth d) = 5
number_of (Gate.digits n) = 6
number_of (Gate.power c n f down e k) = 7
number_of (Gate.name us ns) = 8
number_of (Gate.high b) = 9

-- Two names are equal as lists of units; a name is among others.
unfoldable pub same : Units → Units → Bool
same [] [] = true
same [] (y ∷ ys) = false
same (x ∷ xs) [] = false
same (x ∷ xs) (y ∷ ys) = eqb x y && same xs ys

unfoldable pub among : Units → List Units → Bool
among us [] = false
among us (n ∷ ns) = same us n || among us ns

-- The range of exponents is judged on the normal form, where zero has the exponent 0.
unfoldable pub house : Ceilings
house (Gate.depth d) = ltb d max_depth
house (Gate.name us ns) = not (among us ns)
house (Gate.high b) = false
house (Gate.digits n) = leb n max_digits
house (Gate.power c n f down e k) = leb k max_power_digits && leb (exponent_of (normal false c n f down e)) max_power

-- The ceilings `C` without the one of refusal `i`.
unfoldable pub without : ℕ → Ceilings → Ceilings
without i C g = C g || eqb (number_of g) i
