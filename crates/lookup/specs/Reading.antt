-- What the parts of reading a pointer and its tokens promise.
use Prim.Native.Char.{code}
use Rattle.std.specs.Prelude.{ℕ, ◌-◌, ◌<◌, ◌≤◌, eqb, ltb, drop, get_or, length, Bool, ◌&&◌, ◌||◌, cond, [], ◌∷◌, ◌≡◌, Option, Some, None}
use Rattle.lookup.specs.Tokens.{Capped, token_units}
use Rattle.meaning.specs.Lookup.{all_digits}
use Rattle.names.specs.declared.unit.Unit.{Unit}
use Rattle.text.specs.Bytes.{Bytes, is_digit, value_from}

-- A `0` or a `1` stands at `i`, as one must behind a `~`, and the unit that `~` and `b` are.
abbrev pub ends_pair : Bytes → ℕ → Bool
ends_pair p i = ltb i (length p) && (eqb (get_or p i 0) (code "0") || eqb (get_or p i 0) (code "1"))

abbrev pub pair_unit : ℕ → ℕ
pair_unit b = cond (eqb b (code "0")) (code "~") (code "/")

-- The first unit of the token from `i` on, and the units behind it, or there are none.
abbrev pub TokenStep : Bytes → ℕ → Option Unit → Type 0
TokenStep t i None = token_units (drop i t) ≡ []
TokenStep t i (Some u) = (token_units (drop i t) ≡ u.code ∷ token_units (drop u.next t)) × (i < u.next) × (u.next ≤ length t)

-- The value of a unit that is a digit.
abbrev pub digit_of : ℕ → Option ℕ
digit_of c = cond (is_digit c) (Some (c - code "0")) None

-- `r` is the number that the units of the token from `i` on come to behind the number `a`, if they are digits.
abbrev pub DigitsFrom : Bytes → ℕ → ℕ → Option ℕ → Type 0
DigitsFrom t i a r = Capped (all_digits (token_units (drop i t))) (value_from a (token_units (drop i t))) r
