-- Bytes and their classes. 01 "The grammar"; RFC 8259 sections 2, 6 and 7.
use Prim.Native.Char.{code}
use Rattle.std.specs.Prelude.{ℕ, ◌+◌, ◌*◌, ◌-◌, eqb, leb, Bool, not, ◌&&◌, ◌||◌, cond, List, [], ◌∷◌}
use Prim.Native.String.{String}
use Prim.Native.String as string

-- A text is a list of bytes, and a string means a list of 16-bit code units. Both are lists of numbers here; no rule of
-- the grammar takes a byte above FF, so no text and no continuation that makes one has any.
abbrev pub Bytes : Type 0
Bytes = List ℕ

abbrev pub Units : Type 0
Units = List ℕ

-- The bytes from an offset on.
pub data Source : Type 0 where
  from : ℕ → Bytes → Source

-- The bytes of a quoted text.
abbrev pub ascii : String → Bytes
ascii string.[] = []
ascii (string.◌∷◌ c s) = code c ∷ ascii s

abbrev pub is_space : ℕ → Bool
is_space b = eqb b 0x20 || eqb b 0x09 || eqb b 0x0a || eqb b 0x0d

abbrev pub is_digit : ℕ → Bool
is_digit b = leb (code "0") b && leb b (code "9")

abbrev pub is_nonzero : ℕ → Bool
is_nonzero b = leb (code "1") b && leb b (code "9")

abbrev pub is_e : ℕ → Bool
is_e b = eqb b (code "E") || eqb b (code "e")

-- A string's characters that stand for themselves, and the bytes that would if ceiling 9 were dropped.
abbrev pub is_plain : ℕ → Bool
is_plain b = leb 0x20 b && leb b 0x7f && not (eqb b (code "\"")) && not (eqb b (code "\\"))

abbrev pub is_high : ℕ → Bool
is_high b = leb 0x80 b && leb b 0xff

-- What may stand behind a backslash, `u` apart, and the unit that it gives.
abbrev pub is_escape : ℕ → Bool
is_escape b =
    eqb b (code "\"") || eqb b (code "\\") || eqb b (code "/") || eqb b (code "b") || eqb b (code "f") || eqb b (code "n") || eqb b (code "r") || eqb b (code "t")

abbrev pub escape_unit : ℕ → ℕ
escape_unit b =
    cond (eqb b (code "b")) 0x08
    (cond (eqb b (code "f")) 0x0c
    (cond (eqb b (code "n")) 0x0a (cond (eqb b (code "r")) 0x0d (cond (eqb b (code "t")) 0x09 b))))

abbrev pub is_hex : ℕ → Bool
is_hex b = is_digit b || (leb (code "A") b && leb b (code "F")) || (leb (code "a") b && leb b (code "f"))

abbrev pub hex_value : ℕ → ℕ
hex_value b = cond (leb b (code "9")) (b - code "0") (cond (leb b (code "F")) (10 + (b - code "A")) (10 + (b - code "a")))

-- What digits come to behind the number `a`.
unfoldable pub value_from : ℕ → Bytes → ℕ
value_from a [] = a
value_from a (d ∷ ds) = value_from (10 * a + (d - code "0")) ds
