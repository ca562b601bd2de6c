-- Parts of a string in canonical text.
use Prim.Native.Char.{code}
use Rattle.std.specs.Prelude.{ℕ, ◌-◌, ◌/◌, ◌%◌, ◌≤◌, eqb, drop, length, take, Bool, ◌||◌, [], ◌++◌, ◌∷◌, ◌≡◌}
use Rattle.meaning.specs.Canonical.{hex_digit, put_units}
use Rattle.names.specs.Units.{units}
use Rattle.spell.specs.Puts.{Puts}
use Rattle.text.specs.Bytes.{Bytes}

-- The units that are written behind a backslash, and how one is written by its number.
abbrev pub is_mark : ℕ → Bool
is_mark u = eqb u (code "\"") || eqb u (code "\\")

unfoldable pub put_hex : ℕ → Bytes
put_hex u =
    code "\\" ∷ code "u" ∷ hex_digit (u / 4096 % 16) ∷ hex_digit (u / 256 % 16) ∷ hex_digit (u / 16 % 16) ∷ hex_digit (u % 16) ∷ []

-- What is written of a string from its character at `i` on, the closing quote included.
abbrev pub ending : Bytes → ℕ → Bytes
ending t i = put_units (units (drop i t)) (code "\"" ∷ [])

-- For the characters from `i` up to `j` the bytes `c` are written.
pub record Part (t : Bytes) (i j : ℕ) (c : Bytes) : Type 0 where
  pub same : ending t i ≡ c ++ ending t j

-- They are written as they stand.
pub record Plain (t : Bytes) (i j : ℕ) : Type 0 where
  pub onward : i ≤ j
  pub bound : j ≤ length t
  pub part : Part t i j (take (j - i) (drop i t))

-- They stand so at the front of an output that held `o`, and `n` is their number.
pub record Copied (t : Bytes) (i j : ℕ) (o : Bytes) (n : ℕ) (o' : Bytes) : Type 0 where
  pub plain : Plain t i j
  pub puts : Puts (take (j - i) (drop i t)) o n o'
