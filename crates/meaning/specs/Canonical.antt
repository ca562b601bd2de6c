-- The canonical text of a meaning. 01 "Canonical text".
use Prim.Native.Char.{code}
use Rattle.std.specs.Prelude.{ℕ, zero, suc, ◌+◌, ◌-◌, ◌/◌, ◌%◌, eqb, leb, ltb, Bool, true, false, not, ◌&&◌, ◌||◌, cond, [], ◌∷◌, ◌++◌, ◌≡◌}
use Rattle.meaning.specs.Meaning.{Tree, Trees, Pairs, Meaning, mean}
use Rattle.meaning.specs.Order.{Sorted}
use Rattle.text.specs.Bytes.{Bytes, Units, ascii}
use Rattle.text.specs.Ceilings.{max_digits, max_power_digits}
use Rattle.text.specs.Decimal.{Decimal}
use Rattle.text.specs.Node.{Literal}

-- The units that are written plain, and a hexadecimal digit in lower case.
abbrev pub is_bare : ℕ → Bool
is_bare u = leb 0x20 u && leb u 0x7e && not (eqb u (code "\"")) && not (eqb u (code "\\"))

abbrev pub hex_digit : ℕ → ℕ
hex_digit n = cond (ltb n 10) (code "0" + n) (code "a" + (n - 10))

-- Each of these is its text in front of `o`.
unfoldable pub put_unit : ℕ → Bytes → Bytes
put_unit u o =
    elim (is_bare u) [
      | true ↦ u ∷ o
      | false ↦ elim (eqb u (code "\"") || eqb u (code "\\")) [
        | true ↦ code "\\" ∷ u ∷ o
        | false ↦ code "\\" ∷ code "u" ∷ hex_digit (u / 4096 % 16) ∷ hex_digit (u / 256 % 16) ∷ hex_digit (u / 16 % 16) ∷ hex_digit (u % 16) ∷ o
      ]
    ]

unfoldable pub put_units : Units → Bytes → Bytes
put_units [] o = o
put_units (u ∷ us) o = put_unit u (put_units us o)

-- `c` in fewest digits, of which there are at most `n`.
unfoldable pub put_digits : ℕ → ℕ → Bytes → Bytes
put_digits zero c o = o
put_digits (suc n) c o = elim (ltb c 10) [ true ↦ (code "0" + c) ∷ o | false ↦ put_digits n (c / 10) ((code "0" + c % 10) ∷ o) ]

unfoldable pub put_sign : Bool → Bytes → Bytes
put_sign true o = code "-" ∷ o
put_sign false o = o

unfoldable pub put_power : Bool → ℕ → Bytes → Bytes
put_power down e o = elim (eqb e 0) [ true ↦ o | false ↦ code "e" ∷ put_sign down (put_digits max_power_digits e o) ]

unfoldable pub put_number : Decimal → Bytes → Bytes
put_number (Decimal.decimal neg c down e) o = put_sign neg (put_digits max_digits c (put_power down e o))

unfoldable pub spelling : Literal → Bytes
spelling Literal.null = ascii "null"
spelling Literal.true = ascii "true"
spelling Literal.false = ascii "false"

unfoldable mutual
  unfolding put_unit put_units put_digits put_sign put_power put_number spelling

  pub put : Tree → Bytes → Bytes
  put (Tree.literal w) o = spelling w ++ o
  put (Tree.string us) o = code "\"" ∷ put_units us (code "\"" ∷ o)
  put (Tree.number x) o = put_number x o
  put (Tree.array ts) o = code "[" ∷ put_array ts o
  put (Tree.object ps) o = code "{" ∷ put_object ps o

  -- Behind `[`, and behind an element.
  pub put_array : Trees → Bytes → Bytes
  put_array Trees.nil o = code "]" ∷ o
  put_array (Trees.cons t ts) o = put t (put_elements ts o)

  pub put_elements : Trees → Bytes → Bytes
  put_elements Trees.nil o = code "]" ∷ o
  put_elements (Trees.cons t ts) o = code "," ∷ put t (put_elements ts o)

  -- Behind `{`, and behind a member.
  pub put_object : Pairs → Bytes → Bytes
  put_object Pairs.empty o = code "}" ∷ o
  put_object (Pairs.pair k t ps) o = code "\"" ∷ put_units k (code "\"" ∷ code ":" ∷ put t (put_rest ps o))

  pub put_rest : Pairs → Bytes → Bytes
  put_rest Pairs.empty o = code "}" ∷ o
  put_rest (Pairs.pair k t ps) o = code "," ∷ code "\"" ∷ put_units k (code "\"" ∷ code ":" ∷ put t (put_rest ps o))

-- `c` is the canonical text of the meaning `m`: the text of its tree whose members are sorted.
pub data Canonical (m : Meaning) (c : Bytes) : Type 0 where
  canonical : (t : Tree) → Sorted t → mean t ≡ m → put t [] ≡ c → Canonical m c
