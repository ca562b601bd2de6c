-- Values of a text without values inside them, found again where their records say that they stand.
use Prim.Native.Char.{code}
use Rattle.std.specs.Prelude.{ℕ, ◌+◌, ◌≤◌, drop, get_or, length, true, [], ◌∷◌, ◌≡◌}
use Rattle.meaning.specs.Canonical.{put_units, spelling}
use Rattle.meaning.specs.Meaning.{Tree}
use Rattle.names.specs.Units.{units}
use Rattle.scan.specs.Numbers.{opens_number}
use Rattle.text.specs.Bytes.{Bytes, Units, from}
use Rattle.text.specs.Ceilings.{house}
use Rattle.text.specs.Decimal.{Decimal}
use Rattle.text.specs.Node.{Literal}
use Rattle.text.specs.Numbers.{Number}

-- The canonical text of a string.
abbrev pub quoted : Units → Bytes
quoted us = code "\"" ∷ put_units us (code "\"" ∷ [])

-- The bytes are a number that means `x`.
abbrev pub Numeral : Bytes → Decimal → Type 0
Numeral s x = Number house (from 0 s) (from (length s) []) x

-- From `p` up to `q` the text `t` has this value.
pub data Scalar (t : Bytes) (p q : ℕ) : Tree → Type 0 where
  word : {l : Literal} → get_or t p 0 ≡ get_or (spelling l) 0 0 → Scalar t p q (Tree.literal l)
  string : {us : Units} → get_or t p 0 ≡ code "\"" → units (drop (p + 1) t) ≡ us → Scalar t p q (Tree.string us)
  number : {x : Decimal} → opens_number (get_or t p 0) ≡ true → p ≤ q → q ≤ length t → Number house (from p (drop p t)) (from q (drop q t)) x → Scalar t p q (Tree.number x)
