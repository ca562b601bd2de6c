-- The tokens of a pointer where they stand in its bytes. 01 "Pointer"; RFC 6901 sections 3 and 4.
use Prim.Native.Char.{code}
use Rattle.std.specs.Prelude.{ℕ, suc, ◌-◌, ◌<◌, ◌≤◌, eqb, drop, get_or, length, take, Bool, cond, false, true, List, [], ◌∷◌, ◌≡◌, Option, Some, None, Result, Ok, Err}
use Rattle.meaning.specs.Lookup.{is_index}
use Rattle.meaning.specs.Pointer.{Malformed, Pointer, Token, TokenRest, max_pointer}
use Rattle.members.specs.Records.{max_records}
use Rattle.scan.specs.declared.refusal.Refusal.{Refusal}
use Rattle.text.specs.Bytes.{Bytes, Units, from, value_from}

-- The units of a token. Said of any bytes; of a token of the rules it is what they say.
unfoldable mutual
  pub token_units : Bytes → Units
  token_units [] = []
  token_units (b ∷ s) = cond (eqb b (code "~")) (behind_tilde s) (b ∷ token_units s)

  pub behind_tilde : Bytes → Units
  behind_tilde [] = []
  behind_tilde (b ∷ s) = cond (eqb b (code "0")) (code "~" ∷ token_units s) (code "/" ∷ token_units s)

-- The tokens from the offset `i` on, which is that of a `/` or the pointer's length.
pub data Left (p : Bytes) (i : ℕ) : List Token → Type 0 where
  none : i ≡ length p → Left p i []
  next : {us : Units} {ts : List Token} → i < length p → get_or p i 0 ≡ code "/" → TokenRest (from (suc i) (drop (suc i) p)) us ts → Left p i (Token.token i us ∷ ts)

-- The bytes from `i` up to `j` are the token `us`, and the tokens `ts` follow.
pub record TokenTo (p : Bytes) (i j : ℕ) (us : Units) (ts : List Token) : Type 0 where
  pub means : token_units (take (j - i) (drop i p)) ≡ us
  pub left : Left p j ts

-- The bytes are a pointer, or malformed at a place.
pub data Checked (p : Bytes) : Result (Unit {0}) Refusal → Type 0 where
  well : {ts : List Token} → Pointer p ts → Checked p (Ok tt)
  bad : {z : ℕ} → z ≤ max_pointer → Malformed p z → Checked p (Err (Refusal.Malformed z))

-- `r` is the number `n`, or none: `is` says that there is none, or it is so great that no array has so many elements.
pub data Capped (is : Bool) (n : ℕ) : Option ℕ → Type 0 where
  some : is ≡ true → n < max_records → Capped is n (Some n)
  great : max_records ≤ n → Capped is n None
  none : is ≡ false → Capped is n None

-- `r` is the index that the units `us` are.
abbrev pub Index : Units → Option ℕ → Type 0
Index us r = Capped (is_index us) (value_from 0 us) r
