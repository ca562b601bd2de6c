-- Pointers. 01 "Pointer"; RFC 6901 sections 3 and 4.
use Prim.Native.Char.{code}
use Rattle.std.specs.Prelude.{ℕ, suc, ◌≤◌, T, eqb, leb, length, take, Bool, not, ◌&&◌, List, [], ◌∷◌, ◌++◌}
use Rattle.text.specs.Bytes.{Bytes, Units, Source, from}
use Rattle.text.specs.Verdict.{Longest}

abbrev pub max_pointer : ℕ
max_pointer = 65_536

-- A token's units, behind the offset of its `/`.
pub data Token : Type 0 where
  token : ℕ → Units → Token

-- The bytes that stand for themselves in a token.
abbrev pub is_plain_token : ℕ → Bool
is_plain_token b = leb b 0x7f && not (eqb b (code "/")) && not (eqb b (code "~"))

-- `TokenRest i us ts`: behind a `/`, or inside a token, the bytes `i` are the rest `us` of the token, then the tokens `ts`.
pub data TokenRest : Source → Units → List Token → Type 0 where
  end : {n : ℕ} → TokenRest (from n []) [] []
  next : {n : ℕ} {i : Bytes} {us : Units} {ts : List Token} → TokenRest (from (suc n) i) us ts → TokenRest (from n (code "/" ∷ i)) [] (Token.token n us ∷ ts)
  plain : {n b : ℕ} {i : Bytes} {us : Units} {ts : List Token} → T (is_plain_token b) → TokenRest (from (suc n) i) us ts → TokenRest (from n (b ∷ i)) (b ∷ us) ts
  tilde : {n : ℕ} {i : Bytes} {us : Units} {ts : List Token} → TokenRest (from (suc (suc n)) i) us ts → TokenRest (from n (code "~" ∷ code "0" ∷ i)) (code "~" ∷ us) ts
  slash : {n : ℕ} {i : Bytes} {us : Units} {ts : List Token} → TokenRest (from (suc (suc n)) i) us ts → TokenRest (from n (code "~" ∷ code "1" ∷ i)) (code "/" ∷ us) ts

-- The bytes are these tokens.
pub data Tokens : Bytes → List Token → Type 0 where
  whole : Tokens [] []
  first : {i : Bytes} {us : Units} {ts : List Token} → TokenRest (from 1 i) us ts → Tokens (code "/" ∷ i) (Token.token 0 us ∷ ts)

-- The bytes are a well-formed pointer of these tokens.
pub data Pointer (p : Bytes) (ts : List Token) : Type 0 where
  pointer : length p ≤ max_pointer → Tokens p ts → Pointer p ts

-- Some continuation, of any length, makes `p` tokens.
abbrev pub Begins : Bytes → Type 0
Begins p = (w : Bytes) × (ts : List Token) × Tokens (p ++ w) ts

-- Refusal 10 and its place: the longest beginning, of at most 65,536 bytes, that could still become tokens, however
-- many. So it is the first byte that can't stand, the pointer's length if it ends in a bare `~`, and 65,536 if it is
-- longer, whichever is least.
pub data Malformed (p : Bytes) (n : ℕ) : Type 0 where
  malformed : ((ts : List Token) → ¬ (Pointer p ts)) → Longest Begins (take max_pointer p) n → Malformed p n
