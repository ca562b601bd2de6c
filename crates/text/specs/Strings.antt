-- Strings and fixed words. 01 "The grammar"; RFC 8259 sections 3 and 7.
use Prim.Native.Char.{code}
use Rattle.std.specs.Prelude.{ℕ, suc, ◌+◌, ◌*◌, T, [], ◌∷◌}
use Rattle.text.specs.Bytes.{Bytes, Units, Source, from, is_plain, is_high, is_escape, escape_unit, is_hex, hex_value}
use Rattle.text.specs.Ceilings.{Ceilings, Gate}

-- `Word ks i o`: the bytes `i` begin with `ks` and leave `o`.
pub data Word : Bytes → Source → Source → Type 0 where
  done : {o : Source} → Word [] o o
  byte : {p k : ℕ} {ks i : Bytes} {o : Source} → Word ks (from (suc p) i) o → Word (k ∷ ks) (from p (k ∷ i)) o

-- `u` is the number `x`. (Where a rule below would compute a unit in its result, it has `u` there and this as a premise, so
-- that proofs can go by the rules.)
pub data Is (x : ℕ) : ℕ → Type 0 where
  is : Is x x

-- The unit of a `\u` with these four digits.
abbrev pub hex_unit : ℕ → ℕ → ℕ → ℕ → ℕ
hex_unit a b c d = 16 * (16 * (16 * hex_value a + hex_value b) + hex_value c) + hex_value d

mutual
  -- `Chars C i o us`: behind the opening quote the bytes `i` are characters that mean `us`, then the closing quote,
  -- and leave `o`.
  pub data Chars (C : Ceilings) : Source → Source → Units → Type 0 where
    close : {p : ℕ} {o : Bytes} → Chars C (from p (code "\"" ∷ o)) (from (suc p) o) []
    plain : {p b : ℕ} {i : Bytes} {us : Units} {o : Source} → T (is_plain b) → Chars C (from (suc p) i) o us → Chars C (from p (b ∷ i)) o (b ∷ us)
    high : {p b : ℕ} {i : Bytes} {us : Units} {o : Source} → T (is_high b) → T (C (Gate.high b)) → Chars C (from (suc p) i) o us → Chars C (from p (b ∷ i)) o (b ∷ us)
    escape : {p : ℕ} {i : Bytes} {us : Units} {o : Source} → Escape C (from (suc p) i) o us → Chars C (from p (code "\\" ∷ i)) o us

  -- The same behind a backslash.
  pub data Escape (C : Ceilings) : Source → Source → Units → Type 0 where
    short : {p b u : ℕ} {i : Bytes} {us : Units} {o : Source} → T (is_escape b) → Is (escape_unit b) u → Chars C (from (suc p) i) o us → Escape C (from p (b ∷ i)) o (u ∷ us)
    unit : {p a b c d u : ℕ} {i : Bytes} {us : Units} {o : Source}
        → T (is_hex a) → T (is_hex b) → T (is_hex c) → T (is_hex d) → Is (hex_unit a b c d) u → Chars C (from (suc (suc (suc (suc (suc p))))) i) o us
        → Escape C (from p (code "u" ∷ a ∷ b ∷ c ∷ d ∷ i)) o (u ∷ us)
