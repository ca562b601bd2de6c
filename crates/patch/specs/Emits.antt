-- What a step does that writes to the front of a lent output, or only counts what it would write there.
use Prim.Native.Char.{code}
use Rattle.std.specs.Prelude.{ℕ, ◌≤◌, eqb, length, Bool, cond, true, [], ◌∷◌, ◌≡◌}
use Rattle.entries.specs.Answer.{over}
use Rattle.text.specs.Bytes.{Bytes}

-- The most bytes that a result can have: six for each byte of two texts.
abbrev pub most_bytes : ℕ
most_bytes = 12_582_912

-- `n` is the number of the bytes `c`, and they stand at the front of an output that held `o`, if it is written to.
pub record Emits (on : Bool) (c o : Bytes) (n : ℕ) (o' : Bytes) : Type 0 where
  pub count : n ≡ length c
  pub now : o' ≡ cond on (over c o) o

-- They may be counted, and an output that is written to has room for them.
pub record Fits (on : Bool) (c o : Bytes) : Type 0 where
  pub few : length c ≤ most_bytes
  pub room : on ≡ true → length c ≤ length o

-- Where the output goes on behind `n` bytes: at its front if they were only counted.
abbrev pub rest_at : Bool → ℕ → ℕ
rest_at on n = cond on n 0

-- What stands before a member of an object of which `at` bytes are written, and what ends the object.
abbrev pub mark_at : ℕ → ℕ
mark_at at = cond (eqb at 0) (code "{") (code ",")

unfoldable pub end_at : ℕ → Bytes
end_at at = cond (eqb at 0) (code "{" ∷ code "}" ∷ []) (code "}" ∷ [])
