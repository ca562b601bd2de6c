-- What a step that writes to the front of a lent output does.
use Rattle.std.specs.Prelude.{ℕ, length, ◌≡◌}
use Rattle.entries.specs.Answer.{over}
use Rattle.text.specs.Bytes.{Bytes}

-- The bytes `c` stand at the front of an output that held `o`, every later byte is as at entry, and `n` is their number.
pub record Puts (c o : Bytes) (n : ℕ) (o' : Bytes) : Type 0 where
  pub count : n ≡ length c
  pub now : o' ≡ over c o
