-- A part of a lent slice, by where it lies and what it holds. 01 "Pointer".
use Rattle.std.specs.Prelude.{ℕ, ◌+◌, ◌-◌, drop, take, ◌≡◌}
use Rattle.text.specs.Bytes.{Bytes}
use Rattle.std.specs.Borrow.{Bor}

-- The slice `s` is the part of the slice `t` from the offset `a` to `e`: it starts `a` bytes behind the start of `t`, in
-- the same block of memory, and holds the bytes that `t` holds there.
pub record PartOf (t : Bor Bytes) (a e : ℕ) (s : Bor Bytes) : Type 0 where
  pub place : s.ref_ptr ≡ (t.ref_ptr.0, a + t.ref_ptr.1)
  pub bytes : s.now ≡ take (e - a) (drop a t.now)
