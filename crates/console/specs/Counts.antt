-- What a count of bytes at the front of an output says.
use Rattle.std.specs.Prelude.{◌≡◌, ℕ, ◌≤◌, length, take}
use Rattle.text.specs.Bytes.{Bytes}

-- The output has that many bytes, and so has its front.
abbrev pub IsPrefixLen : ℕ → Bytes → Type 0
IsPrefixLen n xs = (n ≤ length xs) × (n ≡ length (take n xs))
