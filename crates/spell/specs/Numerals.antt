-- Powers of ten that a number reaches.
use Rattle.std.specs.Prelude.{ℕ, leb, cond}

-- 1 for a bound that `c` is not below.
abbrev pub reach : ℕ → ℕ → ℕ
reach b c = cond (leb b c) 1 0
