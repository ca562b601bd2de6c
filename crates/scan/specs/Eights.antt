-- Steps of eight.
use Rattle.std.specs.Prelude.{◌+◌, ◌<◌, ◌≤◌, ℕ}

-- `P` holds at each of the eight from `i` on.
abbrev pub Eight : (ℕ → Type 0) → ℕ → Type 0
Eight P i = (k : ℕ) → i ≤ k → k < i + 8 → P k

-- From `i` up to `j` by steps of eight, and `P` holds where each begins.
pub data Eights (P : ℕ → Type 0) (i : ℕ) : ℕ → Type 0 where
  none : Eights P i i
  more : {j : ℕ} → Eights P i j → P j → Eights P i (j + 8)
