-- Steps of eight.
use Prim.Native.Nat.{◌+◌, ◌<◌, ◌≤◌, ℕ, suc, zero}
use Rattle.scan.specs.Eights.{Eights}
use mathlib.Core.Path.{subst}
use native.Mathlib.Omega.{arith}

-- What holds before the first of them, and passes on over each, holds behind the last.
pub over_eights : {P : ℕ → Type 0} {i j : ℕ} (R : ℕ → Type 0) → R i → ((k : ℕ) → P k → R k → R (k + 8)) → Eights P i j → R j
over_eights R x f Eights.none = x
over_eights R x f (Eights.more {j = k} e p) = f k p (over_eights R x f e)

-- The same of the eight in one step.
pub over_eight : {i : ℕ} (R : ℕ → Type 0) → R i → ((k : ℕ) → i ≤ k → k < i + 8 → R k → R (k + 1)) → R (i + 8)
over_eight {i} R x f = by 8 (omega arith)
  where
    by : (n : ℕ) → n ≤ 8 → R (i + n)
    by zero l = subst R (omega arith) x
    by (suc n) l = subst R (omega arith) (f (i + n) (omega arith) (omega arith) (by n (omega arith)))
