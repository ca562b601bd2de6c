-- Decimals and their normal form. 01 "What a text means".
use Rattle.std.specs.Prelude.{ℕ, zero, suc, ◌+◌, ◌-◌, ◌/◌, ◌%◌, eqb, leb, Bool, true, false, cond}

-- A sign, a coefficient, and an exponent of ten behind its own sign; `true` is minus.
pub data Decimal : Type 0 where
  decimal : Bool → ℕ → Bool → ℕ → Decimal

-- The number of digits 0 that end `c`, of at most `n`, and `c` without them.
unfoldable pub zeros : ℕ → ℕ → ℕ
zeros zero c = 0
zeros (suc n) c = elim (eqb (c % 10) 0) [ true ↦ suc (zeros n (c / 10)) | false ↦ 0 ]

unfoldable pub strip : ℕ → ℕ → ℕ
strip zero c = c
strip (suc n) c = elim (eqb (c % 10) 0) [ true ↦ strip n (c / 10) | false ↦ c ]

-- `c` times ten to the `p` less `m`.
unfoldable pub scaled : Bool → ℕ → ℕ → ℕ → Decimal
scaled neg c p m = cond (leb m p) (decimal neg c false (p - m)) (decimal neg c true (m - p))

-- The normal form of a number whose `n` digits come to `c`, the last `f` of them behind the point, times ten to
-- the `e`, or to minus `e` if `down`.
unfoldable pub normal : Bool → ℕ → ℕ → ℕ → Bool → ℕ → Decimal
normal neg c n f down e =
    cond (eqb c 0) (decimal false 0 false 0)
    (cond down (scaled neg (strip n c) (zeros n c) (e + f)) (scaled neg (strip n c) (e + zeros n c) f))

-- The exponent apart from its sign.
unfoldable pub exponent_of : Decimal → ℕ
exponent_of (decimal neg c down e) = e
