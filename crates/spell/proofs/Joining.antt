-- A text in two parts, the second written behind the first.
use Prim.Native.Nat.{◌+◌, ◌-◌, ◌≤◌, ℕ}
use Rattle.spell.proofs.Putting.{lend, lend_fits, lend_start, rest}
use Rattle.spell.specs.Puts.{Puts}
use Rattle.text.specs.Bytes.{Bytes}
use lib.ListN.{drop, length, length-append, take}
use mathlib.Core.List.{◌++◌}
use mathlib.Core.Path.{◌≡◌, ap, subst, sym}
use native.Mathlib.Omega.{arith}

-- The same text.
pub put_as : {w w' o o' : Bytes} {n : ℕ} → w ≡ w' → Puts w o n o' → Puts w' o n o'
put_as {o = o} {o' = o'} {n = n} e p = subst (λ w. Puts w o n o') e p

-- An output that holds `o` has room for `w`, which is `a` and then `b`.
pub record Joined (w a b o : Bytes) : Type 0 where
  pub whole : w ≡ a ++ b
  pub room : length w ≤ length o

module _ {w a b o : Bytes} (j : Joined w a b o) where
  pub first_fits : length a ≤ length o
  first_fits = omega (arith, j.room, ap length j.whole, length-append a b)

  module _ {n : ℕ} {o₁ : Bytes} (p : Puts a o n o₁) where
    pub second_start : n ≤ length o₁
    second_start = lend_start p first_fits

    pub second_fits : length b ≤ length (rest n o₁)
    second_fits = lend_fits p first_fits b (subst (λ w. length w ≤ length o) j.whole j.room)

    pub both_put : {m : ℕ} {o₂ : Bytes} → Puts b (rest n o₁) m o₂ → Puts w o (n + m) (take n o₁ ++ (o₂ ++ drop (length o₁ - n) (drop n o₁)))
    both_put q = put_as (sym j.whole) (lend p first_fits q)
