-- The order of names is a strict total order, and names that are equal in it are equal.
use Prim.Native.Nat.{ℕ, ◌+◌, ◌≤◌}
use Rattle.names.specs.Order.{order}
use Rattle.std.proofs.lemmas.Bool.Decides.{nat_tests}
use Rattle.std.specs.Ordering.{nat_cmp, ordering_index}
use Rattle.text.specs.Bytes.{Units}
use mathlib.Core.List.{[], ◌∷◌}
use mathlib.Core.Path.{◌∙◌, ◌≡◌, refl}
use native.Mathlib.Omega.{arith}

-- What the first units decide.
module _ (x y : ℕ) (xs ys : Units) where
  pub order_same : x ≡ y → order (x ∷ xs) (y ∷ ys) ≡ order xs ys
  unfolding order
  order_same e = grind (arith, nat_tests)

  pub order_cmp : (x ≡ y → ⊥) → order (x ∷ xs) (y ∷ ys) ≡ ordering_index (nat_cmp x y)
  unfolding order
  order_cmp f = grind (arith, nat_tests)

pub order_none : order [] [] ≡ 1
unfolding order
order_none = refl

pub order_first : (y : ℕ) (ys : Units) → order [] (y ∷ ys) ≡ 0
unfolding order
order_first y ys = refl

pub order_second : (x : ℕ) (xs : Units) → order (x ∷ xs) [] ≡ 2
unfolding order
order_second x xs = refl

-- What the comparison of two names needs.
pub ruleset comparing = (order_none, order_first, order_second, order_same, order_cmp)

pub order_refl : (xs : Units) → order xs xs ≡ 1
unfolding order
order_refl [] = refl
order_refl (x ∷ xs) = order_same x x xs xs refl ∙ order_refl xs

pub order_equal : (xs ys : Units) → order xs ys ≡ 1 → xs ≡ ys
unfolding order
order_equal [] [] e = refl
order_equal [] (y ∷ ys) e = absurd (omega arith)
order_equal (x ∷ xs) [] e = absurd (omega arith)
order_equal (x ∷ xs) (y ∷ ys) e = grind (arith, nat_tests, order_equal xs ys)

-- Turned about, before is behind.
pub order_flip : (xs ys : Units) → order xs ys + order ys xs ≡ 2
unfolding order
order_flip [] [] = refl
order_flip [] (y ∷ ys) = refl
order_flip (x ∷ xs) [] = refl
order_flip (x ∷ xs) (y ∷ ys) = grind (arith, nat_tests, order_flip xs ys)

module _ (xs ys : Units) where
  pub order_most : order xs ys ≤ 2
  order_most = omega (arith, order_flip xs ys)

  pub behind_before : order ys xs ≡ 2 → order xs ys ≡ 0
  behind_before e = omega (arith, order_flip xs ys)

pub order_trans : (xs ys zs : Units) → order xs ys ≡ 0 → order ys zs ≡ 0 → order xs zs ≡ 0
unfolding order
order_trans [] [] zs e f = absurd (omega arith)
order_trans [] (y ∷ ys) [] e f = absurd (omega arith)
order_trans [] (y ∷ ys) (z ∷ zs) e f = refl
order_trans (x ∷ xs) [] zs e f = absurd (omega arith)
order_trans (x ∷ xs) (y ∷ ys) [] e f = absurd (omega arith)
order_trans (x ∷ xs) (y ∷ ys) (z ∷ zs) e f = grind (arith, nat_tests, order_trans xs ys zs)
