-- The order of names is a strict order in which any two names have their places; and its test.
use Prim.Native.Nat.{◌<◌, ◌≤◌, ℕ}
use Rattle.meaning.specs.Order.{Before}
use Rattle.text.specs.Bytes.{Units}
use borrow.Author.Tests.{eq-eqb, eqb-false, eqb-true, le-ltb, lt-ltb, ltb-false, ltb-true}
use lib.Dec.{T, eqb, ltb}
use mathlib.Core.Bool.{Bool, false, true}
use mathlib.Core.List.{[], ◌∷◌}
use mathlib.Core.Path.{◌∙◌, ◌≡◌, ap₂, refl, subst, sym}
use native.Mathlib.Omega.{arith}

pub before_trans : {j k l : Units} → Before j k → Before k l → Before j l
before_trans Before.prefix (Before.less h) = Before.prefix
before_trans Before.prefix (Before.later e p) = Before.prefix
before_trans (Before.less {x = x} h) (Before.less {y = z} g) = Before.less (let l : x < z = omega arith in l)
before_trans (Before.less {x = x} h) (Before.later {y = z} e p) = Before.less (let l : x < z = omega arith in l)
before_trans (Before.later {x = x} e p) (Before.less {y = z} g) = Before.less (let l : x < z = omega arith in l)
before_trans (Before.later {x = x} e p) (Before.later {y = z} f q) = Before.later (let g : x ≡ z = omega arith in g) (before_trans p q)

-- No name stands before itself.
pub before_not : {j k : Units} → Before j k → j ≡ k → ⊥
before_not Before.prefix e = let z : ◌≡◌ {A = ℕ} 0 1 = cc in omega arith
before_not (Before.less {x = x} {y = y} h) e = let z : x ≡ y = cc in omega arith
before_not (Before.later {xs = xs} {ys = ys} f p) e = before_not p (let z : xs ≡ ys = cc in z)

-- Of two names one stands before the other, or they are equal.
pub data Placed (j k : Units) : Type 0 where
  ahead : Before j k → Placed j k
  equal : j ≡ k → Placed j k
  behind : Before k j → Placed j k

pub place : (j k : Units) → Placed j k
place [] [] = Placed.equal refl
place [] (y ∷ ys) = Placed.ahead Before.prefix
place (x ∷ xs) [] = Placed.behind Before.prefix
place (x ∷ xs) (y ∷ ys) = by (ltb x y) (eqb x y) refl refl (place xs ys)
  where
    by : (a b : Bool) → ltb x y ≡ a → eqb x y ≡ b → Placed xs ys → Placed (x ∷ xs) (y ∷ ys)
    by true b p q r = Placed.ahead (Before.less (ltb-true x y p))
    by false true p q (Placed.ahead r) = Placed.ahead (Before.later (eqb-true x y q) r)
    by false true p q (Placed.equal r) = Placed.equal (ap₂ ◌∷◌ (eqb-true x y q) r)
    by false true p q (Placed.behind r) = Placed.behind (Before.later (sym (eqb-true x y q)) r)
    by false false p q r =
        let n : x ≡ y → ⊥ = eqb-false x y q in
        let m : y ≤ x = ltb-false x y p in
        Placed.behind (Before.less (let g : y < x = omega arith in g))

-- The order as a test, by which proofs/Sorting sorts.
unfoldable pub before : Units → Units → Bool
before [] [] = false
before [] (y ∷ ys) = true
before (x ∷ xs) [] = false
before (x ∷ xs) (y ∷ ys) = elim (ltb x y) [ true ↦ true | false ↦ elim (eqb x y) [ true ↦ before xs ys | false ↦ false ] ]

before_yes : {j k : Units} → Before j k → before j k ≡ true
unfolding before
before_yes Before.prefix = refl
before_yes (Before.less {x} {y} h) = rw (lt-ltb x y h, before)
before_yes (Before.later {x} {y} e p) = rw (le-ltb x y (omega arith), eq-eqb x y e, before_yes p, before)

pub before_is : (j k : Units) → before j k ≡ true → Before j k
unfolding before
before_is [] [] e = absurd (subst T (sym e) tt)
before_is [] (y ∷ ys) e = Before.prefix
before_is (x ∷ xs) [] e = absurd (subst T (sym e) tt)
before_is (x ∷ xs) (y ∷ ys) e = by (ltb x y) (eqb x y) refl refl e (before_is xs ys)
  where
    by : (a b : Bool) → ltb x y ≡ a → eqb x y ≡ b → (elim a as (λ _. Bool) [ true ↦ true | false ↦ elim b as (λ _. Bool) [ true ↦ before xs ys | false ↦ false ] ]) ≡ true
        → (before xs ys ≡ true → Before xs ys) → Before (x ∷ xs) (y ∷ ys)
    by true b p q g r = Before.less (ltb-true x y p)
    by false true p q g r = Before.later (eqb-true x y q) (r g)
    by false false p q g r = absurd (subst T (sym g) tt)

-- Where the test of two names that differ fails, they stand the other way round.
pub before_else : (j k : Units) → before j k ≡ false → (j ≡ k → ⊥) → Before k j
before_else j k e n = by (place j k)
  where
    by : Placed j k → Before k j
    by (Placed.ahead p) = let z : true ≡ false = sym (before_yes p) ∙ e in absurd (subst T z tt)
    by (Placed.equal p) = absurd (n p)
    by (Placed.behind p) = p
