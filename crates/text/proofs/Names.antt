-- The test of names is equality.
use Rattle.text.proofs.Tests.{is_true, or_left, or_right}
use Rattle.text.specs.Bytes.{Units}
use Rattle.text.specs.Ceilings.{among, same}
use borrow.Author.Tests.{eq-eqb, eqb-true}
use lib.Dec.{T, eqb}
use mathlib.Core.Bool.{Bool, ◌&&◌, false, true}
use mathlib.Core.List.{List, [], ◌∷◌}
use mathlib.Core.Path.{◌∙◌, ◌≡◌, ap, ap₂, refl, subst, sym}

pub same_self : (k : Units) → same k k ≡ true
unfolding same
same_self [] = refl
same_self (x ∷ xs) = rw (eq-eqb x x refl, same_self xs)

pub same_is : (j k : Units) → same j k ≡ true → j ≡ k
unfolding same
same_is [] [] e = refl
same_is [] (y ∷ ys) e = absurd (subst T (sym e) tt)
same_is (x ∷ xs) [] e = absurd (subst T (sym e) tt)
same_is (x ∷ xs) (y ∷ ys) e = by (eqb x y) refl e (same_is xs ys)
  where
    by : (a : Bool) → eqb x y ≡ a → (a && same xs ys) ≡ true → (same xs ys ≡ true → xs ≡ ys) → ◌≡◌ {A = Units} (x ∷ xs) (y ∷ ys)
    by true p g r = ap₂ ◌∷◌ (eqb-true x y p) (r g)
    by false p g r = absurd (subst T (sym g) tt)

pub same_not : (j k : Units) → (j ≡ k → ⊥) → same j k ≡ false
same_not j k n = by (same j k) refl
  where
    by : (a : Bool) → same j k ≡ a → a ≡ false
    by true p = absurd (n (same_is j k p))
    by false p = refl

pub same_no : (j k : Units) → same j k ≡ false → j ≡ k → ⊥
same_no j k e f = subst T (sym (same_self j) ∙ ap (same j) f ∙ e) tt

-- A name is one of those it is among.
pub among_first : (k : Units) (ns : List Units) → T (among k (k ∷ ns))
unfolding among
among_first k ns = or_left (same k k) (among k ns) (is_true (same_self k))

pub among_later : (k j : Units) (ns : List Units) → T (among k ns) → T (among k (j ∷ ns))
unfolding among
among_later k j ns t = or_right (same k j) (among k ns) t
