-- Members gathered from records in some order: what they mean doesn't depend on it, and sorted ones are the canonical
-- text's.
use Prim.Native.Nat.{◌<◌, ◌≤◌, ℕ}
use Rattle.meaning.proofs.Members.{Which, at_it, at_other, which}
use Rattle.meaning.specs.Meaning.{Maybe, Pairs, Tree, Trees, at, mean}
use Rattle.meaning.specs.Order.{Before, BeforeAll, SortedPairs}
use Rattle.meaning.specs.Order as meaning
use Rattle.members.proofs.Membership.{in_none}
use Rattle.members.proofs.Ordering.{before_less, before_other}
use Rattle.members.specs.Lists.{In, Same, Sorted}
use Rattle.members.specs.Names.{before}
use Rattle.names.proofs.Order.{order_equal}
use Rattle.names.specs.Order.{order}
use Rattle.text.specs.Bytes.{Units}
use borrow.Author.Tests.{eqb-true, ltb-false}
use lib.Dec.{ltb, ltb→lt}
use mathlib.Core.Bool.{Bool, cond, false, true}
use mathlib.Core.List.{List, [], ◌∷◌}
use mathlib.Core.Logic.{◌⊎◌, inl, inr}
use mathlib.Core.Path.{◌∙◌, ◌≡◌, ap, refl, sym}
use native.Mathlib.Omega.{arith}
use Rattle.text.proofs.Tests.{is_true}

-- The order by numbers is the order of names.
pub order_before : (j k : Units) → order j k ≡ 0 → Before j k
unfolding order
order_before [] [] e = absurd (omega arith)
order_before [] (y ∷ ys) e = Before.prefix
order_before (x ∷ xs) [] e = absurd (omega arith)
order_before (x ∷ xs) (y ∷ ys) e = by (ltb x y) (ltb y x) refl refl (λ f. order_before xs ys f) e
  where
    by : (a b : Bool) → ltb x y ≡ a → ltb y x ≡ b → (order xs ys ≡ 0 → Before xs ys) → cond a 0 (cond b 2 (order xs ys)) ≡ 0 → Before (x ∷ xs) (y ∷ ys)
    by true b p q f e = Before.less (ltb→lt x y (is_true p))
    by false true p q f e = absurd (omega arith)
    by false false p q f e = let l : y ≤ x = ltb-false x y p in let m : x ≤ y = ltb-false y x q in Before.later {x = x} {y = y} (omega arith) (f e)

-- The members that the records `l` stand for, and the values.
unfoldable pub pairs_of : (ℕ → Units) → (ℕ → Tree) → List ℕ → Pairs
pairs_of name value [] = Pairs.empty
pairs_of name value (x ∷ l) = Pairs.pair (name x) (value x) (pairs_of name value l)

unfoldable pub trees_of : (ℕ → Tree) → List ℕ → Trees
trees_of value [] = Trees.nil
trees_of value (x ∷ l) = Trees.cons (value x) (trees_of value l)

module _ (name : ℕ → Units) (value : ℕ → Tree) where
  -- No two of the records have one name.
  abbrev pub Distinct : List ℕ → Type 0
  Distinct l = (x y : ℕ) → In x l → In y l → name x ≡ name y → x ≡ y

  pub at_found : {x : ℕ} {l : List ℕ} → Distinct l → In x l → at (pairs_of name value l) (name x) ≡ Maybe.some (mean (value x))
  unfolding pairs_of
  at_found {x = x} d (In.here {l = l}) = at_it (name x) (value x) (pairs_of name value l) (name x) refl
  at_found {x = x} d (In.there {y = y} {l = l} i) = by (which (name x) (name y)) (at_found (λ a b j k. d a b (In.there j) (In.there k)) i)
    where
      by : Which (name x) (name y) → at (pairs_of name value l) (name x) ≡ Maybe.some (mean (value x)) → at (Pairs.pair (name y) (value y) (pairs_of name value l)) (name x) ≡ Maybe.some (mean (value x))
      by (Which.it e) h = at_it (name y) (value y) (pairs_of name value l) (name x) e ∙ ap (λ z. Maybe.some (mean (value z))) (sym (d x y (In.there i) In.here e))
      by (Which.other n) h = at_other (name y) (value y) (pairs_of name value l) (name x) n ∙ h

  at_lost : (l : List ℕ) (k : Units) → ((x : ℕ) → In x l → k ≡ name x → ⊥) → at (pairs_of name value l) k ≡ Maybe.none
  unfolding pairs_of at
  at_lost [] k n = refl
  at_lost (x ∷ l) k n = at_other (name x) (value x) (pairs_of name value l) k (n x In.here) ∙ at_lost l k (λ y i. n y (In.there i))

  find : (l : List ℕ) (k : Units) → ((x : ℕ) × In x l × (k ≡ name x)) ⊎ ((x : ℕ) → In x l → k ≡ name x → ⊥)
  find [] k = inr (λ x i. absurd (in_none i))
  find (x ∷ l) k = by (which k (name x)) (find l k)
    where
      later : {y : ℕ} → ((z : ℕ) → In z l → k ≡ name z → ⊥) → (k ≡ name x → ⊥) → In y (x ∷ l) → k ≡ name y → ⊥
      later f n In.here = n
      later {y} f n (In.there i) = f y i

      by : Which k (name x) → ((y : ℕ) × In y l × (k ≡ name y)) ⊎ ((y : ℕ) → In y l → k ≡ name y → ⊥) → ((y : ℕ) × In y (x ∷ l) × (k ≡ name y)) ⊎ ((y : ℕ) → In y (x ∷ l) → k ≡ name y → ⊥)
      by (Which.it e) r = inl (x, In.here, e)
      by (Which.other n) (inl (y, i, e)) = inl (y, In.there i, e)
      by (Which.other n) (inr f) = inr (λ y i. later f n i)

  -- In either order they mean the same.
  pub gathered_same : {a b : List ℕ} → Same a b → Distinct b → (k : Units) → at (pairs_of name value a) k ≡ at (pairs_of name value b) k
  gathered_same {a} {b} s d k = by (find b k)
    where
      by : ((x : ℕ) × In x b × (k ≡ name x)) ⊎ ((x : ℕ) → In x b → k ≡ name x → ⊥) → at (pairs_of name value a) k ≡ at (pairs_of name value b) k
      by (inl (x, i, e)) =
          ap (at (pairs_of name value a)) e ∙ at_found (λ y z j l. d y z (s.to y j) (s.to z l)) (s.back x i)
          ∙ sym (ap (at (pairs_of name value b)) e ∙ at_found d i)
      by (inr n) = at_lost a k (λ x i. n x (s.to x i)) ∙ sym (at_lost b k n)

  -- Records in order give members in order.
  before_all : (x : ℕ) (l : List ℕ) → ((v : ℕ) → In v l → Before (name x) (name v)) → BeforeAll (name x) (pairs_of name value l)
  unfolding pairs_of
  before_all x [] f = BeforeAll.none
  before_all x (y ∷ l) f = BeforeAll.next (f y In.here) (before_all x l (λ v i. f v (In.there i)))

  ahead_of : (x v : ℕ) → before name x v ≡ true → (name x ≡ name v → x ≡ v) → Before (name x) (name v)
  ahead_of x v e d =
      let n : name x ≡ name v → ⊥ = λ f. let l : x < v = before_less name x v e f in let g : x ≡ v = d f in omega arith in
      order_before (name x) (name v) (eqb-true (order (name x) (name v)) 0 (sym (before_other name x v (λ f. n (order_equal (name x) (name v) f))) ∙ e))

  pub gathered_sorted : {l : List ℕ} → Sorted (before name) l → Distinct l → ((x : ℕ) → In x l → meaning.Sorted (value x)) → SortedPairs (pairs_of name value l)
  unfolding pairs_of
  gathered_sorted Sorted.none d f = SortedPairs.empty
  gathered_sorted (Sorted.more {x} {l} h s) d f =
      SortedPairs.pair (before_all x l (λ v i. ahead_of x v (h v i) (d x v In.here (In.there i)))) (f x In.here)
      (gathered_sorted s (λ a b i j. d a b (In.there i) (In.there j)) (λ y i. f y (In.there i)))
