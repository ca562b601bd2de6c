-- Records are in a strict total order: by name, and among equal names by number.
use Prim.Native.Nat.{◌+◌, ◌<◌, suc, zero, ℕ}
use Rattle.members.proofs.Sorting.{Transitive}
use Rattle.members.specs.Names.{ahead, before}
use Rattle.names.proofs.Order.{order_equal, order_flip, order_refl, order_trans}
use Rattle.names.specs.Order.{order}
use Rattle.std.proofs.Common.{Equal, Greater, Less, Ordering}
use Rattle.std.proofs.lemmas.Bool.Decides.{nat_tests}
use Rattle.std.specs.Ordering.{is_ge, is_lt, nat_cmp, ordering_index, ordering_then}
use Rattle.text.specs.Bytes.{Units}
use borrow.Author.Tests.{eq-eqb, eqb-false, eqb-true, lt-ltb, ltb-false, ltb-true, ne_eqb}
use lib.Dec.{eqb, ltb}
use mathlib.Core.Bool.{Bool, false, false≢true, true, true≢false}
use mathlib.Core.Logic.{◌⊎◌, inl, inr, ⊎_elim}
use mathlib.Core.Path.{◌∙◌, ◌≡◌, refl, sym}
use native.Mathlib.Omega.{arith}

-- What a test for equal names says.
module _ (a b : Units) (z : Bool) (e : z ≡ eqb (order a b) 1) where
  pub same_yes : z ≡ true → a ≡ b
  same_yes h = order_equal a b (eqb-true _ _ (sym e ∙ h))

  pub same_no : z ≡ false → a ≡ b → ⊥
  same_no h n = eqb-false (order a b) 1 (sym e ∙ h) (rw n (order_refl b))

-- How two names stand to each other.
data Stand (n : ℕ) : Type 0 where
  first : n ≡ 0 → Stand n
  same : n ≡ 1 → Stand n
  last : n ≡ 2 → Stand n

stand_by : (n m : ℕ) → n + m ≡ 2 → Stand n
stand_by zero m h = Stand.first refl
stand_by (suc zero) m h = Stand.same refl
stand_by (suc (suc n)) m h = Stand.last (omega arith)

pub index_less : (o : Ordering) {n : ℕ} → ordering_index o ≡ n → is_ge o ≡ false → n ≡ 0
index_less Less e f = sym e
index_less Equal e f = absurd (true≢false f)
index_less Greater e f = absurd (true≢false f)

module _ (name : ℕ → Units) (a b : ℕ) where
  stand : Stand (order (name a) (name b))
  stand = stand_by (order (name a) (name b)) (order (name b) (name a)) (order_flip (name a) (name b))

  same_order : name a ≡ name b → order (name a) (name b) ≡ 1
  same_order e = rw e (order_refl (name b))

  -- The order, by the number that compares the names.
  before_first : order (name a) (name b) ≡ 0 → before name a b ≡ true
  unfolding before ahead
  before_first e = simp e

  pub before_same : order (name a) (name b) ≡ 1 → before name a b ≡ ltb a b
  unfolding before ahead
  before_same e = simp e

  before_last : order (name a) (name b) ≡ 2 → before name a b ≡ false
  unfolding before ahead
  before_last e = simp e

  pub before_other : (order (name a) (name b) ≡ 1 → ⊥) → before name a b ≡ eqb (order (name a) (name b)) 0
  before_other n =
      elim stand [
        | first e ↦ before_first e ∙ sym (eq-eqb _ _ e)
        | same e ↦ absurd (n e)
        | last e ↦ before_last e ∙ sym (ne_eqb (order (name a) (name b)) 0 (λ f. omega (arith, e, f)))
      ]

  -- Names first, then numbers.
  pub before_then : (o : Ordering) → ordering_index o ≡ order (name a) (name b) → is_lt (ordering_then o (nat_cmp a b)) ≡ before name a b
  before_then Less e = sym (before_first (sym e))
  before_then Equal e = rw (before_same (sym e)) (grind (arith, nat_tests))
  before_then Greater e = sym (before_last (sym e))

  ahead_first : ahead name a b ≡ true → order (name a) (name b) ≡ 0
  unfolding ahead
  ahead_first h = eqb-true _ _ h

  pub first_ahead : order (name a) (name b) ≡ 0 → ahead name a b ≡ true
  unfolding ahead
  first_ahead e = eq-eqb _ _ e

  pub ahead_apart : ahead name a b ≡ true → name a ≡ name b → ⊥
  ahead_apart h e = omega (arith, ahead_first h, same_order e)

  pub ahead_before : ahead name a b ≡ true → before name a b ≡ true
  ahead_before h = before_first (ahead_first h)

  before_cases : before name a b ≡ true → (order (name a) (name b) ≡ 0) ⊎ ((name a ≡ name b) × (a < b))
  before_cases h =
      elim stand [
        | first e ↦ inl e
        | same e ↦ inr (order_equal _ _ e, ltb-true a b (sym (before_same e) ∙ h))
        | last e ↦ absurd (false≢true (sym (before_last e) ∙ h))
      ]

  -- Of two records with one name the lesser comes first.
  pub before_less : before name a b ≡ true → name a ≡ name b → a < b
  before_less h e = ⊎_elim (λ p. absurd (omega (arith, p, same_order e))) (λ p. p.1) (before_cases h)

module _ (name : ℕ → Units) where
  pub before_strict : (a : ℕ) → before name a a ≡ true → ⊥
  before_strict a h = omega (arith, before_less name a a h refl)

  pub ahead_trans : Transitive (ahead name)
  ahead_trans a b c h k = first_ahead name a c (order_trans (name a) (name b) (name c) (ahead_first name a b h) (ahead_first name b c k))

  pub before_trans : Transitive (before name)
  before_trans a b c h k =
      ⊎_elim
      (λ p. ⊎_elim
      (λ q. before_first name a c (order_trans (name a) (name b) (name c) p q))
      (λ q. before_first name a c (rw (← q.0) p))
      (before_cases name b c k))
      (λ p. ⊎_elim
      (λ q. before_first name a c (rw p.0 q))
      (λ q. before_same name a c (same_order name a c (p.0 ∙ q.0)) ∙ lt-ltb a c (let x = p.1 in let y = q.1 in omega arith))
      (before_cases name b c k))
      (before_cases name a b h)

  pub before_total : (a b : ℕ) → before name a b ≡ false → (a ≡ b → ⊥) → before name b a ≡ true
  before_total a b h n =
      elim (stand name a b) [
        | first e ↦ absurd (false≢true (sym h ∙ before_first name a b e))
        | same e ↦
            let y = ltb-false a b (sym (before_same name a b e) ∙ h) in
            before_same name b a (omega (arith, e, order_flip (name a) (name b))) ∙ lt-ltb b a (omega arith)
        | last e ↦ before_first name b a (omega (arith, e, order_flip (name a) (name b)))
      ]

  -- A name between two equal names is the same.
  pub between : (a q b : ℕ) → before name a q ≡ true → before name q b ≡ true → name a ≡ name b → name a ≡ name q
  between a q b h k e =
      ⊎_elim
      (λ p. ⊎_elim
      (λ r. absurd (omega (arith, order_trans (name a) (name q) (name b) p r, same_order name a b e)))
      (λ r. e ∙ sym r.0)
      (before_cases name q b k))
      (λ p. p.0)
      (before_cases name a q h)
