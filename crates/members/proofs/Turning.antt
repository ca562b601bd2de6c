-- An order and the same turned round.
use Prim.Native.Nat.{◌<◌, ℕ}
use Rattle.members.proofs.Ordering.{before_strict, before_total, before_trans}
use Rattle.members.proofs.Sorting.{Transitive}
use Rattle.members.specs.declared.chain.Chain.{Chain}
use Rattle.members.specs.Merging.{Picked, turned}
use Rattle.members.specs.Names.{before}
use Rattle.text.specs.Bytes.{Units}
use mathlib.Core.Bool.{Bool, false, not, true}
use mathlib.Core.Path.{◌≡◌, refl, sym}

-- Turned round twice.
pub turned_not : (lt : ℕ → ℕ → Bool) (u : Bool) → (λ x y. turned u lt y x) ≡ turned (not u) lt
unfolding turned
turned_not lt true = refl
turned_not lt false = refl

module _ (name : ℕ → Units) where
  pub turned_strict : (u : Bool) (a : ℕ) → turned u (before name) a a ≡ true → ⊥
  unfolding turned
  turned_strict true a h = before_strict name a h
  turned_strict false a h = before_strict name a h

  pub turned_trans : (u : Bool) → Transitive (turned u (before name))
  unfolding turned
  turned_trans true a b c h k = before_trans name a b c h k
  turned_trans false a b c h k = before_trans name c b a k h

  pub turned_total : (u : Bool) (a b : ℕ) → turned u (before name) a b ≡ false → (a ≡ b → ⊥) → turned u (before name) b a ≡ true
  unfolding turned
  turned_total true a b h n = before_total name a b h n
  turned_total false a b h n = before_total name b a h (λ e. n (sym e))

-- The chain that goes on.
module _ (lt : ℕ → ℕ → Bool) (x y : Chain) where
  pub first_picked : (z : Bool) → Picked lt x y z → z ≡ true → (0 < x.count) × (0 < y.count → lt x.head y.head ≡ true)
  unfolding Picked
  first_picked z p e = rw e at p

  pub second_picked : (z : Bool) → Picked lt x y z → z ≡ false → (0 < y.count) × (0 < x.count → lt x.head y.head ≡ false)
  unfolding Picked
  second_picked z p e = rw e at p
