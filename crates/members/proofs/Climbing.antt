-- The pass over names that stand in order: all ascend if what is left does.
use Prim.Native.Nat.{◌-◌, ◌<◌, ◌≤◌, suc, zero, ℕ}
use Rattle.members.proofs.Ordering.{ahead_trans, first_ahead}
use Rattle.members.proofs.Sorting.{before_all, sorted_one}
use Rattle.members.specs.Chains.{walk}
use Rattle.members.specs.Lists.{In, Sorted}
use Rattle.members.specs.Names.{ahead}
use Rattle.names.specs.Order.{order}
use Rattle.text.specs.Bytes.{Units}
use mathlib.Core.List.{List}
use mathlib.Core.Path.{◌≡◌}
use native.Mathlib.Omega.{arith}

-- `i` records from `p` on are left.
pub record Climbing (name : ℕ → Units) (f : ℕ → ℕ) (l : List ℕ) (p i : ℕ) : Type 0 where
  pub within : (v : ℕ) → In v (walk f i p) → In v l
  pub sorted : Sorted (ahead name) (walk f i p) → Sorted (ahead name) l

module _ {name : ℕ → Units} {f : ℕ → ℕ} {l : List ℕ} {p i : ℕ} (c : Climbing name f l p i) where
  pub climb_in : 1 < i → In p l × In (f p) l
  unfolding walk
  climb_in h =
      let e : i ≡ suc (suc (i - 2)) = omega arith in
      let d = rw e at c in
      (d.within p In.here, d.within (f p) (In.there In.here))

  pub climb_turn : {j q : ℕ} → i ≡ suc j → 0 < j → q ≡ f p → order (name p) (name q) ≡ 0 → Climbing name f l q j
  unfolding walk
  climb_turn {j} d h e o =
      let g : j ≡ suc (j - 1) = omega arith in
      let b = rw (d, g) at c in
      rw (g, e) record {
        within = λ v k. b.within v (In.there k);
        sorted = λ s. b.sorted (Sorted.more (before_all (ahead name) (ahead_trans name) p (f p) _ s (first_ahead name p (f p) (rw e at o))) s);
      }

pub climb_end : {name : ℕ → Units} {f : ℕ → ℕ} {l : List ℕ} {p i : ℕ} → Climbing name f l p i → i ≤ 1 → Sorted (ahead name) l
unfolding walk
climb_end {i = zero} c h = c.sorted Sorted.none
climb_end {p = p} {i = suc zero} c h = c.sorted (sorted_one p)
climb_end {i = suc (suc i)} c h = absurd (omega arith)
