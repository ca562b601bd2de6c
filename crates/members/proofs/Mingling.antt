-- Two sorted lists merged onto the front of a third.
use Prim.Native.Nat.{ℕ}
use Rattle.members.proofs.Membership.{in_cases}
use Rattle.members.proofs.Sorting.{sorted_head, sorted_tail}
use Rattle.members.specs.Lists.{In, Sorted}
use mathlib.Core.Bool.{Bool, true}
use mathlib.Core.List.{List, ◌∷◌}
use mathlib.Core.Logic.{◌⊎◌, inl, inr, ⊎_elim, ⊎_swap}
use mathlib.Core.Path.{◌≡◌}

-- `d` is done and descends, `x` and `y` are left, and all stand in `l`.
pub record Mingling (lt : ℕ → ℕ → Bool) (l d x y : List ℕ) : Type 0 where
  pub down : Sorted (λ p q. lt q p) d
  pub left : Sorted lt x
  pub right : Sorted lt y
  pub ahead : (p q : ℕ) → In p d → In q x ⊎ In q y → lt p q ≡ true
  pub apart : (v : ℕ) → In v x → In v y → ⊥
  pub only : (v : ℕ) → In v d ⊎ (In v x ⊎ In v y) → In v l
  pub all : (v : ℕ) → In v l → In v d ⊎ (In v x ⊎ In v y)

module _ {lt : ℕ → ℕ → Bool} {l d x y : List ℕ} where
  pub mingle_swap : Mingling lt l d x y → Mingling lt l d y x
  mingle_swap m =
      record {
        down = m.down;
        left = m.right;
        right = m.left;
        ahead = λ p q i j. m.ahead p q i (⊎_swap j);
        apart = λ v i j. m.apart v j i;
        only = λ v. ⊎_elim (λ i. m.only v (inl i)) (λ j. m.only v (inr (⊎_swap j)));
        all = λ v i. ⊎_elim (λ k. inl k) (λ k. inr (⊎_swap k)) (m.all v i);
      }

  -- The head of the first list comes before all of the second: it is taken.
  module _ (a : ℕ) (m : Mingling lt l d (a ∷ x) y) (h : (v : ℕ) → In v y → lt a v ≡ true) where
    later : {v : ℕ} → In v x ⊎ In v y → In v (a ∷ x) ⊎ In v y
    later = ⊎_elim (λ i. inl (In.there i)) (λ i. inr i)

    moved : {v : ℕ} → In v (a ∷ x) ⊎ In v y → In v (a ∷ d) ⊎ (In v x ⊎ In v y)
    moved = ⊎_elim (λ i. ⊎_elim (λ e. inl (rw e In.here)) (λ k. inr (inl k)) (in_cases i)) (λ i. inr (inr i))

    pub mingle_take : Mingling lt l (a ∷ d) x y
    mingle_take =
        record {
          down = Sorted.more (λ v i. m.ahead v a i (inl In.here)) m.down;
          left = sorted_tail m.left;
          right = m.right;
          ahead = λ p q i j. ⊎_elim (λ e. rw e (⊎_elim (sorted_head m.left q) (h q) j)) (λ k. m.ahead p q k (later j)) (in_cases i);
          apart = λ v i j. m.apart v (In.there i) j;
          only = λ v. ⊎_elim (λ i. ⊎_elim (λ e. rw e (m.only a (inr (inl In.here)))) (λ k. m.only v (inl k)) (in_cases i)) (λ j. m.only v (inr (later j)));
          all = λ v i. ⊎_elim (λ k. inl (In.there k)) (λ k. moved k) (m.all v i);
        }
