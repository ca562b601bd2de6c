-- Sorted lists.
use Prim.Native.Nat.{ℕ}
use Rattle.members.proofs.Membership.{in_cases, in_left, in_none, in_right}
use Rattle.members.specs.Lists.{In, Sorted}
use mathlib.Core.Bool.{Bool, true}
use mathlib.Core.List.{List, [], ◌++◌, ◌∷◌}
use mathlib.Core.Logic.{⊎_elim}
use mathlib.Core.Path.{◌≡◌}

module _ {lt : ℕ → ℕ → Bool} where
  pub sorted_head : {x : ℕ} {l : List ℕ} → Sorted lt (x ∷ l) → (v : ℕ) → In v l → lt x v ≡ true
  sorted_head (Sorted.more h s) = h

  pub sorted_tail : {x : ℕ} {l : List ℕ} → Sorted lt (x ∷ l) → Sorted lt l
  sorted_tail (Sorted.more h s) = s

  pub sorted_one : (x : ℕ) → Sorted lt (x ∷ [])
  sorted_one x = Sorted.more (λ v i. absurd (in_none i)) Sorted.none

  -- The parts of a sorted list, and how they stand to each other.
  pub sorted_left : (a b : List ℕ) → Sorted lt (a ++ b) → Sorted lt a
  sorted_left [] b s = Sorted.none
  sorted_left (x ∷ a) b (Sorted.more h s) = Sorted.more (λ v i. h v (in_left b i)) (sorted_left a b s)

  pub sorted_right : (a b : List ℕ) → Sorted lt (a ++ b) → Sorted lt b
  sorted_right [] b s = s
  sorted_right (x ∷ a) b (Sorted.more h s) = sorted_right a b s

  pub sorted_across : {u v : ℕ} (a : List ℕ) {b : List ℕ} → Sorted lt (a ++ b) → In u a → In v b → lt u v ≡ true
  sorted_across (x ∷ a) (Sorted.more h s) In.here j = h _ (in_right a j)
  sorted_across (x ∷ a) (Sorted.more h s) (In.there i) j = sorted_across a s i j
  sorted_across [] _ x4 j = elim x4 [ ]

-- What implies an order keeps a list sorted.
pub sorted_map : (lt le : ℕ → ℕ → Bool) → ((a b : ℕ) → lt a b ≡ true → le a b ≡ true) → {l : List ℕ} → Sorted lt l → Sorted le l
sorted_map lt le f Sorted.none = Sorted.none
sorted_map lt le f (Sorted.more {x} h s) = Sorted.more (λ v i. f x v (h v i)) (sorted_map lt le f s)

abbrev pub Transitive : (ℕ → ℕ → Bool) → Type 0
Transitive lt = (a b c : ℕ) → lt a b ≡ true → lt b c ≡ true → lt a c ≡ true

-- What comes before the head of a sorted list comes before all of it.
pub before_all : (lt : ℕ → ℕ → Bool) → Transitive lt → (a b : ℕ) (l : List ℕ) → Sorted lt (b ∷ l) → lt a b ≡ true → (v : ℕ) → In v (b ∷ l)
    → lt a v ≡ true
before_all lt trans a b l s h v i =
    ⊎_elim (λ e. rw e h) (λ k. trans a b v h (sorted_head s v k)) (in_cases i)
