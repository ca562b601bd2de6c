-- Two sorted chains made one.
use Rattle.std.specs.Prelude.{◌<◌, ℕ, Bool, false, true, List, ◌++◌, ◌≡◌}
use Rattle.members.specs.Chains.{Seats}
use Rattle.members.specs.declared.chain.Chain.{Chain}
use Rattle.members.specs.Lists.{In, Sorted}
use Rattle.text.specs.Bytes.{Bytes}
use Rattle.text.specs.Table.{Words}

-- An order, or the same turned round.
unfoldable pub turned : Bool → (ℕ → ℕ → Bool) → ℕ → ℕ → Bool
turned true lt a b = lt a b
turned false lt a b = lt b a

-- Of two chains the first goes on if `z`: its head comes first.
unfoldable pub Picked : (ℕ → ℕ → Bool) → Chain → Chain → Bool → Type 0
Picked lt x y true = (0 < x.count) × (0 < y.count → lt x.head y.head ≡ true)
Picked lt x y false = (0 < y.count) × (0 < x.count → lt x.head y.head ≡ false)

-- The chains `a` and `b` can be merged.
pub record Ready (lt : ℕ → ℕ → Bool) (t : Bytes) (w : Words) (a b : List ℕ) : Type 0 where
  pub seats : Seats t w (a ++ b)
  pub apart : (v : ℕ) → In v a → In v b → ⊥
  pub left : Sorted lt a
  pub right : Sorted lt b
