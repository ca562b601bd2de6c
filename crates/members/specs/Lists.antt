-- Lists of records: what is in them, and in which order.
use Rattle.std.specs.Prelude.{ℕ, Bool, true, List, [], ◌∷◌, ◌≡◌}

-- `x` is one of a list.
pub data In (x : ℕ) : List ℕ → Type 0 where
  here : {l : List ℕ} → In x (x ∷ l)
  there : {y : ℕ} {l : List ℕ} → In x l → In x (y ∷ l)

-- Every one of a list stands before every later one.
pub data Sorted (lt : ℕ → ℕ → Bool) : List ℕ → Type 0 where
  none : Sorted lt []
  more : {x : ℕ} {l : List ℕ} → ((v : ℕ) → In v l → lt x v ≡ true) → Sorted lt l → Sorted lt (x ∷ l)

-- Two lists have the same members.
pub record Same (a b : List ℕ) : Type 0 where
  pub to : (v : ℕ) → In v a → In v b
  pub back : (v : ℕ) → In v b → In v a
