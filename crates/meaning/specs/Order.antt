-- The order of names: by units, the first difference decides, and a proper prefix comes first. 01 "What a text
-- means".
use Rattle.std.specs.Prelude.{ℕ, ◌<◌, [], ◌∷◌, ◌≡◌}
use Rattle.meaning.specs.Meaning.{Tree, Trees, Pairs}
use Rattle.text.specs.Bytes.{Units}
use Rattle.text.specs.Decimal.{Decimal}
use Rattle.text.specs.Node.{Literal}

pub data Before : Units → Units → Type 0 where
  prefix : {y : ℕ} {ys : Units} → Before [] (y ∷ ys)
  less : {x y : ℕ} {xs ys : Units} → x < y → Before (x ∷ xs) (y ∷ ys)
  later : {x y : ℕ} {xs ys : Units} → x ≡ y → Before xs ys → Before (x ∷ xs) (y ∷ ys)

-- `k` stands before each of the names.
pub data BeforeAll (k : Units) : Pairs → Type 0 where
  none : BeforeAll k Pairs.empty
  next : {j : Units} {t : Tree} {ps : Pairs} → Before k j → BeforeAll k ps → BeforeAll k (Pairs.pair j t ps)

-- The members of each object in it stand in that order.
mutual
  pub data Sorted : Tree → Type 0 where
    literal : {w : Literal} → Sorted (Tree.literal w)
    string : {us : Units} → Sorted (Tree.string us)
    number : {x : Decimal} → Sorted (Tree.number x)
    array : {ts : Trees} → SortedAll ts → Sorted (Tree.array ts)
    object : {ps : Pairs} → SortedPairs ps → Sorted (Tree.object ps)

  pub data SortedAll : Trees → Type 0 where
    nil : SortedAll Trees.nil
    cons : {t : Tree} {ts : Trees} → Sorted t → SortedAll ts → SortedAll (Trees.cons t ts)

  pub data SortedPairs : Pairs → Type 0 where
    empty : SortedPairs Pairs.empty
    pair : {k : Units} {t : Tree} {ps : Pairs} → BeforeAll k ps → Sorted t → SortedPairs ps → SortedPairs (Pairs.pair k t ps)
