-- The record table of a text: four words for each value, in the order of the values' starts. 01 "The record table".
use Rattle.std.specs.Prelude.{ℕ, suc, ◌+◌, List, [], ◌∷◌, ◌++◌}
use Rattle.text.specs.Node.{Node, Nodes, Members}

abbrev pub Words : Type 0
Words = List ℕ

abbrev pub record_words : ℕ
record_words = 4

-- Word 2 of a value that has no name.
abbrev pub unnamed : ℕ
unnamed = 4_294_967_295

-- The number of records of a value, of an array's values, of an object's.
unfoldable mutual
  pub size : Node → ℕ
  size (Node.literal p q w) = 1
  size (Node.string p q us) = 1
  size (Node.number p q x) = 1
  size (Node.array p q vs) = suc (size_all vs)
  size (Node.object p q ms) = suc (size_members ms)

  pub size_all : Nodes → ℕ
  size_all Nodes.nil = 0
  size_all (Nodes.cons v vs) = size v + size_all vs

  pub size_members : Members → ℕ
  size_members Members.empty = 0
  size_members (Members.member q us v ms) = size v + size_members ms

-- The records of a value whose name stands at `m`, from number `k` on.
unfoldable mutual
  unfolding size

  pub records : Node → ℕ → ℕ → Words
  records (Node.literal p q w) m k = p ∷ q ∷ m ∷ suc k ∷ []
  records (Node.string p q us) m k = p ∷ q ∷ m ∷ suc k ∷ []
  records (Node.number p q x) m k = p ∷ q ∷ m ∷ suc k ∷ []
  records (Node.array p q vs) m k = p ∷ q ∷ m ∷ (k + suc (size_all vs)) ∷ records_all vs (suc k)
  records (Node.object p q ms) m k = p ∷ q ∷ m ∷ (k + suc (size_members ms)) ∷ records_members ms (suc k)

  pub records_all : Nodes → ℕ → Words
  records_all Nodes.nil k = []
  records_all (Nodes.cons v vs) k = records v unnamed k ++ records_all vs (k + size v)

  pub records_members : Members → ℕ → Words
  records_members Members.empty k = []
  records_members (Members.member q us v ms) k = records v q k ++ records_members ms (k + size v)

-- The table of a whole text.
unfoldable pub table : Node → Words
unfolding records
table v = records v unnamed 0
