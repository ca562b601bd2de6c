-- Values that are still to be measured, one behind another, however deep each of them stands.
use Rattle.std.specs.Prelude.{ℕ, ◌+◌, length, List, [], ◌∷◌, ◌≡◌}
use Rattle.meaning.proofs.Weight.{own, weigh}
use Rattle.meaning.specs.Meaning.{tree}
use Rattle.members.specs.Records.{word}
use Rattle.text.specs.Bytes.{Bytes}
use Rattle.text.specs.Node.{Node}
use Rattle.text.specs.Table.{Words, size}
use Rattle.values.specs.Children.{Child, elements, members}
use Rattle.values.specs.Held.{Held}
use Rattle.writer.specs.Writes.{Nameable, named}

-- The values right inside a value.
unfoldable pub children : Node → List Child
children (Node.literal p q l) = []
children (Node.string p q us) = []
children (Node.number p q x) = []
children (Node.array p q vs) = elements vs
children (Node.object p q ms) = members ms

-- Record `k` has a value, and its name stands in the text, where it has one.
pub record Countable (t : Bytes) (w : Words) (k : ℕ) : Type 0 where
  pub value : Node
  pub held : Held t w k value
  pub name : Nameable t (word w k 2)

-- `n` is what record `k` counts as an entry apart from what is inside its value: a comma, its name, its own part.
abbrev pub Counts : Bytes → Words → ℕ → ℕ → Type 0
Counts t w k n = (v : Node) → Held t w k v → n ≡ 1 + length (named t (word w k 2)) + own (tree v)

-- The records from a number on up to `end` are those of these values and of what is inside them.
pub data Pending (t : Bytes) (w : Words) (end : ℕ) : ℕ → List Child → Type 0 where
  none : Pending t w end end []
  more : {k q : ℕ} {v : Node} {cs : List Child} → Held t w k v → word w k 2 ≡ q → Nameable t q → Pending t w end (k + size v) cs → Pending t w end k (Child.child q v ∷ cs)

-- What they count as entries, with what is inside them.
unfoldable pub weights : Bytes → List Child → ℕ
weights t [] = 0
weights t (Child.child q v ∷ cs) = 1 + length (named t q) + weigh (tree v) + weights t cs
