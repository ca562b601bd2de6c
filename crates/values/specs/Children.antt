-- The values inside a container, the same way for arrays and objects.
use Rattle.std.specs.Prelude.{ℕ, ◌+◌, List, [], ◌∷◌}
use Rattle.text.specs.Node.{Members, Node, Nodes}
use Rattle.text.specs.Table.{size, unnamed}

-- A value with the offset of its name's opening quote, or `unnamed`.
pub data Child : Type 0 where
  child : ℕ → Node → Child

unfoldable pub elements : Nodes → List Child
elements Nodes.nil = []
elements (Nodes.cons v vs) = Child.child unnamed v ∷ elements vs

unfoldable pub members : Members → List Child
members Members.empty = []
members (Members.member q us v ms) = Child.child q v ∷ members ms

-- The number of their records.
unfoldable pub sizes : List Child → ℕ
sizes [] = 0
sizes (Child.child q v ∷ cs) = size v + sizes cs

-- The record of each, where the first has the number `k`.
unfoldable pub places : ℕ → List Child → List ℕ
places k [] = []
places k (Child.child q v ∷ cs) = k ∷ places (k + size v) cs
