-- A value as it stands in a text: each with the offsets of its first byte and of the byte behind its last, a member
-- also with the offset of its name's opening quote. 01 "The record table".
use Rattle.std.specs.Prelude.{ℕ}
use Rattle.text.specs.Bytes.{Units}
use Rattle.text.specs.Decimal.{Decimal}

pub data Literal : Type 0 where
  null true false : Literal

mutual
  pub data Node : Type 0 where
    literal : ℕ → ℕ → Literal → Node
    string : ℕ → ℕ → Units → Node
    number : ℕ → ℕ → Decimal → Node
    array : ℕ → ℕ → Nodes → Node
    object : ℕ → ℕ → Members → Node

  pub data Nodes : Type 0 where
    nil : Nodes
    cons : Node → Nodes → Nodes

  pub data Members : Type 0 where
    empty : Members
    member : ℕ → Units → Node → Members → Members
