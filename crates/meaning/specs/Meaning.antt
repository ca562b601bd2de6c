-- What a text means, apart from where its parts stand, how they are spelled, and the order of members. 01 "What a
-- text means".
use Rattle.text.specs.Bytes.{Units}
use Rattle.text.specs.Ceilings.{same}
use Rattle.text.specs.Decimal.{Decimal}
use Rattle.text.specs.Node.{Literal, Node, Nodes, Members}
use Rattle.std.specs.Prelude.{true, false}

-- A value without its places.
mutual
  pub data Tree : Type 0 where
    literal : Literal → Tree
    string : Units → Tree
    number : Decimal → Tree
    array : Trees → Tree
    object : Pairs → Tree

  pub data Trees : Type 0 where
    nil : Trees
    cons : Tree → Trees → Trees

  pub data Pairs : Type 0 where
    empty : Pairs
    pair : Units → Tree → Pairs → Pairs

-- A meaning. An object is the function from each name to what it means there, if anything; functions are equal when
-- they agree everywhere, so two meanings are the same exactly when they are equal (proofs/Honest).
mutual
  pub data Meaning : Type 0 where
    literal : Literal → Meaning
    string : Units → Meaning
    number : Decimal → Meaning
    array : Meanings → Meaning
    object : (Units → Maybe) → Meaning

  pub data Meanings : Type 0 where
    nil : Meanings
    cons : Meaning → Meanings → Meanings

  pub data Maybe : Type 0 where
    none : Maybe
    some : Meaning → Maybe

unfoldable mutual
  pub tree : Node → Tree
  tree (Node.literal p q w) = Tree.literal w
  tree (Node.string p q us) = Tree.string us
  tree (Node.number p q x) = Tree.number x
  tree (Node.array p q vs) = Tree.array (trees vs)
  tree (Node.object p q ms) = Tree.object (pairs ms)

  pub trees : Nodes → Trees
  trees Nodes.nil = Trees.nil
  trees (Nodes.cons v vs) = Trees.cons (tree v) (trees vs)

  pub pairs : Members → Pairs
  pairs Members.empty = Pairs.empty
  pairs (Members.member q us v ms) = Pairs.pair us (tree v) (pairs ms)

unfoldable mutual
  pub mean : Tree → Meaning
  mean (Tree.literal w) = Meaning.literal w
  mean (Tree.string us) = Meaning.string us
  mean (Tree.number x) = Meaning.number x
  mean (Tree.array ts) = Meaning.array (means ts)
  mean (Tree.object ps) = Meaning.object (λ k. at ps k)

  pub means : Trees → Meanings
  means Trees.nil = Meanings.nil
  means (Trees.cons t ts) = Meanings.cons (mean t) (means ts)

  -- What the member of that name means.
  pub at : Pairs → Units → Maybe
  at Pairs.empty k = Maybe.none
  at (Pairs.pair j t ps) k = elim (same k j) [ true ↦ Maybe.some (mean t) | false ↦ at ps k ]

abbrev pub meaning : Node → Meaning
meaning v = mean (tree v)
