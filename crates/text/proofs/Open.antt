-- Names that stand twice in a container that is still open, its values last first.
use Prim.Native.Nat.{ℕ}
use Rattle.text.proofs.Machine.{names_of, onto_members, onto_nodes}
use Rattle.text.proofs.Twice.{Twice, TwiceAll, TwiceMembers}
use Rattle.text.specs.Bytes.{Units}
use Rattle.text.specs.Ceilings.{among}
use Rattle.text.specs.Node.{Members, Node, Nodes}
use lib.Dec.{T}
use mathlib.Core.List.{List, [], ◌∷◌}
use mathlib.Core.Logic.{◌⊎◌, inl, inr}

-- Among the members of an open object, last first.
pub data Open (q : ℕ) (us : Units) : Members → Type 0 where
  here : {v : Node} {ms : Members} → T (among us (names_of ms)) → Open q us (Members.member q us v ms)
  inside : {k : ℕ} {n : Units} {v : Node} {ms : Members} → Twice q us v → Open q us (Members.member k n v ms)
  before : {k : ℕ} {n : Units} {v : Node} {ms : Members} → Open q us ms → Open q us (Members.member k n v ms)

module _ {q : ℕ} {us : Units} where
  -- What a container has twice as it closes stood in it while it was open, or comes behind that; ...
  split_nodes : (vs : Nodes) {l : Nodes} → TwiceAll q us (onto_nodes vs l) → TwiceAll q us vs ⊎ TwiceAll q us l
  unfolding onto_nodes
  split_nodes Nodes.nil x = inr x
  split_nodes (Nodes.cons v vs) {l} x = by (split_nodes vs x)
    where
      by : TwiceAll q us vs ⊎ TwiceAll q us (Nodes.cons v l) → TwiceAll q us (Nodes.cons v vs) ⊎ TwiceAll q us l
      by (inl y) = inl (TwiceAll.next y)
      by (inr (TwiceAll.first y)) = inl (TwiceAll.first y)
      by (inr (TwiceAll.next y)) = inr y

  split_member : {k : ℕ} {n : Units} {v : Node} {ms l : Members}
      → Open q us ms ⊎ TwiceMembers q us (names_of ms) (Members.member k n v l) → Open q us (Members.member k n v ms) ⊎ TwiceMembers q us (n ∷ names_of ms) l
  split_member (inl y) = inl (Open.before y)
  split_member (inr (TwiceMembers.here t)) = inl (Open.here t)
  split_member (inr (TwiceMembers.inside y)) = inl (Open.inside y)
  split_member (inr (TwiceMembers.later y)) = inr y

  split_members : (ms : Members) {l : Members} → TwiceMembers q us [] (onto_members ms l) → Open q us ms ⊎ TwiceMembers q us (names_of ms) l
  unfolding onto_members names_of
  split_members Members.empty x = inr x
  split_members (Members.member k n v ms) x = split_member (split_members ms x)

  pub closed_array : {a e : ℕ} {v : Node} {vs : Nodes} → Twice q us (Node.array a e (onto_nodes vs (Nodes.cons v Nodes.nil))) → TwiceAll q us (Nodes.cons v vs)
  unfolding onto_nodes
  closed_array {v = v} {vs = vs} (Twice.array x) = by (split_nodes (Nodes.cons v vs) x)
    where
      by : TwiceAll q us (Nodes.cons v vs) ⊎ TwiceAll q us Nodes.nil → TwiceAll q us (Nodes.cons v vs)
      by (inl y) = y
      by (inr x6) = elim x6 [ ]

  pub closed_object : {a e k : ℕ} {n : Units} {v : Node} {ms : Members}
      → Twice q us (Node.object a e (onto_members ms (Members.member k n v Members.empty))) → Open q us (Members.member k n v ms)
  unfolding onto_members
  closed_object {k = k} {n = n} {v = v} {ms = ms} (Twice.object x) = by (split_members (Members.member k n v ms) x)
    where
      by : {ns : List Units} → Open q us (Members.member k n v ms) ⊎ TwiceMembers q us ns Members.empty → Open q us (Members.member k n v ms)
      by (inl y) = y
      by (inr x6) = elim x6 [ ]

  pub empty_array : {a e : ℕ} → Twice q us (Node.array a e Nodes.nil) → TwiceAll q us Nodes.nil
  empty_array (Twice.array x) = x

  pub empty_object : {a e : ℕ} → Twice q us (Node.object a e Members.empty) → Open q us Members.empty
  empty_object (Twice.object x) = absurd (none x)
    where
      none : {ns : List Units} → ¬ (TwiceMembers q us ns Members.empty)
      none = elim [ ]

  -- ... and what comes behind stands in it.
  pub onto_nodes_lem : (vs : Nodes) {l : Nodes} → TwiceAll q us l → TwiceAll q us (onto_nodes vs l)
  unfolding onto_nodes
  onto_nodes_lem Nodes.nil x = x
  onto_nodes_lem (Nodes.cons v vs) x = onto_nodes_lem vs (TwiceAll.next x)

  pub onto_members_lem : (ms : Members) {l : Members} → TwiceMembers q us (names_of ms) l → TwiceMembers q us [] (onto_members ms l)
  unfolding onto_members names_of
  onto_members_lem Members.empty x = x
  onto_members_lem (Members.member k n v ms) x = onto_members_lem ms (TwiceMembers.later x)
