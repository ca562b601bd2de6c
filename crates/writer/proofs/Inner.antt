-- The values inside a container by the numbers of their records.
use Prim.Native.Nat.{◌+◌, ◌≤◌, ℕ}
use Rattle.meaning.proofs.Keeps.{Keeps, KeepsAll, KeepsPairs}
use Rattle.meaning.proofs.Members.{Which, at_it, at_other, at_under, some_none, which}
use Rattle.meaning.proofs.Sorting.{canon, canon_all, mean_canon}
use Rattle.meaning.specs.Meaning.{Maybe, Meaning, Pairs, Tree, Trees, at, mean, pairs, tree, trees}
use Rattle.members.specs.Lists.{In}
use Rattle.members.specs.Names.{name_at, name_of}
use Rattle.members.specs.Records.{word}
use Rattle.text.proofs.Records.{size_some}
use Rattle.text.specs.Bytes.{Bytes, Units}
use Rattle.text.specs.Node.{Literal, Members, Node, Nodes}
use Rattle.text.specs.Table.{Words, size}
use Rattle.values.specs.Children.{Child, elements, members, places}
use Rattle.values.specs.Held.{Held, HeldAll, Spelt}
use Rattle.writer.proofs.Gathered.{pairs_of, trees_of}
use borrow.Author.Tests.{eq-eqb, ne_eqb}
use lib.Dec.{eqb}
use mathlib.Core.Bool.{false, true}
use mathlib.Core.List.{List, [], ◌∷◌}
use mathlib.Core.Path.{◌∙◌, ◌≡◌, ap, ap₂, refl, sym}
use native.Mathlib.Omega.{arith}

-- The sorted tree of the value of record `x`, where the first has the number `k`.
unfoldable pub tree_at : List Child → ℕ → ℕ → Tree
tree_at [] k x = Tree.literal Literal.null
tree_at (Child.child q v ∷ cs) k x = elim (eqb x k) [ true ↦ canon (tree v) | false ↦ tree_at cs (k + size v) x ]

-- Each of the values keeps to the ceilings inside `d` open containers.
pub data KeepsEach (d : ℕ) : List Child → Type 0 where
  none : KeepsEach d []
  more : {q : ℕ} {v : Node} {cs : List Child} → Keeps d (tree v) → KeepsEach d cs → KeepsEach d (Child.child q v ∷ cs)

pub keeps_elements : {d : ℕ} (vs : Nodes) → KeepsAll d (trees vs) → KeepsEach d (elements vs)
unfolding trees elements
keeps_elements Nodes.nil k = KeepsEach.none
keeps_elements (Nodes.cons v vs) (KeepsAll.cons x y) = KeepsEach.more x (keeps_elements vs y)

pub keeps_members : {d : ℕ} (ms : Members) → KeepsPairs d (pairs ms) → KeepsEach d (members ms)
unfolding pairs members
keeps_members Members.empty k = KeepsEach.none
keeps_members (Members.member q us v ms) (KeepsPairs.pair u f x y) = KeepsEach.more x (keeps_members ms y)

tree_first : (q : ℕ) (v : Node) (cs : List Child) (k : ℕ) → tree_at (Child.child q v ∷ cs) k k ≡ canon (tree v)
unfolding tree_at
tree_first q v cs k = ap (λ b. elim b as (λ _. Tree) [ true ↦ canon (tree v) | false ↦ tree_at cs (k + size v) k ]) (eq-eqb k k refl)

places_above : {k x : ℕ} (cs : List Child) → In x (places k cs) → k ≤ x
unfolding places
places_above (Child.child q v ∷ cs) In.here = omega arith
places_above {k = k} (Child.child q v ∷ cs) (In.there i) = omega (arith, places_above {k = k + size v} cs i)
places_above [] x'' = elim x'' [ ]

tree_later : {x : ℕ} (k q : ℕ) (v : Node) (cs : List Child) → In x (places (k + size v) cs) → tree_at (Child.child q v ∷ cs) k x ≡ tree_at cs (k + size v) x
unfolding tree_at
tree_later {x} k q v cs i =
    ap (λ b. elim b as (λ _. Tree) [ true ↦ canon (tree v) | false ↦ tree_at cs (k + size v) x ]) (ne_eqb x k (λ e. omega (arith, places_above cs i, size_some v)))

-- What stands at one of them.
pub record Inner (t : Bytes) (w : Words) (d : ℕ) (cs : List Child) (k x : ℕ) : Type 0 where
  pub value : Node
  pub held : Held t w x value
  pub keeps : Keeps d (tree value)
  pub sorted : tree_at cs k x ≡ canon (tree value)

pub inner : {t : Bytes} {w : Words} {d k x : ℕ} {cs : List Child} → HeldAll t w k cs → KeepsEach d cs → In x (places k cs) → Inner t w d cs k x
unfolding places
inner (HeldAll.more {k = k} {q = q} {v = v} {cs = cs} h u e y) (KeepsEach.more z zs) In.here = record { value = v; held = h; keeps = z; sorted = tree_first q v cs k }
inner (HeldAll.more {k = k} {q = q} {v = v} {cs = cs} h u e y) (KeepsEach.more z zs) (In.there i) =
    let p = inner y zs i in
    record { value = p.value; held = p.held; keeps = p.keeps; sorted = tree_later k q v cs i ∙ p.sorted }
inner (HeldAll.none) _ x11 = elim x11 [ ]

-- An array's values in order.
trees_same : (f g : ℕ → Tree) (l : List ℕ) → ((x : ℕ) → In x l → f x ≡ g x) → trees_of f l ≡ trees_of g l
unfolding trees_of
trees_same f g [] h = refl
trees_same f g (x ∷ l) h = ap₂ Trees.cons (h x In.here) (trees_same f g l (λ y i. h y (In.there i)))

pub array_trees : (vs : Nodes) (k : ℕ) → trees_of (tree_at (elements vs) k) (places k (elements vs)) ≡ canon_all (trees vs)
unfolding trees_of elements places trees canon
array_trees Nodes.nil k = refl
array_trees (Nodes.cons v vs) k =
    ap₂ Trees.cons (tree_first _ v (elements vs) k)
    (trees_same _ (tree_at (elements vs) (k + size v)) (places (k + size v) (elements vs)) (λ x i. tree_later k _ v (elements vs) i) ∙ array_trees vs (k + size v))

-- An object's members mean what those of the text mean.
pairs_same : (name : ℕ → Units) (f g : ℕ → Tree) (l : List ℕ) → ((x : ℕ) → In x l → f x ≡ g x) → pairs_of name f l ≡ pairs_of name g l
unfolding pairs_of
pairs_same name f g [] h = refl
pairs_same name f g (x ∷ l) h = ap₂ (Pairs.pair (name x)) (h x In.here) (pairs_same name f g l (λ y i. h y (In.there i)))

module _ (t : Bytes) (w : Words) where
  name_of_lem : (k : ℕ) {q : ℕ} {us : Units} → word w k 2 ≡ q → name_at t q ≡ us → name_of t w k ≡ us
  unfolding name_of
  name_of_lem k e f = ap (name_at t) e ∙ f

  pub object_means : {d k b : ℕ} {ms : Members} → Spelt t b ms → HeldAll t w k (members ms) → KeepsPairs d (pairs ms) → (j : Units)
      → at (pairs_of (name_of t w) (tree_at (members ms) k) (places k (members ms))) j ≡ at (pairs ms) j
  unfolding pairs_of members places pairs
  object_means Spelt.none y z j = refl
  object_means {k = k} (Spelt.more {q = q} {us = us} {v = v} {ms = ms} l m c n s) (HeldAll.more h u e y) (KeepsPairs.pair a f x z) j =
      ap (λ ps. at (Pairs.pair (name_of t w k) (tree_at (Child.child q v ∷ members ms) k k) ps) j)
      (pairs_same (name_of t w) _ (tree_at (members ms) (k + size v)) (places (k + size v) (members ms)) (λ x i. tree_later k q v (members ms) i))
      ∙ ap (λ i. at (Pairs.pair i (tree_at (Child.child q v ∷ members ms) k k) (pairs_of (name_of t w) (tree_at (members ms) (k + size v)) (places (k + size v) (members ms)))) j) (name_of_lem k e n)
      ∙ at_under us _ (tree v) _ (pairs ms) j (ap mean (tree_first q v (members ms) k) ∙ mean_canon x) (object_means {k = k + size v} s y z j)

  -- No two of them have one name.
  named_some : {k b x : ℕ} {ms : Members} → Spelt t b ms → HeldAll t w k (members ms) → In x (places k (members ms)) → (m : Meaning) × (at (pairs ms) (name_of t w x) ≡ Maybe.some m)
  unfolding members places pairs
  named_some {k = k} (Spelt.more {us = us} {v = v} {ms = ms} l m c n s) (HeldAll.more h u e y) In.here = (mean (tree v), at_it us (tree v) (pairs ms) _ (name_of_lem k e n))
  named_some {k = k} {x = x} (Spelt.more {us = us} {v = v} {ms = ms} l m c n s) (HeldAll.more h u e y) (In.there i) = by (which (name_of t w x) us) (named_some {k = k + size v} s y i)
    where
      by : Which (name_of t w x) us → (m : Meaning) × (at (pairs ms) (name_of t w x) ≡ Maybe.some m) → (m : Meaning) × (at (Pairs.pair us (tree v) (pairs ms)) (name_of t w x) ≡ Maybe.some m)
      by (Which.it p) r = (mean (tree v), at_it us (tree v) (pairs ms) (name_of t w x) p)
      by (Which.other p) (m, f) = (m, at_other us (tree v) (pairs ms) (name_of t w x) p ∙ f)
  named_some (Spelt.none) _ x11 = elim x11 [ ]

  pub names_distinct : {d k b : ℕ} {ms : Members} → Spelt t b ms → HeldAll t w k (members ms) → KeepsPairs d (pairs ms) → (x y : ℕ) → In x (places k (members ms)) → In y (places k (members ms)) → name_of t w x ≡ name_of t w y → x ≡ y
  unfolding members places pairs
  names_distinct (Spelt.more l m c n s) (HeldAll.more h u e r) (KeepsPairs.pair a f p z) x y In.here In.here g = refl
  names_distinct {k = k} (Spelt.more {ms = ms} l m c n s) (HeldAll.more h u e r) (KeepsPairs.pair a f p z) x y In.here (In.there j) g =
      let (_, i) = named_some s r j in absurd (some_none (sym i ∙ ap (at (pairs ms)) (sym g ∙ name_of_lem k e n) ∙ f))
  names_distinct {k = k} (Spelt.more {ms = ms} l m c n s) (HeldAll.more h u e r) (KeepsPairs.pair a f p z) x y (In.there i) In.here g =
      let (_, j) = named_some s r i in absurd (some_none (sym j ∙ ap (at (pairs ms)) (g ∙ name_of_lem k e n) ∙ f))
  names_distinct {k = k} (Spelt.more {v = v} l m c n s) (HeldAll.more h u e r) (KeepsPairs.pair a f p z) x y (In.there i) (In.there j) g = names_distinct {k = k + size v} s r z x y i j g
  names_distinct (Spelt.none) _ _ x y x22 _ g = elim x22 [ ]
