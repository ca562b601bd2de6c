-- A container that was entered: its entries in order give its canonical text, and leaving it gives the table back.
use Prim.Native.Char.{code}
use Prim.Native.Nat.{◌*◌, ◌+◌, ◌≤◌, suc, ℕ}
use Rattle.meaning.proofs.Keeps.{Keeps, KeepsAll, KeepsPairs}
use Rattle.meaning.proofs.Sorting.{canon, mean_canon, sorted_canon, sorted_one}
use Rattle.meaning.specs.Canonical.{put}
use Rattle.meaning.specs.Meaning.{Meaning, Pairs, Tree, Trees, mean, pairs, tree, trees}
use Rattle.meaning.specs.Order as meaning
use Rattle.members.proofs.Chaining.{linked_back, linked_room}
use Rattle.members.proofs.Framing.{frame_refl}
use Rattle.members.proofs.Lineage.{siblings_between, siblings_unique}
use Rattle.members.specs.Chains.{Linked, chain_of, siblings_of, walk}
use Rattle.members.specs.Links.{Frame, Laid, link_of}
use Rattle.members.specs.Lists.{In}
use Rattle.members.specs.Names.{in_order, name_of}
use Rattle.members.specs.Records.{Room, next_of, word}
use Rattle.members.specs.Rows.{Row}
use Rattle.members.specs.Siblings.{Siblings}
use Rattle.spell.specs.Scalars.{quoted}
use Rattle.text.specs.Bytes.{Bytes, Units}
use Rattle.text.specs.Node.{Members, Nodes}
use Rattle.text.specs.Table.{Words, unnamed, size}
use Rattle.values.proofs.Kin.{held_record, held_siblings, members_row, members_size, place_of, quote_inside}
use Rattle.values.proofs.Linked.{held_stays, inside_none}
use Rattle.values.specs.Children.{Child, elements, members, places, sizes}
use Rattle.values.specs.Held.{Held, HeldAll, Spelt, Unlinked}
use Rattle.writer.proofs.Gathered.{gathered_same, gathered_sorted, pairs_of}
use Rattle.writer.proofs.Inner.{KeepsEach, array_trees, inner, keeps_elements, keeps_members, names_distinct, object_means, tree_at}
use Rattle.writer.proofs.Naming.{named_none, named_some}
use Rattle.writer.proofs.Opening.{Inside, opened, writes_room}
use Rattle.writer.proofs.Spelled.{array_text, each_same, object_text}
use Rattle.writer.specs.Containers.{container, each}
use Rattle.writer.specs.Entering.{Cleared, Kept, Opened, opens_object}
use Rattle.writer.specs.Walks.{Ready, entries_of, onward}
use Rattle.writer.specs.Writes.{Entry, Nameable, Writes, named}
use borrow.Author.Tests.{eq-eqb, ne_eqb}
use lib.ListN.{length}
use mathlib.Core.Bool.{cond}
use mathlib.Core.List.{List, [], ◌++◌, ◌∷◌}
use mathlib.Core.Path.{◌∙◌, ◌≡◌, ap, fun_ext, refl, subst, subst⁻¹, sym}
use native.Mathlib.Numerals.{add-one}
use native.Mathlib.Omega.{arith}

-- How entries follow each other.
onward_link : (u : Words) (b : ℕ) → b ≡ code "{" → onward u b ≡ link_of u
unfolding onward
onward_link u b e = fun_ext (λ x. ap (λ q. cond q (link_of u x) (next_of u x)) (eq-eqb b (code "{") e))

onward_next : (u : Words) (b : ℕ) → (b ≡ code "{" → ⊥) → onward u b ≡ next_of u
unfolding onward
onward_next u b n = fun_ext (λ x. ap (λ q. cond q (link_of u x) (next_of u x)) (ne_eqb b (code "{") n))

-- The entries `cs` of a container whose records follow `r`, in a table with links between them.
module _ (t : Bytes) (w u : Words) (d r : ℕ) (cs : List Child) (h : HeldAll t w (suc r) cs) (k : KeepsEach (suc d) cs) (f : Frame (places (suc r) cs) w u) where
  -- The text of one of them.
  abbrev entry_text : ℕ → Bytes
  entry_text x = named t (word u x 2) ++ put (tree_at cs (suc r) x) []

  entry_of : (x : ℕ) → In x (places (suc r) cs) → Nameable t (word w x 2) → Entry t u x (d + 1) (entry_text x)
  entry_of x i n =
      let p = inner h k i in
      let y : Held t u x p.value = held_stays f p.held (λ z a b. inside_none h i (omega arith) (omega (arith, held_record p.held))) in
      Entry.entry (subst⁻¹ (Nameable t) (f.quote x) n)
      (Writes.writes y (subst⁻¹ (λ d. Keeps d (tree p.value)) (add-one d) p.keeps) refl)
      (ap (λ z. named t (word u x 2) ++ put z []) (sym p.sorted))

-- They are siblings, and the siblings that are counted are they.
siblings_of_lem : {t : Bytes} {w : Words} {r e : ℕ} {cs : List Child} → HeldAll t w (suc r) cs → e ≡ suc r + sizes cs → Siblings w e (r + 1) (places (suc r) cs)
siblings_of_lem {w = w} {r} {e} {cs} h f =
    subst⁻¹ (λ e. Siblings w e (r + 1) (places (suc r) cs)) f (subst⁻¹ (λ k. Siblings w (suc r + sizes cs) k (places (suc r) cs)) (add-one r) (held_siblings h))

pub same_siblings : {t : Bytes} {w : Words} {r e : ℕ} {cs : List Child} (n : ℕ) → HeldAll t w (suc r) cs → e ≡ suc r + sizes cs → Siblings w e (r + 1) (siblings_of w n (r + 1)) → siblings_of w n (r + 1) ≡ places (suc r) cs
same_siblings n h f s = siblings_unique s (siblings_of_lem h f)

inner_pairs : {d : ℕ} {ps : Pairs} → Keeps d (Tree.object ps) → KeepsPairs (suc d) ps
inner_pairs (Keeps.object l z) = z

-- An object whose members are linked in order.
module _ (t : Bytes) (w u : Words) (d r n x : ℕ) (ms : Members) (s : Spelt t 0 ms) (h : HeldAll t w (suc r) (members ms)) (k : Keeps d (Tree.object (pairs ms)))
    (p : Linked (in_order t w) w (places (suc r) (members ms)) u (chain_of u n x)) where
  abbrev pub name : ℕ → Units
  name = name_of t w

  abbrev pub value : ℕ → Tree
  value = tree_at (members ms) (suc r)

  abbrev own : List ℕ
  own = places (suc r) (members ms)

  distinct : (a b : ℕ) → In a own → In b own → name a ≡ name b → a ≡ b
  distinct = names_distinct t w s h (inner_pairs k)

  value_sorted : (a : ℕ) → In a (chain_of u n x) → meaning.Sorted (value a)
  value_sorted a i = let z = inner h (keeps_members ms (inner_pairs k)) (p.same.to a i) in subst⁻¹ meaning.Sorted z.sorted (sorted_canon z.keeps)

  -- They are the members of the canonical text.
  pub object_canon : Tree.object (pairs_of name value (chain_of u n x)) ≡ canon (Tree.object (pairs ms))
  unfolding mean
  object_canon =
      sorted_one (meaning.Sorted.object (gathered_sorted name value p.sorted (λ a b i j. distinct a b (p.same.to a i) (p.same.to b j)) value_sorted)) (sorted_canon k)
      (ap Meaning.object (fun_ext (λ j. gathered_same name value p.same distinct j ∙ object_means t w s h (inner_pairs k) j)) ∙ sym (mean_canon k))

  entry_text_lem : (a : ℕ) → In a (chain_of u n x) → entry_text t w u d r (members ms) h (keeps_members ms (inner_pairs k)) p.frame a ≡ (quoted (name a) ++ (code ":" ∷ [])) ++ put (value a) []
  unfolding name_of
  entry_text_lem a i =
      let (_, l) = quote_inside s h (p.same.to a i) in
      ap (λ q. named t q ++ put (value a) []) (p.frame.quote a) ∙ ap (λ z. z ++ put (value a) []) (named_some t {q = word w a 2} (λ e. omega (arith, l)))

  object_entered : (b : ℕ) {c : Bytes} → b ≡ code "{" → put (canon (Tree.object (pairs ms))) [] ≡ c → Ready t u (d + 1) b n x c
  object_entered b {c} e g =
      let f : entries_of u b n x ≡ chain_of u n x = ap (λ z. walk z n x) (onward_link u b e) in
      record {
        texts = record {
          text = entry_text t w u d r (members ms) h (keeps_members ms (inner_pairs k)) p.frame;
          entries = λ a i.
              let j = p.same.to a (subst (In a) f i) in
              entry_of t w u d r (members ms) h (keeps_members ms (inner_pairs k)) p.frame a j (λ _. (quote_inside s h j).0);
        };
        whole =
            ap (λ l. container b (each (entry_text t w u d r (members ms) h (keeps_members ms (inner_pairs k)) p.frame) l)) f
            ∙ ap (container b) (each_same _ _ (chain_of u n x) entry_text_lem)
            ∙ ap (λ b. container b (each (λ a. (quoted (name a) ++ (code ":" ∷ [])) ++ put (value a) []) (chain_of u n x))) e
            ∙ object_text name value (chain_of u n x) ∙ ap (λ z. put z []) object_canon ∙ g;
      }

-- An array's elements have no names.
elements_unnamed : {t : Bytes} {w : Words} {k x : ℕ} (vs : Nodes) → HeldAll t w k (elements vs) → In x (places k (elements vs)) → word w x 2 ≡ unnamed
unfolding elements places
elements_unnamed (Nodes.cons v vs) (HeldAll.more h u e y) In.here = e
elements_unnamed {k = k} (Nodes.cons v vs) (HeldAll.more h u e y) (In.there i) = elements_unnamed {k = k + size v} vs y i
elements_unnamed Nodes.nil _ x4 = elim x4 [ ]

inner_trees : {d : ℕ} {ts : Trees} → Keeps d (Tree.array ts) → KeepsAll (suc d) ts
inner_trees (Keeps.array l z) = z

module _ (t : Bytes) (w : Words) (d r n : ℕ) (vs : Nodes) (h : HeldAll t w (suc r) (elements vs)) (k : Keeps d (Tree.array (trees vs)))
    (p : siblings_of w n (r + 1) ≡ places (suc r) (elements vs)) where
  abbrev element_text : ℕ → Bytes
  element_text = entry_text t w w d r (elements vs) h (keeps_elements vs (inner_trees k)) (frame_refl (places (suc r) (elements vs)) w)

  element_text_lem : (a : ℕ) → In a (places (suc r) (elements vs)) → element_text a ≡ put (tree_at (elements vs) (suc r) a) []
  element_text_lem a i = ap (λ z. z ++ put (tree_at (elements vs) (suc r) a) []) (named_none t {q = word w a 2} (elements_unnamed vs h i))

  array_entered : (b : ℕ) {c : Bytes} → b ≡ code "[" → put (canon (Tree.array (trees vs))) [] ≡ c → Ready t w (d + 1) b n (r + 1) c
  unfolding canon
  array_entered b {c} e g =
      let f : entries_of w b n (r + 1) ≡ places (suc r) (elements vs) = ap (λ z. walk z n (r + 1)) (onward_next w b (λ z. omega (arith, e, z))) ∙ p in
      record {
        texts = record {
          text = element_text;
          entries = λ a i.
              let j = subst (In a) f i in
              entry_of t w w d r (elements vs) h (keeps_elements vs (inner_trees k)) (frame_refl (places (suc r) (elements vs)) w) a j (λ n. absurd (n (elements_unnamed vs h j)));
        };
        whole =
            ap (λ l. container b (each element_text l)) f ∙ ap (container b) (each_same _ _ (places (suc r) (elements vs)) element_text_lem)
            ∙ ap (λ b. container b (each (λ a. put (tree_at (elements vs) (suc r) a) []) (places (suc r) (elements vs)))) e
            ∙ array_text (tree_at (elements vs) (suc r)) (places (suc r) (elements vs)) ∙ ap (λ z. put (Tree.array z) []) (array_trees vs (suc r)) ∙ g;
      }

-- Leaving it.
pub cleared_array : (b : ℕ) (l : List ℕ) (u : Words) → (b ≡ code "{" → ⊥) → Cleared (opens_object b) l u u
unfolding Cleared
cleared_array b l u n = subst⁻¹ (λ s. Cleared s l u u) (ne_eqb b (code "{") n) refl

pub cleared_object : (b : ℕ) {l : List ℕ} {u x : Words} → b ≡ code "{" → Laid (λ _. 0) l u x → Cleared (opens_object b) l u x
unfolding Cleared
cleared_object b {l} {u} {x} e p = subst⁻¹ (λ s. Cleared s l u x) (eq-eqb b (code "{") e) p

-- What entering asks, and what it gives.
module _ {t : Bytes} {w : Words} {r d b : ℕ} {c : Bytes} (x : Writes t w r d c) (o : Opened t w r b) (e : ℕ) (z : e ≡ next_of w r) where
  pub entering : (4 * e ≤ length w) × ((l : List ℕ) × Siblings w e (r + 1) l)
  unfolding next_of
  entering = by (opened x o)
    where
      siblings : (cs : List Child) → HeldAll t w (suc r) cs → word w r 3 ≡ suc r + sizes cs → (l : List ℕ) × Siblings w e (r + 1) l
      siblings cs h f = (places (suc r) cs, siblings_of_lem h (z ∙ f))

      by : Inside t w r d b c → (4 * e ≤ length w) × ((l : List ℕ) × Siblings w e (r + 1) l)
      by (Inside.array vs _ h _ _ f l m) = (omega (arith, z, l), siblings (elements vs) h f)
      by (Inside.object ms _ s h _ _ f l m) = (omega (arith, z, l), siblings (members ms) h f)

  pub entering_row : b ≡ code "{" → Row t w (r + 1) e
  unfolding next_of
  entering_row i = by (opened x o)
    where
      by : Inside t w r d b c → Row t w (r + 1) e
      by (Inside.array vs j _ _ _ _ _ _) = absurd (omega (arith, i, j))
      by (Inside.object ms _ s h _ _ f l m) =
          subst⁻¹ (λ k. Row t w k e) (add-one r) (members_row e (z ∙ f ∙ omega (arith, members_size ms)) s h (omega (arith, z, m)) (omega (arith, z, l)))

  module _ (n : ℕ) (y : Siblings w e (r + 1) (siblings_of w n (r + 1))) where
    -- The siblings are those of the container, without links.
    unlinked_of : {v : ℕ} (cs : List Child) → HeldAll t w (suc r) cs → word w r 3 ≡ suc r + sizes cs → In v (siblings_of w n (r + 1)) → Unlinked w v
    unfolding next_of
    unlinked_of {v} cs h f i = (place_of h (subst (In v) (same_siblings n h (z ∙ f) y) i)).unlinked

    low : (v : ℕ) → In v (siblings_of w n (r + 1)) → Unlinked w v
    low v i = by (opened x o)
      where
        by : Inside t w r d b c → Unlinked w v
        by (Inside.array vs _ h _ _ f l m) = unlinked_of (elements vs) h f i
        by (Inside.object ms _ s h _ _ f l m) = unlinked_of (members ms) h f i

    room : (v : ℕ) → In v (siblings_of w n (r + 1)) → Room w v
    room v i = omega (arith, siblings_between y i, entering.0)

    pub object_ready : (u : Words) (k : ℕ) → b ≡ code "{" → Linked (in_order t w) w (siblings_of w n (r + 1)) u (chain_of u n k) → Ready t u (d + 1) b n k c
    unfolding next_of
    object_ready u k i p = by (opened x o)
      where
        by : Inside t w r d b c → Ready t u (d + 1) b n k c
        by (Inside.array vs j _ _ _ _ _ _) = absurd (omega (arith, i, j))
        by (Inside.object ms j s h q g f l m) =
            object_entered t w u d r n k ms s h q (subst (λ a. Linked (in_order t w) w a u (chain_of u n k)) (same_siblings n h (z ∙ f) y) p) b j g

    pub object_kept : (u : Words) (k : ℕ) → b ≡ code "{" → Linked (in_order t w) w (siblings_of w n (r + 1)) u (chain_of u n k) → Kept w u b n (r + 1)
    unfolding Cleared
    object_kept u k i p =
        record {
          room = linked_room (r + 1) n p room;
          back = λ a q. linked_back (r + 1) n p (subst (λ s. Cleared s (siblings_of u n (r + 1)) u a) (eq-eqb b (code "{") i) q) low;
        }

    pub array_ready : (b ≡ code "{" → ⊥) → Ready t w (d + 1) b n (r + 1) c
    unfolding next_of
    array_ready i = by (opened x o)
      where
        by : Inside t w r d b c → Ready t w (d + 1) b n (r + 1) c
        by (Inside.array vs j h q g f l m) = array_entered t w d r n vs h q (same_siblings n h (z ∙ f) y) b j g
        by (Inside.object ms j _ _ _ _ _ _ _) = absurd (i j)

    pub array_kept : (b ≡ code "{" → ⊥) → Kept w w b n (r + 1)
    unfolding Cleared
    array_kept i = record { room = room; back = λ a q. subst (λ s. Cleared s (siblings_of w n (r + 1)) w a) (ne_eqb b (code "{") i) q }

-- What entering a container and leaving it need.
pub ruleset enters_and_leaves = (writes_room, cleared_array, cleared_object)
