-- An object that was entered: its records in the order of their names are a chain of its members.
use Prim.Native.Nat.{◌+◌, ◌≤◌, suc, zero, ℕ}
use Rattle.entries.specs.Answer.{max_text}
use Rattle.meaning.proofs.Keeps.{Keeps, KeepsPairs}
use Rattle.meaning.proofs.SideBySide.{is_object, nothing}
use Rattle.meaning.proofs.Sorting.{canon}
use Rattle.meaning.specs.Meaning.{Pairs, Tree, pairs, tree}
use Rattle.meaning.specs.Merge.{members_of}
use Rattle.members.proofs.Chaining.{linked_back}
use Rattle.members.proofs.Framing.{frame_name, frame_refl}
use Rattle.members.proofs.Membership.{in_none, same_refl}
use Rattle.members.specs.Chains.{Linked, chain_of, siblings_of, walk}
use Rattle.members.specs.Links.{Frame, link_of}
use Rattle.members.specs.Lists.{In, Sorted}
use Rattle.members.specs.Names.{Named, in_order, name_of}
use Rattle.members.specs.Records.{next_of}
use Rattle.members.specs.Rows.{Row}
use Rattle.members.specs.Siblings.{Siblings}
use Rattle.patch.proofs.FirstBytes.{object_opened}
use Rattle.patch.proofs.Standing.{stands_writes}
use Rattle.patch.specs.Stands.{Chained, Stands}
use Rattle.reader.specs.Tokens.{brace}
use Rattle.text.specs.Bytes.{Bytes}
use Rattle.text.specs.Node.{Members}
use Rattle.text.specs.Table.{Words, size}
use Rattle.values.proofs.Kin.{held_record, members_size, quote_inside}
use Rattle.values.proofs.Linked.{held_stays, inside_none}
use Rattle.values.proofs.Records.{held_room}
use Rattle.values.specs.Children.{members, places}
use Rattle.values.specs.Held.{Held, HeldAll, Holds, Spelt}
use Rattle.writer.proofs.Entered.{entering_row, object_canon, object_kept, same_siblings}
use Rattle.writer.proofs.Gathered.{pairs_of}
use Rattle.writer.proofs.Inner.{inner, keeps_members, tree_at}
use Rattle.writer.specs.Entering.{Cleared, Kept}
use lib.ListN.{length}
use mathlib.Core.Bool.{false, true, true≢false}
use mathlib.Core.List.{[]}
use mathlib.Core.Path.{◌∙◌, ◌≡◌, ap, refl, subst, subst⁻¹, sym}
use native.Mathlib.Numerals.{add-one}
use native.Mathlib.Omega.{arith}

-- The members `ms` of an object, in a table with links between them.
module _ {t : Bytes} {w u : Words} {d r : ℕ} (ms : Members) (l : length t ≤ max_text) (s : Spelt t 0 ms) (h : HeldAll t w (suc r) (members ms)) (k : KeepsPairs (suc d) (pairs ms))
    (f : Frame (places (suc r) (members ms)) w u) where
  member_named : (x : ℕ) → In x (places (suc r) (members ms)) → Named t u x
  member_named x i = (omega (arith, f.long, held_room (inner h (keeps_members ms k) i).held), omega (arith, f.quote x, (quote_inside s h i).0))

  member_stands : (x : ℕ) → In x (places (suc r) (members ms)) → Stands t u x (d + 1) (tree_at (members ms) (suc r) x)
  member_stands x i =
      let p = inner h (keeps_members ms k) i in
      let y : Held t u x p.value = held_stays f p.held (λ z a b. inside_none h i (omega arith) (omega (arith, held_record p.held))) in
      Stands.stands l y (subst⁻¹ (λ d. Keeps d (tree p.value)) (add-one d) p.keeps) (sym p.sorted)

  -- A chain of some of them.
  along : (n x : ℕ) → ((y : ℕ) → In y (chain_of u n x) → In y (places (suc r) (members ms)))
      → Chained t u (d + 1) n x (pairs_of (name_of t u) (tree_at (members ms) (suc r)) (chain_of u n x))
  unfolding walk pairs_of
  along zero x i = Chained.none
  along (suc n) x i = Chained.more (member_named x (i x In.here)) (member_stands x (i x In.here)) (along n (link_of u x) (λ y j. i y (In.there j)))

-- What entering an object asks, and what it gives.
module _ {t : Bytes} {w : Words} {r d : ℕ} {ps : Pairs} (x : Stands t w r d (Tree.object ps)) (e : ℕ) (z : e ≡ next_of w r) where
  pub object_row : Row t w (r + 1) e
  object_row = entering_row (stands_writes x) (object_opened x) e z refl

  module _ (n : ℕ) (y : Siblings w e (r + 1) (siblings_of w n (r + 1))) (u : Words) (k : ℕ) (p : Linked (in_order t w) w (siblings_of w n (r + 1)) u (chain_of u n k)) where
    pub object_left : Kept w u brace n (r + 1)
    object_left = object_kept (stands_writes x) (object_opened x) e z n y u k refl p

    pub object_chained : Chained t u (d + 1) n k ps
    unfolding tree canon is_object members_of size next_of
    object_chained = by x
      where
        by : Stands t w r d (Tree.object ps) → Chained t u (d + 1) n k ps
        by (Stands.stands l (Held.held a i (Holds.literal s)) o g) = absurd (true≢false (sym (ap is_object g)))
        by (Stands.stands l (Held.held a i (Holds.string s)) o g) = absurd (true≢false (sym (ap is_object g)))
        by (Stands.stands l (Held.held a i (Holds.number s)) o g) = absurd (true≢false (sym (ap is_object g)))
        by (Stands.stands l (Held.held a i (Holds.array b h)) o g) = absurd (true≢false (sym (ap is_object g)))
        by (Stands.stands l (Held.held a i (Holds.object {ms = ms} b s h)) (Keeps.object m o) g) =
            let q : Linked (in_order t w) w (places (suc r) (members ms)) u (chain_of u n k) =
            subst (λ c. Linked (in_order t w) w c u (chain_of u n k)) (same_siblings n h (z ∙ a.next ∙ omega (arith, members_size ms)) y) p in
            subst (Chained t u (d + 1) n k)
            (ap (λ f. pairs_of f (tree_at (members ms) (suc r)) (chain_of u n k)) (frame_name q.frame t)
            ∙ ap members_of (object_canon t w u d r n k ms s h (Keeps.object m o) q ∙ g)) (along ms l s h o q.frame n k q.same.to)

-- Where nothing was entered, there are no links to take away.
pub none_left : (w : Words) (first : ℕ) → Kept w w brace 0 first
unfolding Cleared walk
none_left w first =
    record {
      room = λ v i. absurd (in_none i);
      back = λ x q.
          linked_back {lt = λ _ _. true} {c = []} first 0 (record { same = same_refl []; sorted = Sorted.none; frame = frame_refl [] w }) q
          (λ v i. absurd (in_none i));
    }

-- What isn't an object has no members.
pub plain_chained : {t : Bytes} {w : Words} {d x : ℕ} (v : Tree) → is_object v ≡ false → Chained t w d 0 x (members_of v)
unfolding is_object members_of
plain_chained (Tree.literal l) e = Chained.none
plain_chained (Tree.string us) e = Chained.none
plain_chained (Tree.number y) e = Chained.none
plain_chained (Tree.array ts) e = Chained.none
plain_chained (Tree.object ps) e = absurd (true≢false e)

-- Nothing isn't one.
pub nothing_chained : {t : Bytes} {w : Words} {d x : ℕ} (v : Tree) → v ≡ nothing → Chained t w d 0 x (members_of v)
unfolding is_object
nothing_chained v e = plain_chained v (ap is_object e)

-- What is one has its members.
object_is : (v : Tree) → is_object v ≡ true → v ≡ Tree.object (members_of v)
unfolding is_object members_of
object_is (Tree.literal l) e = absurd (true≢false (sym e))
object_is (Tree.string us) e = absurd (true≢false (sym e))
object_is (Tree.number y) e = absurd (true≢false (sym e))
object_is (Tree.array ts) e = absurd (true≢false (sym e))
object_is (Tree.object ps) e = refl

pub stands_object : {t : Bytes} {w : Words} {r d : ℕ} {v : Tree} → Stands t w r d v → is_object v ≡ true → Stands t w r d (Tree.object (members_of v))
stands_object {t} {w} {r} {d} {v} s e = subst (Stands t w r d) (object_is v e) s
