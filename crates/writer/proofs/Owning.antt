-- What a value counts apart from what is inside it, read off its first byte and the number of its next record.
use Prim.Native.Nat.{◌%◌, ◌+◌, suc, ℕ}
use Rattle.meaning.proofs.Sorting.{canon}
use Rattle.meaning.proofs.Weight.{own}
use Rattle.meaning.specs.Canonical.{put}
use Rattle.meaning.specs.Meaning.{Tree, pairs, tree, trees}
use Rattle.members.specs.Links.{low_part}
use Rattle.members.specs.Records.{next_of, word}
use Rattle.reader.specs.Tokens.{brace, bracket, opens_container}
use Rattle.spell.specs.Scalars.{Scalar}
use Rattle.text.proofs.Offsets.{end, start}
use Rattle.text.proofs.Records.{size_some}
use Rattle.text.proofs.Tests.{either, is_true}
use Rattle.text.specs.Bytes.{Bytes}
use Rattle.text.specs.Node.{Members, Node, Nodes}
use Rattle.text.specs.Table.{Words, size, size_all, size_members}
use Rattle.values.proofs.Records.{not_first}
use Rattle.values.specs.Held.{Held, Holds}
use lib.Dec.{eqb, eqb→eq}
use lib.ListN.{get_or, length}
use mathlib.Core.Bool.{false, true, true≢false}
use mathlib.Core.List.{[]}
use mathlib.Core.Path.{◌∙◌, ◌≡◌, ap, refl, subst, sym}
use native.Mathlib.Omega.{arith}

-- No scalar opens a container.
pub not_scalar : {t : Bytes} {p q : ℕ} {x : Tree} → Scalar t p q x → opens_container (get_or t p 0) ≡ true → ⊥
not_scalar {t} {p} s o =
    let b = get_or t p 0 in
    either (eqb b bracket) (eqb b brace) (λ u. not_first s bracket refl (eqb→eq b bracket u)) (λ u. not_first s brace refl (eqb→eq b brace u)) (is_true o)

-- A scalar counts all that is written for it.
pub record Leaf (t : Bytes) (p q : ℕ) (v : Node) : Type 0 where
  pub scalar : Scalar t p q (tree v)
  pub whole : own (tree v) ≡ length (put (tree v) [])
  pub sorted : canon (tree v) ≡ tree v

leaf_at : {t : Bytes} {w : Words} {r : ℕ} {v : Node} → Holds t w r v → opens_container (get_or t (start v) 0) ≡ false → Leaf t (start v) (end v) v
unfolding start end tree own canon
leaf_at (Holds.literal s) o = record { scalar = s; whole = refl; sorted = refl }
leaf_at (Holds.string s) o = record { scalar = s; whole = refl; sorted = refl }
leaf_at (Holds.number s) o = record { scalar = s; whole = refl; sorted = refl }
leaf_at (Holds.array e h) o = absurd (true≢false (sym (ap opens_container e) ∙ o))
leaf_at (Holds.object e s h) o = absurd (true≢false (sym (ap opens_container e) ∙ o))

module _ {t : Bytes} {w : Words} {r p q : ℕ} {v : Node} (h : Held t w r v) (e : p ≡ word w r 0 % low_part) (f : q ≡ word w r 1 % low_part) (o : opens_container (get_or t p 0) ≡ false) where
  pub leaf : Leaf t p q v
  leaf = by h
    where
      by : Held t w r v → Leaf t p q v
      by (Held.held x i y) =
          let a = e ∙ x.first in
          subst (λ p. Leaf t p q v) (sym a) (subst (λ q. Leaf t (start v) q v) (sym (f ∙ x.last)) (leaf_at y (ap (λ p. opens_container (get_or t p 0)) (sym a) ∙ o)))

  pub own_scalar : Scalar t p q (tree v)
  own_scalar = leaf.scalar

  pub own_leaf : own (tree v) ≡ length (put (tree v) [])
  own_leaf = leaf.whole

-- A container counts both brackets if the next record is the one behind its own, else one byte.
pub record Box (n r z : ℕ) : Type 0 where
  pub empty : n ≡ r + 1 → 2 ≡ z
  pub full : (n ≡ r + 1 → ⊥) → 1 ≡ z

array_box : {n r : ℕ} (vs : Nodes) → n ≡ r + suc (size_all vs) → Box n r (own (Tree.array (trees vs)))
unfolding size tree own
array_box Nodes.nil e = record { empty = λ f. refl; full = λ f. absurd (f (omega arith)) }
array_box (Nodes.cons v vs) e = record { empty = λ f. absurd (omega (arith, size_some v)); full = λ f. refl }

object_box : {n r : ℕ} (ms : Members) → n ≡ r + suc (size_members ms) → Box n r (own (Tree.object (pairs ms)))
unfolding size tree own
object_box Members.empty e = record { empty = λ f. refl; full = λ f. absurd (f (omega arith)) }
object_box (Members.member q us v ms) e = record { empty = λ f. absurd (omega (arith, size_some v)); full = λ f. refl }

box_at : {t : Bytes} {w : Words} {n r : ℕ} {v : Node} → Holds t w r v → n ≡ r + size v → opens_container (get_or t (start v) 0) ≡ true → Box n r (own (tree v))
unfolding start size tree
box_at (Holds.literal s) e o = absurd (not_scalar s o)
box_at (Holds.string s) e o = absurd (not_scalar s o)
box_at (Holds.number s) e o = absurd (not_scalar s o)
box_at (Holds.array {vs = vs} f h) e o = array_box vs e
box_at (Holds.object {ms = ms} f s h) e o = object_box ms e

module _ {t : Bytes} {w : Words} {n r p : ℕ} {v : Node} (h : Held t w r v) (e : p ≡ word w r 0 % low_part) (f : n ≡ next_of w r) (o : opens_container (get_or t p 0) ≡ true) where
  box : Box n r (own (tree v))
  unfolding next_of
  box = by h
    where
      by : Held t w r v → Box n r (own (tree v))
      by (Held.held x i y) = box_at y (f ∙ x.next) (ap (λ p. opens_container (get_or t p 0)) (sym (e ∙ x.first)) ∙ o)

  pub own_empty : n ≡ r + 1 → own (tree v) ≡ 2
  own_empty g = sym (box.empty g)

  pub own_full : (n ≡ r + 1 → ⊥) → own (tree v) ≡ 1
  own_full g = sym (box.full g)
