-- What the merge of a value asks and gives: a patch that isn't an object is the result, the members of one that is are
-- merged.
use Prim.Native.Nat.{◌+◌, ◌<◌, ℕ}
use Rattle.meaning.proofs.SideBySide.{Merged, Side, is_object}
use Rattle.meaning.specs.Canonical.{put}
use Rattle.meaning.specs.Meaning.{Pairs, Tree}
use Rattle.meaning.specs.Merge.{members_of}
use Rattle.members.specs.Chains.{siblings_of}
use Rattle.members.specs.Links.{Laid}
use Rattle.members.specs.Records.{max_records}
use Rattle.members.specs.declared.chain.Chain.{Chain}
use Rattle.std.specs.Prelude.{Option, Some}
use Rattle.patch.proofs.Emitting.{emit_as}
use Rattle.patch.proofs.FirstBytes.{object_opened}
use Rattle.patch.proofs.Seeing.{told}
use Rattle.patch.proofs.Standing.{stands_room, stands_writes}
use Rattle.patch.specs.Emits.{Emits, Fits}
use Rattle.patch.specs.Side.{with_words}
use Rattle.patch.specs.Stands.{Chained, Old, Stands}
use Rattle.patch.specs.Walks.{Merges, Sides}
use Rattle.patch.specs.declared.side.Side as side
use Rattle.reader.specs.Tokens.{brace}
use Rattle.text.specs.Bytes.{Bytes}
use Rattle.text.specs.Ceilings.{max_depth}
use Rattle.text.specs.Table.{Words}
use Rattle.writer.proofs.Entered.{cleared_object}
use Rattle.writer.proofs.Writing.{left, opened_depth}
use Rattle.writer.specs.Entering.{Kept}
use mathlib.Core.Bool.{Bool, false, true, true≢false}
use mathlib.Core.List.{[]}
use mathlib.Core.Path.{◌∙◌, ◌≡◌, ap, ap₂, refl, subst, subst⁻¹, sym}

-- A patch that is an object, with its members and the target's.
record Opens (t p : Bytes) (w u : Words) (d : ℕ) (x : Option ℕ) (y : ℕ) (c : Bytes) : Type 0 where
  pub target : Tree
  pub news : Pairs
  pub merged : Pairs
  pub old : Old t w d x target
  pub new : Stands p u y d (Tree.object news)
  pub side : Side (members_of target) news merged
  pub whole : put (Tree.object merged) [] ≡ c

-- Whether it is one, its first byte tells.
module _ {t p : Bytes} {w u : Words} {d : ℕ} {x : Option ℕ} {y : ℕ} {b : Bool} (g : (e : ℕ) (v : Tree) → Stands p u y e v → b ≡ is_object v) where
  plain : {c : Bytes} → b ≡ false → Merges t p w u d x y c → (v : Tree) × Stands p u y d v × (put v [] ≡ c)
  unfolding is_object
  plain n (Merges.merges {b = v} o s (Merged.plain f) e) = (v, s, e)
  plain n (Merges.merges o s (Merged.object {qs = qs} f) e) = absurd (true≢false (sym (g d (Tree.object qs) s) ∙ n))

  opens : {c : Bytes} → b ≡ true → Merges t p w u d x y c → Opens t p w u d x y c
  opens n (Merges.merges {b = v} o s (Merged.plain f) e) = absurd (true≢false (sym n ∙ g d v s ∙ f))
  opens n (Merges.merges {a = a} o s (Merged.object {qs = qs} {rs = rs} f) e) =
      record { target = a; news = qs; merged = rs; old = o; new = s; side = f; whole = e }

module _ {t p : Bytes} {w u : Words} {d : ℕ} {x : Option ℕ} {y : ℕ} {on : Bool} {o : Bytes} where
  pub new_stands : (c : Bytes) × Merges t p w u d x y c × Fits on c o → (e : ℕ) × (v : Tree) × Stands p u y e v
  new_stands (_, Merges.merges {b = b} o s m e, f) = (d, b, s)

  old_value : (c : Bytes) × Merges t p w u d x y c × Fits on c o → (e : ℕ) × (v : Tree) × Old t w e x v
  old_value (_, Merges.merges {a = a} o s m e, f) = (d, a, o)

  module _ (a : (c : Bytes) × Merges t p w u d x y c × Fits on c o) where
    pub old_small : {r : ℕ} → x ≡ Some r → r < max_records
    old_small f = let (e, v, s) = old_value a in (stands_room (subst (λ x. Old t w e x v) f s)).1

    pub new_small : y < max_records
    new_small = (stands_room (new_stands a).2).1

  -- By a view of the patch, with the text `q` and the words `z`.
  module _ {q : Bytes} {z : Words} (seen : (q ≡ p) × (z ≡ u)) {b : Bool} (g : (e : ℕ) (v : Tree) → Stands q z y e v → b ≡ is_object v) where
    pub plain_asks : b ≡ false → (c : Bytes) × Merges t p w u d x y c × Fits on c o → (v : Tree) × Stands p u y d v × Fits on (put v []) o
    plain_asks n (_, m, f) = let (v, s, e) = plain (told seen g) n m in (v, s, subst⁻¹ (λ c. Fits on c o) e f)

    pub plain_gives : {k : ℕ} {o' : Bytes} → b ≡ false → ((v : Tree) → Stands p u y d v → Emits on (put v []) o k o') → (c : Bytes) → Merges t p w u d x y c → Emits on c o k o'
    plain_gives n f _ m = let (v, s, e) = plain (told seen g) n m in emit_as e (f v s)

    -- Both are entered.
    module _ (n : b ≡ true) where
      module _ (a : (c : Bytes) × Merges t p w u d x y c × Fits on c o) where
        pub enter_asks : (e : ℕ) × (qs : Pairs) × Stands p u y e (Tree.object qs)
        enter_asks = let v = opens (told seen g) n a.1 in (d, v.news, v.new)

        pub deep : d < max_depth
        deep = let v = opens (told seen g) n a.1 in opened_depth (stands_writes v.new) (object_opened v.new)

      module _ {t' p' : Bytes} {w' u' : Words} {i j : Chain} (f : (e : ℕ) (v : Tree) → Old t w e x v → Chained t' w' (e + 1) i.count i.head (members_of v))
          (h : (e : ℕ) (qs : Pairs) → Stands p u y e (Tree.object qs) → Chained p' u' (e + 1) j.count j.head qs) where
        pub members_asks : (c : Bytes) × Merges t p w u d x y c × Fits on c o → (c : Bytes) × Sides t' p' w' u' (d + 1) i j c × Fits on c o
        members_asks (c, m, k) = let v = opens (told seen g) n m in (c, Sides.sides (f d v.target v.old) (h d v.news v.new) v.side v.whole, k)

        pub members_gives : {k : ℕ} {o' : Bytes} → ((c : Bytes) → Sides t' p' w' u' (d + 1) i j c → Emits on c o k o') → (c : Bytes) → Merges t p w u d x y c → Emits on c o k o'
        members_gives q c m = let v = opens (told seen g) n m in q c (Sides.sides (f d v.target v.old) (h d v.news v.new) v.side v.whole)

-- A side that was entered, and left behind what left it alone, is as it was.
pub side_left : {s e l : side.Side} {n first : ℕ} {x : Words} → Kept s.table.now e.table.now brace n first → with_words e s.table.now ≡ s → l ≡ e
    → Laid (λ _. 0) (siblings_of l.table.now n first) l.table.now x → with_words l x ≡ s
side_left k e f c = ap₂ with_words f (left k (ap (λ s. s.table.now) f) (cleared_object brace refl c)) ∙ e
