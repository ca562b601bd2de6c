-- Members of target and patch in turn, and what each turn writes.
use Prim.Native.Char.{code}
use Rattle.std.specs.Prelude.{ℕ, ◌-◌, eqb, cond, false, true, Option, [], ◌∷◌, ◌++◌, ◌≡◌}
use Rattle.std.specs.Bool.{then_some}
use Rattle.std.specs.Ordering.{is_eq, is_lt}
use Rattle.std.specs.declared.cmp.Ordering.{Ordering}
use Rattle.meaning.proofs.SideBySide.{Merged}
use Rattle.meaning.specs.Canonical.{put}
use Rattle.meaning.specs.Meaning.{Tree}
use Rattle.meaning.specs.Merge.{is_null}
use Rattle.members.specs.Links.{link_of}
use Rattle.members.specs.declared.chain.Chain.{Chain}
use Rattle.members.specs.Names.{Named, name_of}
use Rattle.names.specs.Order.{order}
use Rattle.patch.specs.Stands.{Old, Stands}
use Rattle.spell.specs.Scalars.{quoted}
use Rattle.text.specs.Bytes.{Bytes, Units}
use Rattle.text.specs.Table.{Words}

-- Whose member comes next, with `i` of the target and `j` of the patch to come, whose next names are `a` and `b`, by the
-- numbers of `order`: 0 the target's, 1 one of both, 2 the patch's.
abbrev pub turn_of : ℕ → ℕ → Units → Units → ℕ
turn_of i j a b = cond (eqb j 0) 0 (cond (eqb i 0) 2 (order a b))

-- The record that the patch's member is merged with in turn `z`, where the target's next is `x`.
abbrev pub old_of : Ordering → ℕ → Option ℕ
old_of z x = then_some (is_eq z) x

-- The chain behind its first.
abbrev pub rest_of : Words → Chain → Chain
rest_of w c = record { head = link_of w c.head; count = c.count - 1 }

-- A name with what stands before it and its colon.
abbrev pub key : ℕ → Units → Bytes
key m k = m ∷ (quoted k ++ (code ":" ∷ []))

-- A turn `z` writes `e`: the target's member as it is, nothing for a null of the patch, or the merge.
pub data Takes (t p : Bytes) (w u : Words) (d x y : ℕ) (z : Ordering) (m : ℕ) (e : Bytes) : Type 0 where
  keep : {v : Tree} → is_lt z ≡ true → Named t w x → Stands t w x d v → key m (name_of t w x) ++ put v [] ≡ e → Takes t p w u d x y z m e
  skip : {v : Tree} → is_lt z ≡ false → Stands p u y d v → is_null v ≡ true → [] ≡ e → Takes t p w u d x y z m e
  set : {a v r : Tree} → is_lt z ≡ false → Named p u y → Old t w d (old_of z x) a → Stands p u y d v → is_null v ≡ false → Merged a v r
      → key m (name_of p u y) ++ put r [] ≡ e → Takes t p w u d x y z m e
