-- The sorted trees that records of a table stand for.
use Rattle.std.specs.Prelude.{ℕ, suc, zero, ◌≤◌, length, Option, Some, None, ◌≡◌}
use Rattle.entries.specs.Answer.{max_text}
use Rattle.meaning.proofs.Keeps.{Keeps}
use Rattle.meaning.proofs.SideBySide.{nothing}
use Rattle.meaning.proofs.Sorting.{canon}
use Rattle.meaning.specs.Meaning.{Pairs, Tree, tree}
use Rattle.members.specs.Links.{link_of}
use Rattle.members.specs.Names.{Named, name_of}
use Rattle.text.specs.Bytes.{Bytes}
use Rattle.text.specs.Node.{Node}
use Rattle.text.specs.Table.{Words}
use Rattle.values.specs.Held.{Held}

-- The value of record `r`, which stands inside `d` open containers, has the sorted tree `v`.
pub data Stands (t : Bytes) (w : Words) (r d : ℕ) (v : Tree) : Type 0 where
  stands : {n : Node} → length t ≤ max_text → Held t w r n → Keeps d (tree n) → canon (tree n) ≡ v → Stands t w r d v

-- What a patch is merged with: the value of a record, or nothing.
abbrev pub Old : Bytes → Words → ℕ → Option ℕ → Tree → Type 0
Old t w d (Some r) v = Stands t w r d v
Old t w d None v = v ≡ nothing

-- The chain of `n` records from `h` on has these members.
pub data Chained (t : Bytes) (w : Words) (d : ℕ) : ℕ → ℕ → Pairs → Type 0 where
  none : {h : ℕ} → Chained t w d zero h Pairs.empty
  more : {n h : ℕ} {v : Tree} {ps : Pairs} → Named t w h → Stands t w h d v → Chained t w d n (link_of w h) ps
      → Chained t w d (suc n) h (Pairs.pair (name_of t w h) v ps)
