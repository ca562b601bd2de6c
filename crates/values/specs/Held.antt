-- How the values of a text stand in its table, while members of some objects may be linked.
use Prim.Native.Char.{code}
use Rattle.std.specs.Prelude.{ℕ, suc, ◌%◌, ◌*◌, ◌+◌, ◌<◌, ◌≤◌, get_or, length, List, [], ◌∷◌, ◌≡◌}
use Rattle.members.specs.Links.{low_part}
use Rattle.members.specs.Names.{name_at}
use Rattle.members.specs.Records.{max_records, word}
use Rattle.spell.specs.Scalars.{Scalar}
use Rattle.meaning.specs.Meaning.{Tree}
use Rattle.text.proofs.Offsets.{end, start}
use Rattle.text.specs.Bytes.{Bytes, Units}
use Rattle.text.specs.Decimal.{Decimal}
use Rattle.text.specs.Node.{Literal, Members, Node, Nodes}
use Rattle.text.specs.Table.{Words, record_words, size, unnamed}
use Rattle.values.specs.Children.{Child, elements, members}

-- Record `k` says that its value goes from `p` up to `q` of the text, links apart, and that the next one is `n`.
pub record Recorded (w : Words) (k p q n : ℕ) : Type 0 where
  pub first : word w k 0 % low_part ≡ p
  pub last : word w k 1 % low_part ≡ q
  pub next : word w k 3 ≡ n
  pub onward : k < n
  pub long : record_words * n ≤ length w
  pub few : n ≤ max_records

-- Record `k` has no link.
abbrev pub Unlinked : Words → ℕ → Type 0
Unlinked w k = (word w k 0 < low_part) × (word w k 1 < low_part)

-- The names of an object, from the offset `b` on, stand in the text in their order.
pub data Spelt (t : Bytes) : ℕ → Members → Type 0 where
  none : {b : ℕ} → Spelt t b Members.empty
  more : {b q : ℕ} {us : Units} {v : Node} {ms : Members} → b ≤ q → q < length t → q < unnamed → name_at t q ≡ us → Spelt t (suc q) ms → Spelt t b (Members.member q us v ms)

mutual
  -- `v` is the value of record `k`.
  pub data Held (t : Bytes) (w : Words) : ℕ → Node → Type 0 where
    held : {k : ℕ} {v : Node} → Recorded w k (start v) (end v) (k + size v) → start v < length t → Holds t w k v → Held t w k v

  -- What stands between its offsets, and in the records behind `k`, which have no links.
  pub data Holds (t : Bytes) (w : Words) : ℕ → Node → Type 0 where
    literal : {k p q : ℕ} {l : Literal} → Scalar t p q (Tree.literal l) → Holds t w k (Node.literal p q l)
    string : {k p q : ℕ} {us : Units} → Scalar t p q (Tree.string us) → Holds t w k (Node.string p q us)
    number : {k p q : ℕ} {x : Decimal} → Scalar t p q (Tree.number x) → Holds t w k (Node.number p q x)
    array : {k p q : ℕ} {vs : Nodes} → get_or t p 0 ≡ code "[" → HeldAll t w (suc k) (elements vs) → Holds t w k (Node.array p q vs)
    object : {k p q : ℕ} {ms : Members} → get_or t p 0 ≡ code "{" → Spelt t 0 ms → HeldAll t w (suc k) (members ms) → Holds t w k (Node.object p q ms)

  -- The values inside a container have the records from `k` on.
  pub data HeldAll (t : Bytes) (w : Words) : ℕ → List Child → Type 0 where
    none : {k : ℕ} → HeldAll t w k []
    more : {k q : ℕ} {v : Node} {cs : List Child} → Held t w k v → Unlinked w k → word w k 2 ≡ q → HeldAll t w (k + size v) cs → HeldAll t w k (Child.child q v ∷ cs)
