-- The canonical text of a value of the table, and of an entry of a container.
use Prim.Native.Char.{code}
use Rattle.std.specs.Prelude.{ℕ, ◌<◌, eqb, length, true, false, [], ◌∷◌, ◌++◌, ◌≡◌}
use Rattle.meaning.proofs.Keeps.{Keeps}
use Rattle.meaning.proofs.Sorting.{canon}
use Rattle.meaning.specs.Canonical.{put}
use Rattle.meaning.specs.Meaning.{tree}
use Rattle.members.specs.Names.{name_at}
use Rattle.members.specs.Records.{word}
use Rattle.spell.specs.Scalars.{quoted}
use Rattle.text.specs.Bytes.{Bytes}
use Rattle.text.specs.Node.{Node}
use Rattle.text.specs.Table.{Words, unnamed}
use Rattle.values.specs.Held.{Held}

-- The canonical text of a value.
abbrev pub text_of : Node → Bytes
text_of v = put (canon (tree v)) []

-- `c` is the canonical text of the value of record `r`, which stands inside `d` open containers.
pub data Writes (t : Bytes) (w : Words) (r d : ℕ) (c : Bytes) : Type 0 where
  writes : {v : Node} → Held t w r v → Keeps d (tree v) → text_of v ≡ c → Writes t w r d c

-- The text of a name whose opening quote stands at `q`, with its colon; nothing where there is no name.
unfoldable pub named : Bytes → ℕ → Bytes
named t q = elim (eqb q unnamed) [ true ↦ [] | false ↦ quoted (name_at t q) ++ (code ":" ∷ []) ]

-- A name stands in the text, where there is one.
abbrev pub Nameable : Bytes → ℕ → Type 0
Nameable t q = (q ≡ unnamed → ⊥) → q < length t

-- `e` is the text of record `r` as an entry of a container, with its name.
pub data Entry (t : Bytes) (w : Words) (r d : ℕ) (e : Bytes) : Type 0 where
  entry : {c : Bytes} → Nameable t (word w r 2) → Writes t w r d c → named t (word w r 2) ++ c ≡ e → Entry t w r d e
