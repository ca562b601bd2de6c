-- One step of a look-up, from a value to one right inside it.
use Rattle.std.specs.Prelude.{ℕ, Option, Some, None}
use Rattle.meaning.specs.Lookup.{Seen}
use Rattle.text.specs.Bytes.{Bytes}
use Rattle.text.specs.Node.{Node}
use Rattle.text.specs.Table.{Words}
use Rattle.values.specs.Held.{Held}

-- The record of what is found, or nothing where it is lost at `p`.
pub data Stepped (t : Bytes) (w : Words) (p : ℕ) : Option ℕ → Seen → Type 0 where
  found : {r : ℕ} {v : Node} → Held t w r v → Stepped t w p (Some r) (Seen.found r v)
  lost : Stepped t w p None (Seen.lost p)
