-- A walk along siblings.
use Rattle.std.specs.Prelude.{◌*◌, ◌<◌, ◌≤◌, ℕ, length, List, None, Option, Some, ◌≡◌}
use Rattle.members.specs.Records.{next_of}
use Rattle.members.specs.Siblings.{Siblings}
use Rattle.members.specs.declared.walk.Walk.{Walk}
use Rattle.text.specs.Table.{record_words}

-- The walk may go on: what is left are siblings, and the table has them.
pub record Goes (s : Walk) : Type 0 where
  pub long : record_words * s.end ≤ length s.table.now
  pub members : List ℕ
  pub siblings : Siblings s.table.now s.end s.at members

-- A step from `s` gives the record that it stands at and goes to the next.
abbrev pub Gives : Walk → Option ℕ → Walk → Type 0
Gives s None t = (s.end ≤ s.at) × (t ≡ s)
Gives s (Some r) t = (r ≡ s.at) × (r < s.end) × (t ≡ record s { at = next_of s.table.now r })
