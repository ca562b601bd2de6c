-- The two sides of a merge.
use Rattle.std.specs.Prelude.{◌≡◌}
use Rattle.patch.specs.declared.side.Side.{Side}
use Rattle.patch.specs.declared.view.View.{View}
use Rattle.text.specs.Bytes.{Bytes}
use Rattle.text.specs.Table.{Words}

-- What is said of a text and the words of its table, said of a side, and of target and patch.
abbrev pub on_side {ℓ} : {A : Type ℓ} → (Bytes → Words → A) → Side → A
on_side f s = f s.text.now s.table.now

abbrev pub on_sides {ℓ} : {A : Type ℓ} → (Bytes → Bytes → Words → Words → A) → Side → Side → A
on_sides f t p = f t.text.now p.text.now t.table.now p.table.now

-- The same of a view.
abbrev pub on_view {ℓ} : {A : Type ℓ} → (Bytes → Words → A) → View → A
on_view f s = f s.text.now s.table.now

-- This is a view of that side.
abbrev pub Seen : Side → View → Type 0
Seen s v = (v.text.now ≡ s.text.now) × (v.table.now ≡ s.table.now)

-- A side with other words in its table.
abbrev pub with_words : Side → Words → Side
with_words s w = record s { table = record s.table { now = w } }
