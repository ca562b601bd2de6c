-- The names of members, and their order. 01 "What a text means".
use Rattle.std.specs.Prelude.{◌+◌, ◌<◌, ℕ, eqb, ltb, drop, length, Bool, cond, false, true, ◌≡◌}
use Rattle.members.specs.Records.{Room, word}
use Rattle.names.specs.Order.{order}
use Rattle.names.specs.Units.{units}
use Rattle.text.specs.Bytes.{Bytes, Units}
use Rattle.text.specs.Table.{Words}

-- The units of the name whose opening quote stands at `q`.
abbrev pub name_at : Bytes → ℕ → Units
name_at t q = units (drop (q + 1) t)

-- The units of the name of record `r`.
unfoldable pub name_of : Bytes → Words → ℕ → Units
name_of t w r = name_at t (word w r 2)

-- The name of record `r` stands in the text.
abbrev pub Named : Bytes → Words → ℕ → Type 0
Named t w r = Room w r × (word w r 2 < length t)

-- Whether the name of record `a` comes before that of `b`.
unfoldable pub ahead : (ℕ → Units) → ℕ → ℕ → Bool
ahead name a b = eqb (order (name a) (name b)) 0

-- Whether record `a` comes before `b`: by name, and among equal names by number.
unfoldable pub before : (ℕ → Units) → ℕ → ℕ → Bool
unfolding ahead
before name a b = cond (ahead name a b) true (cond (eqb (order (name a) (name b)) 1) (ltb a b) false)

-- The order of the members of a table.
abbrev pub in_order : Bytes → Words → ℕ → ℕ → Bool
in_order t w = before (name_of t w)

-- Characters from `i` on and from `j` on differ if those behind the first of each do.
abbrev pub Onward : Bytes → ℕ → ℕ → Type 0
Onward t i j = (units (drop (i + 1) t) ≡ units (drop (j + 1) t) → ⊥) → units (drop i t) ≡ units (drop j t) → ⊥
