-- What the parts of a comparison promise.
use Rattle.std.specs.Prelude.{ℕ, ◌<◌, ◌≤◌, drop, length, [], ◌∷◌, ◌≡◌, Option, Some, None}
use Rattle.names.specs.Order.{order}
use Rattle.names.specs.Units.{units}
use Rattle.names.specs.declared.unit.Unit.{Unit}
use Rattle.text.specs.Bytes.{Bytes, Units}

-- Every code of a unit is below this.
abbrev pub codes : ℕ
codes = 4294967296

-- The first of the units `f` of the bytes from `i` on, and the units behind it, or there are none.
abbrev pub StepAt : (Bytes → Units) → Bytes → ℕ → Option Unit → Type 0
StepAt f t i None = f (drop i t) ≡ []
StepAt f t i (Some u) = (f (drop i t) ≡ u.code ∷ units (drop u.next t)) × (i < u.next) × (u.next ≤ length t) × (u.code < codes)

-- The names in `a` and `b` from `i` on stand in the same order as from `j` on.
abbrev pub Alike : Bytes → Bytes → ℕ → ℕ → Type 0
Alike a b i j = order (units (drop i a)) (units (drop i b)) ≡ order (units (drop j a)) (units (drop j b))
