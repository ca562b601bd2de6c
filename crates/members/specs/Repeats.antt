-- The first name of an object that another member has before. 01 "The answer and its numbers", 8.
use Rattle.std.specs.Prelude.{◌<◌, ◌≤◌, ℕ, List, None, Option, Some, ◌≡◌}
use Rattle.members.specs.Lists.{In}
use Rattle.members.specs.Names.{name_at}
use Rattle.text.specs.Bytes.{Bytes, Units}

-- No two of `l` have the same name.
abbrev pub Distinct : (ℕ → Units) → List ℕ → Type 0
Distinct name l = (x y : ℕ) → In x l → In y l → x < y → name x ≡ name y → ⊥

-- `z` is the least of `l` whose name is that of a lesser one.
pub record Repeated (name : ℕ → Units) (l : List ℕ) (z : ℕ) : Type 0 where
  pub least : (x y : ℕ) → In x l → In y l → x < y → name x ≡ name y → z ≤ y
  pub real : In z l × ((x : ℕ) × In x l × (x < z) × (name x ≡ name z))

-- The least of `l` whose name is that of a lesser one, or none where there is none.
abbrev pub Earliest : (ℕ → Units) → List ℕ → Option ℕ → Type 0
Earliest name l None = Distinct name l
Earliest name l (Some z) = Repeated name l z

-- The same of the names whose opening quotes stand at `l`.
abbrev pub FirstRepeat : Bytes → List ℕ → Option ℕ → Type 0
FirstRepeat t l q = Earliest (name_at t) l q
