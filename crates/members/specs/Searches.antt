-- What the parts of the search for a repeated name find, said of records.
use Rattle.std.specs.Prelude.{ℕ, eqb, min, Bool, cond, false, true, List, Option, Some, ◌≡◌}
use Rattle.std.specs.Option.{option_map_or}
use Rattle.members.specs.Lists.{In}
use Rattle.names.specs.Order.{order}
use Rattle.text.specs.Bytes.{Units}

-- One of `l` has the name of `r`, or none has.
abbrev pub Seen : (ℕ → Units) → List ℕ → ℕ → Bool → Type 0
Seen name l r true = (x : ℕ) × In x l × (name x ≡ name r)
Seen name l r false = (x : ℕ) → In x l → name x ≡ name r → ⊥

-- The lesser of `best` and `q` where `p` and `q` have the same name, else `best`.
abbrev pub better : (ℕ → Units) → Option ℕ → ℕ → ℕ → Option ℕ
better name best p q = cond (eqb (order (name p) (name q)) 1) (Some (option_map_or (λ b. min b q) best q)) best
