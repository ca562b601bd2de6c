-- Looking for a name among the siblings before a record.
use Prim.Native.Nat.{◌<◌, ℕ}
use Rattle.members.proofs.Ordering.{same_no, same_yes}
use Rattle.members.proofs.Walking.{all_in, at_in}
use Rattle.members.specs.Searches.{Seen}
use Rattle.names.specs.Order.{order}
use Rattle.std.proofs.lemmas.List.{get_or_default}
use Rattle.std.specs.Bool.{MatchBool}
use Rattle.std.specs.List.{AllWithin, HoldsAt}
use Rattle.text.specs.Bytes.{Units}
use lib.Dec.{eqb}
use lib.ListN.{get_or, length}
use mathlib.Core.Bool.{Bool, false, true}
use mathlib.Core.List.{List}
use mathlib.Core.Path.{◌≡◌, refl}

-- What a test of a record by its name answers.
abbrev pub Tells : (ℕ → Units) → ℕ → Bool → ℕ → Type 0
Tells name r z x = z ≡ eqb (order (name x) (name r)) 1

pub seen_by : (name : ℕ → Units) (l : List ℕ) (r : ℕ) (z : Bool) → MatchBool z ((k : ℕ) × (k < length l) × HoldsAt (Tells name r true) l k) (AllWithin (Tells name r false) l 0 (length l))
    → Seen name l r z
seen_by name l r true (k, h, e) =
    let x = get_or l k 0 in (x, at_in l k x h (get_or_default l k 0 x h), same_yes (name x) (name r) true (e 0) refl)
seen_by name l r false e = λ x i. same_no (name x) (name r) false (all_in (Tells name r false) l e x i) refl
