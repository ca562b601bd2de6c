-- The first repeat, found by looking at one sibling after the other.
use Prim.Native.Nat.{◌<◌, ◌≤◌, ℕ}
use Rattle.members.proofs.Lineage.{siblings_between}
use Rattle.members.proofs.Membership.{in_cases, in_equal, in_none}
use Rattle.members.proofs.RowLaws.{row_front, row_seats}
use Rattle.members.proofs.Walking.{all_before, all_in, at_in}
use Rattle.members.specs.Lists.{In}
use Rattle.members.specs.Names.{Named}
use Rattle.members.specs.Repeats.{Earliest}
use Rattle.members.specs.Rows.{Row}
use Rattle.members.specs.Searches.{Seen}
use Rattle.members.specs.Siblings.{Siblings}
use Rattle.std.specs.List.{AllWithin, HoldsAt}
use Rattle.std.specs.Prelude.{MatchOption, None, Option, Some}
use Rattle.text.specs.Bytes.{Bytes, Units}
use Rattle.text.specs.Table.{Words}
use borrow.Author.Tests.{ltb-false, ltb-true}
use lib.Dec.{ltb}
use lib.ListN.{length}
use mathlib.Core.Bool.{Bool, false, true}
use mathlib.Core.List.{List, [], ◌∷◌}
use mathlib.Core.Logic.{⊎_elim}
use mathlib.Core.Path.{◌≡◌, refl, sym}
use native.Mathlib.Omega.{arith}

-- The siblings before `y`, which is one of `l`.
record Before (w : Words) (end first y : ℕ) (l : List ℕ) : Type 0 where
  pub front : List ℕ
  pub rest : List ℕ
  pub ahead : Siblings w y first front
  pub behind : Siblings w end y rest
  pub only : (x : ℕ) → In x front → In x l
  pub all : (x : ℕ) → In x l → x < y → In x front

before_it : {w : Words} {end first y : ℕ} {l : List ℕ} → Siblings w end first l → In y l → Before w end first y l
before_it (Siblings.more {r} {l} h s) In.here =
    record {
      front = [];
      rest = r ∷ l;
      ahead = Siblings.none;
      behind = Siblings.more h s;
      only = λ x i. absurd (in_none i);
      all = λ x i g. absurd (omega (arith, g, (siblings_between (Siblings.more h s) i).0));
    }
before_it (Siblings.more {r} h s) (In.there i) =
    let b = before_it s i in
    record {
      front = r ∷ b.front;
      rest = b.rest;
      ahead = Siblings.more h b.ahead;
      behind = b.behind;
      only = λ x k. ⊎_elim (λ e. in_equal _ e) (λ m. In.there (b.only x m)) (in_cases k);
      all = λ x k g. ⊎_elim (λ e. in_equal _ e) (λ m. In.there (b.all x m g)) (in_cases k);
    }
before_it Siblings.none i = elim i [ ]

-- What a row gives of each of its siblings.
pub row_before : {t : Bytes} {w : Words} {first end : ℕ} (row : Row t w first end) (r : ℕ) → In r row.members → Row t w first r × Named t w r
row_before row r i =
    let b = before_it row.siblings i in
    (row_front row b.ahead b.behind, (row_seats row row.siblings r i).1)

-- Whether one of the siblings before `r` has its name.
abbrev pub Tells : (ℕ → Units) → Words → ℕ → Bool → ℕ → Type 0
Tells name w first z r = (m : List ℕ) → Siblings w r first m → Seen name m r z

module _ (name : ℕ → Units) (w : Words) (first : ℕ) {end : ℕ} {l : List ℕ} (s : Siblings w end first l) where
  none_before : {y : ℕ} → Tells name w first false y → (x : ℕ) → In x l → In y l → x < y → name x ≡ name y → ⊥
  none_before f x i j h e =
      let b = before_it s j in f b.front b.ahead x (b.all x i h) e

  pub pairs_found : (z : Option ℕ)
      → MatchOption z (AllWithin (Tells name w first false) l 0 (length l)) (λ r. Tells name w first true r × (k : ℕ) × (k < length l) × HoldsAt (λ y. y ≡ r) l k × AllWithin (Tells name w first false) l 0 k)
      → Earliest name l z
  pairs_found None f = λ x y i j. none_before (all_in (Tells name w first false) l f y j) x i j
  pairs_found (Some z) (g, k, h, e, f) =
      let i = at_in l k z h (sym (e z)) in
      let b = before_it s i in
      let y = g b.front b.ahead in
      record {
        least = λ x y i j. later x y i j (ltb y z) refl;
        real = (i, (y.0, b.only y.0 y.1, (siblings_between b.ahead y.1).1, y.2));
      }
    where
      later : (x y : ℕ) → In x l → In y l → (c : Bool) → ltb y z ≡ c → x < y → name x ≡ name y → z ≤ y
      later x y i j true c o n = absurd (none_before (all_before (Tells name w first false) s k z e f y j (ltb-true y z c)) x i j o n)
      later x y i j false c o n = omega (arith, ltb-false y z c)
