-- What a row gives: its siblings may be linked, sorted and read.
use Prim.Native.Nat.{◌≤◌, ℕ}
use Rattle.members.proofs.Lineage.{siblings_append, siblings_between, siblings_end, siblings_few, siblings_near, siblings_rising, siblings_unique}
use Rattle.members.proofs.Membership.{in_left}
use Rattle.members.proofs.Walks.{walk_length}
use Rattle.members.specs.Chains.{Free, Seats, siblings_of}
use Rattle.members.specs.Lists.{In}
use Rattle.members.specs.Records.{Room, max_records, next_of}
use Rattle.members.specs.Rows.{Row}
use Rattle.members.specs.Siblings.{Siblings}
use Rattle.text.specs.Bytes.{Bytes}
use Rattle.text.specs.Table.{Words}
use mathlib.Core.List.{List}
use native.Mathlib.Omega.{arith}

module _ {t : Bytes} {w : Words} {first end : ℕ} (row : Row t w first end) where
  module _ {l : List ℕ} (s : Siblings w end first l) where
    pub row_in : {v : ℕ} → In v l → In v row.members
    row_in i = rw (siblings_unique s row.siblings) at i

    pub row_seats : Seats t w l
    row_seats v i =
        let b = siblings_between s i in
        (omega (arith, b.1, row.few), (omega (arith, b.1, row.long), row.inside v (row_in i)))

    pub row_free : Free t w l
    row_free = record { rising = siblings_rising s; seats = row_seats }

    pub row_near : (v : ℕ) → In v l → Room w v × (next_of w v ≤ max_records)
    row_near v i = ((row_seats v i).1.0, omega (arith, siblings_near s i, row.few))

  pub row_count : (n : ℕ) → Siblings w end first (siblings_of w n first) → n ≤ max_records
  row_count n s = omega (arith, siblings_few s, walk_length (next_of w) n first, row.few)

  -- The siblings before one of them are a row too.
  pub row_front : {r : ℕ} {a b : List ℕ} → Siblings w r first a → Siblings w end r b → Row t w first r
  row_front {a = a} {b} p q =
      let k : (v : ℕ) → In v a → In v row.members = λ v i. row_in (siblings_append p q) (in_left b i) in
      record {
        few = omega (arith, siblings_end q, row.few);
        long = omega (arith, siblings_end q, row.long);
        members = a;
        siblings = p;
        low = λ v i. row.low v (k v i);
        inside = λ v i. row.inside v (k v i);
        rising = λ x y i j. row.rising x y (k x i) (k y j);
      }
