-- The lengths of tables: each value has a record, of four words.
use Prim.Native.Nat.{◌*◌, ◌+◌, ◌≤◌, suc, ℕ}
use Rattle.text.specs.Node.{Members, Node, Nodes}
use Rattle.text.specs.Table.{record_words, records, records_members, records_all, size, size_all, size_members, table, unnamed}
use lib.ListN.{length, length-append}
use mathlib.Core.Path.{◌≡◌, refl}
use native.Mathlib.Omega.{arith}

mutual
  unfolding records size

  pub records_length : (v : Node) (m k : ℕ) → length (records v m k) ≡ record_words * size v
  records_length (Node.literal p q w) m k = refl
  records_length (Node.string p q us) m k = refl
  records_length (Node.number p q x) m k = refl
  records_length (Node.array p q vs) m k = omega (arith, records_all_length vs (suc k))
  records_length (Node.object p q ms) m k = omega (arith, records_members_length ms (suc k))

  pub records_all_length : (vs : Nodes) (k : ℕ) → length (records_all vs k) ≡ record_words * size_all vs
  records_all_length Nodes.nil k = refl
  records_all_length (Nodes.cons v vs) k =
      omega (arith, length-append (records v unnamed k) (records_all vs (k + size v)), records_length v unnamed k, records_all_length vs (k + size v))

  pub records_members_length : (ms : Members) (k : ℕ) → length (records_members ms k) ≡ record_words * size_members ms
  records_members_length Members.empty k = refl
  records_members_length (Members.member q us v ms) k =
      omega (arith, length-append (records v q k) (records_members ms (k + size v)), records_length v q k, records_members_length ms (k + size v))

-- Every value has a record.
pub size_some : (v : Node) → 1 ≤ size v
unfolding size
size_some (Node.literal p q w) = omega arith
size_some (Node.string p q us) = omega arith
size_some (Node.number p q x) = omega arith
size_some (Node.array p q vs) = omega arith
size_some (Node.object p q ms) = omega arith

-- The table of a text has a record for each value in it.
pub table_length : (v : Node) → length (table v) ≡ record_words * size v
unfolding table
table_length v = records_length v unnamed 0
