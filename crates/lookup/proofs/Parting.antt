-- The part of a value that was found.
use Prim.Native.Nat.{◌*◌, ◌+◌, ◌<◌, ◌≤◌, ℕ}
use Rattle.entries.proofs.Readings.{stop_number}
use Rattle.entries.specs.Answer.{Read, Reading, success}
use Rattle.entries.specs.Entries.{Finder, PartFinder}
use Rattle.reader.specs.Answers.{told}
use Rattle.reader.specs.declared.answer.Refused.{Refused}
use Rattle.meaning.proofs.Lookups.{found_number}
use Rattle.members.specs.Records.{word}
use Rattle.scan.specs.Refusals.{number_of}
use Rattle.scan.specs.declared.refusal.Refusal.{Refusal}
use Rattle.std.proofs.Common.{add-zero}
use Rattle.std.specs.Prelude.{Err}
use Rattle.text.proofs.Records.{table_length}
use Rattle.text.specs.Bytes.{Bytes}
use Rattle.text.specs.Node.{Node}
use Rattle.text.specs.Table.{Words, size, table}
use lib.ListN.{drop, length, length-append}
use mathlib.Core.Path.{◌≡◌}
use native.Mathlib.Numerals.{add-one}
use native.Mathlib.Omega.{arith}

-- No refusal has the number 0.
number_some : (e : Refusal) → 0 < number_of e
number_some e = grind arith

pub part_none : {t p : Bytes} {w w' : Words} (e : Refused) → Finder t w p (told (Err e)) w' → PartFinder t w p 0 0 w'
part_none e f = PartFinder.none (number_some e.refusal) f

-- The table has the record of what is found.
ready_room : {t : Bytes} {w : Words} {v : Node} {w' : Words} {n : ℕ} → Reading 1 t w (Read.ready v w') → n < size v → 4 * n + 4 ≤ length w'
ready_room {w = w} {v = v} (Reading.accepted l m x) h = omega (arith, length-append (table v) (drop (length (table v)) w), table_length v)

module _ {t p : Bytes} {w w' : Words} {n : ℕ} where
  pub part_room : Finder t w p (success n) w' → 4 * n + 4 ≤ length w'
  part_room (Finder.stop r) = absurd (omega (arith, stop_number r))
  part_room (Finder.found {v = v} {ts = ts} r x e) = ready_room r (found_number ts v e)

  pub part_found : {b c : ℕ} → Finder t w p (success n) w' → b ≡ word w' n 0 → c ≡ word w' n 1 → PartFinder t w p b c w'
  part_found f g h = rw (g, h, add-zero, add-one) (PartFinder.part f)
