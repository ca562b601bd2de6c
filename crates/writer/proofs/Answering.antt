-- What the writer answers, in the terms of the entries.
use Prim.Native.Nat.{◌*◌, ◌≤◌, ℕ}
use Rattle.entries.proofs.Readings.{ready_text}
use Rattle.entries.specs.Answer.{Read, Reading, Writing, max_text}
use Rattle.entries.specs.Entries.{Writer}
use Rattle.meaning.proofs.Demand2.{canonical_of, six_times}
use Rattle.meaning.proofs.Reading.{text_keeps}
use Rattle.meaning.specs.Canonical.{Canonical}
use Rattle.meaning.specs.Meaning.{meaning}
use Rattle.reader.specs.Answers.{ReadAs, told}
use Rattle.reader.specs.declared.answer.Input.{Input}
use Rattle.reader.specs.declared.answer.Refused.{Refused}
use Rattle.std.specs.Prelude.{Ok, Result}
use Rattle.text.specs.Bytes.{Bytes}
use Rattle.text.specs.Node.{Node}
use Rattle.text.specs.Table.{Words}
use Rattle.values.proofs.Holding.{reading_held}
use Rattle.writer.specs.Writes.{Writes, text_of}
use lib.ListN.{length}
use mathlib.Core.Path.{◌≡◌, refl, subst⁻¹}

-- A text that was read, and its canonical text.
pub record Accepted (t : Bytes) (w w' : Words) : Type 0 where
  pub value : Node
  pub reading : Reading 1 t w (Read.ready value w')
  pub canonical : Canonical (meaning value) (text_of value)
  pub writes : Writes t w' 0 0 (text_of value)
  pub short : length t ≤ max_text
  pub small : length (text_of value) ≤ 6 * length t

-- What was read is no longer than the ceiling.
pub read_short : {k : ℕ} {t : Bytes} {w : Words} {v : Node} {w' : Words} → Reading k t w (Read.ready v w') → length t ≤ max_text
read_short (Reading.accepted l m x) = l

taken : {t : Bytes} {w w' : Words} (v : Node) → Reading 1 t w (Read.ready v w') → Accepted t w w'
taken v r =
    let x = ready_text r in
    let k = text_keeps x in
    let c = canonical_of k in
    record { value = v; reading = r; canonical = c; writes = Writes.writes (reading_held r) k refl; short = read_short r; small = six_times x c }

pub accepted : {t : Bytes} {w w' : Words} {n : ℕ} → ReadAs Input.First t w w' (Ok n) → Accepted t w w'
accepted (v, e, r) = taken v r

module _ {t : Bytes} {w w' : Words} (p : Accepted t w w') where
  pub write_asks : (length t ≤ max_text) × ((c : Bytes) × Writes t w' 0 0 c × (length c ≤ 6 * length t))
  write_asks = (p.short, (_, p.writes, p.small))

  pub wrote : {o o' : Bytes} (r : Result ℕ Refused) {w'' : Words} → ((c : Bytes) → Writes t w' 0 0 c → Writing c o (told r) o') → w'' ≡ w' → Writer t w o (told r) w'' o'
  wrote {o} {o'} r f g = subst⁻¹ (λ w'. Writer t w o (told r) w' o') g (Writer.done p.reading p.canonical (f _ p.writes))
