-- From the answers of the entries, with the programs' tables, to their lines.
use Prim.Native.Nat.{◌*◌, ◌+◌, ◌<◌, ◌≤◌, ℕ}
use Rattle.console.proofs.Rooms.{at_front}
use Rattle.console.specs.Programs.{Apply, Canon, Judged, feed, longest, refused_at, refused_in}
use Rattle.entries.proofs.Readings.{ready_text, stop_number}
use Rattle.entries.specs.Answer.{Answer, Read, Reading, Writing, over, success}
use Rattle.entries.specs.Entries.{Merger, Reader, Writer}
use Rattle.console.specs.Counts.{IsPrefixLen}
use Rattle.meaning.proofs.Demand2.{merge_six_times, six_times}
use Rattle.spell.proofs.Putting.{put_byte, put_length}
use Rattle.spell.specs.Puts.{Puts}
use Rattle.text.specs.Bytes.{Bytes}
use Rattle.text.specs.Node.{Node}
use Rattle.text.specs.Table.{Words, record_words}
use Rattle.text.specs.Verdict.{Outcome, Verdict}
use lib.ListN.{length, length-replicate, replicate, set, take}
use mathlib.Core.List.{◌++◌}
use mathlib.Core.Path.{◌≡◌, refl}
use native.Mathlib.Omega.{arith}

-- A table at entry.
abbrev zeros : Words
zeros = replicate (record_words * longest) 0

-- A text that is short enough is judged as it is read, since the table is long enough for it.
module _ {k : ℕ} {t : Bytes} (l : length t ≤ longest) where
  reading_refused : {n i p c : ℕ} {w : Words} → Reading k t zeros (Read.stop (Answer.answer n i p c) w) → (i ≡ k) × Judged t (Outcome.refused n p)
  reading_refused (Reading.long h) = absurd (omega arith)
  reading_refused (Reading.narrow h g) = absurd (omega (arith, length-replicate {A = ℕ} (record_words * longest) 0))
  reading_refused (Reading.refused h g v) = (refl, Judged.short l v)

  reading_accepted : {v : Node} {w w' : Words} → Reading k t w (Read.ready v w') → Judged t (Outcome.accepted v)
  reading_accepted r = Judged.short l (Verdict.text (ready_text r))

-- What an entry that writes leaves to do: its refusal is to be said, or its text stands at the front of the output, with
-- room for a line feed behind it.
pub data Due (Line : Bytes → Type 0) (says : ℕ → ℕ → ℕ → Bytes) (o : Bytes) : Answer → Bytes → Type 0 where
  refused : {n i p c : ℕ} → 0 < n → Line (says n i p) → Due Line says o (Answer.answer n i p c) o
  written : (c : Bytes) → length c < length o → Line (c ++ feed) → Due Line says o (success (length c)) (over c o)

writing_due : {Line : Bytes → Type 0} {says : ℕ → ℕ → ℕ → Bytes} {c o o' : Bytes} {a : Answer}
    → length c ≤ 12 * longest → length c < length o → Line (c ++ feed) → Writing c o a o' → Due Line says o a o'
writing_due l m x (Writing.long h) = absurd (omega arith)
writing_due l m x (Writing.narrow h g) = absurd (omega arith)
writing_due {c = c} l m x (Writing.written h g) = Due.written c m x

pub writer_due : {t o o' : Bytes} {w : Words} {a : Answer} → length t ≤ longest → 6 * longest < length o → Writer t zeros o a w o'
    → Due (Canon t) (λ n i p. refused_at n p) o a o'
writer_due l h (Writer.stop {a = Answer.answer n i p c} r) = Due.refused (stop_number r) (Canon.refused (reading_refused l r).1)
writer_due l h (Writer.done r x y) =
    let b = six_times (ready_text r) x in writing_due (omega arith) (omega arith) (Canon.written (reading_accepted l r) x) y

pub merger_due : {t p o o' : Bytes} {w x : Words} {a : Answer} → length t ≤ longest → length p ≤ longest → 12 * longest < length o
    → Merger t zeros p zeros o a w x o' → Due (Apply t p) refused_in o a o'
merger_due l m h (Merger.stop {a = Answer.answer n i q c} r) =
    let (e, j) = reading_refused l r in Due.refused {i = i} {p = q} (stop_number r) (rw e (Apply.refused j))
merger_due l m h (Merger.stop_patch {a = Answer.answer n i q c} r s) =
    let (e, j) = reading_refused m s in Due.refused {i = i} {p = q} (stop_number s) (rw e (Apply.refused_patch (reading_accepted l r) j))
merger_due l m h (Merger.done r s x y) =
    let b = merge_six_times (ready_text r) (ready_text s) x in
    writing_due (omega arith) (omega arith) (Apply.written (reading_accepted l r) (reading_accepted m s) x) y

-- The target alone, where the patch is too long.
pub target_refused : {t p : Bytes} {n i q c : ℕ} {w : Words} → length t ≤ longest
    → Reader t zeros (Answer.answer n i q c) w → (n ≡ 0 → ⊥) → Apply t p (refused_in n i q)
target_refused l (Reader.stop r) z = let (e, j) = reading_refused l r in rw e (Apply.refused j)
target_refused l (Reader.done r) z = absurd (z refl)

pub patch_long : {t p : Bytes} {n i q c : ℕ} {w : Words} → length t ≤ longest → longest < length p
    → Reader t zeros (Answer.answer n i q c) w → n ≡ 0 → Apply t p (refused_in 1 2 0)
patch_long l h (Reader.stop r) e = absurd (omega (arith, stop_number r))
patch_long l h (Reader.done r) e = Apply.refused_patch (reading_accepted l r) (Judged.long h)

-- A refusal's line, and a line feed behind a text.
pub due_refused : {Line : Bytes → Type 0} {says : ℕ → ℕ → ℕ → Bytes} {o o' : Bytes} {n i p c : ℕ}
    → Due Line says o (Answer.answer n i p c) o' → (n ≡ 0 → ⊥) → Line (says n i p)
due_refused (Due.refused h x) z = x
due_refused (Due.written c h x) z = absurd (z refl)

pub due_fed : {Line : Bytes → Type 0} {says : ℕ → ℕ → ℕ → Bytes} {o o' : Bytes} {n i p c : ℕ} → Due Line says o (Answer.answer n i p c) o' → n ≡ 0
    → (c < length o') × (Line (take (c + 1) (set o' c 0x0a)) × IsPrefixLen (c + 1) (set o' c 0x0a))
due_fed (Due.refused h x) e = absurd (omega arith)
due_fed {Line = Line} {o = o} (Due.written c h x) e =
    let p : Puts c o (length c) (over c o) = record { count = refl; now = refl } in
    (omega (arith, put_length p (omega arith)), at_front Line (put_byte p (omega arith) 0x0a h) x)
