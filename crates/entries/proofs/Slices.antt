-- Every lent slice keeps its length, and the part that a look-up answers lies inside the text: so the promises can be
-- kept at all.
use Prim.Native.Nat.{◌*◌, ◌<◌, ◌≤◌, suc, ℕ}
use Rattle.entries.proofs.Readings.{stop_number}
use Rattle.entries.specs.Answer.{Answer, Read, Reading, Writing, over}
use Rattle.entries.specs.Entries.{Finder, Merger, PartFinder, Reader, Writer}
use Rattle.meaning.proofs.Lookups.{found_inside, found_number, found_span}
use Rattle.meaning.specs.Lookup.{Seen, resolve}
use Rattle.meaning.specs.Pointer.{Pointer, Token}
use Rattle.text.proofs.Offsets.{end, inside_span, start, text_inside, text_size}
use Rattle.text.proofs.Records.{table_length}
use Rattle.text.specs.Bytes.{Bytes}
use Rattle.text.specs.Node.{Node}
use Rattle.text.specs.Table.{Words, record_words, table}
use lib.ListN.{get_or-append, drop, get_or, length, length-append, length-drop, length-replicate, replicate}
use mathlib.Core.List.{List}
use mathlib.Core.Path.{◌∙◌, ◌≡◌, refl, sym}
use native.Mathlib.Omega.{arith}

pub over_length : (new old : List ℕ) → length new ≤ length old → length (over new old) ≡ length old
over_length new old h = omega (arith, length-append new (drop (length new) old), length-drop (length new) old)

-- The table at exit.
abbrev pub table_of : Read → Words
table_of (Read.ready v w) = w
table_of (Read.stop a w) = w

pub reading_length : {k : ℕ} {t : Bytes} {w : Words} {r : Read} → Reading k t w r → length (table_of r) ≡ length w
reading_length (Reading.long h) = refl
reading_length (Reading.narrow l m) = refl
reading_length {t = t} {w = w} (Reading.refused l m v) =
    over_length (replicate (record_words * length t) 0) w (omega (arith, length-replicate {A = ℕ} (record_words * length t) 0))
reading_length {t = t} {w = w} (Reading.accepted {v = v} l m x) = over_length (table v) w (omega (arith, table_length v, text_size x))

pub writing_length : {c o o' : Bytes} {a : Answer} → Writing c o a o' → length o' ≡ length o
writing_length (Writing.long h) = refl
writing_length (Writing.narrow l m) = refl
writing_length {c} {o} (Writing.written l m) = over_length c o m

-- Each slice that an entry may change.
pub reader_length : {t : Bytes} {w w' : Words} {a : Answer} → Reader t w a w' → length w' ≡ length w
reader_length (Reader.stop r) = reading_length r
reader_length (Reader.done r) = reading_length r

pub writer_length : {t o o' : Bytes} {w w' : Words} {a : Answer} → Writer t w o a w' o' → (length w' ≡ length w) × (length o' ≡ length o)
writer_length (Writer.stop r) = (reading_length r, refl)
writer_length (Writer.done r x y) = (reading_length r, writing_length y)

pub finder_length : {t p : Bytes} {w w' : Words} {a : Answer} → Finder t w p a w' → length w' ≡ length w
finder_length (Finder.stop r) = reading_length r
finder_length (Finder.malformed r x) = reading_length r
finder_length (Finder.lost r x e) = reading_length r
finder_length (Finder.found r x e) = reading_length r

pub part_finder_length : {t p : Bytes} {w w' : Words} {a e : ℕ} → PartFinder t w p a e w' → length w' ≡ length w
part_finder_length (PartFinder.none h x) = finder_length x
part_finder_length (PartFinder.part x) = finder_length x

pub merger_length : {t p o o' : Bytes} {w x w' x' : Words} {a : Answer} → Merger t w p x o a w' x' o'
    → (length w' ≡ length w) × (length x' ≡ length x) × (length o' ≡ length o)
merger_length (Merger.stop r) = (reading_length r, refl, refl)
merger_length (Merger.stop_patch r s) = (reading_length r, reading_length s, refl)
merger_length (Merger.done r s x y) = (reading_length r, reading_length s, writing_length y)

-- The words that a part is taken from are the two offsets of the found value, which has a byte and lies inside the text.
found_part : {t : Bytes} {w : Words} {v : Node} {w' : Words} {u : Node} {n : ℕ} (ts : List Token) → Reading 1 t w (Read.ready v w') → resolve ts 0 v ≡ Seen.found n u
    → (get_or w' (record_words * n) 0 ≡ start u) × (get_or w' (suc (record_words * n)) 0 ≡ end u) × (start u < end u) × (end u ≤ length t)
found_part {t} {w} {u = u} {n = n} ts (Reading.accepted {v = v} l m x) e =
    let rest : Words = drop (length (table v)) w in
    let h : suc (record_words * n) < length (table v) = omega (arith, found_number ts v e, table_length v) in
    let (a, b) = found_span ts v e in
    let (c, d) = inside_span u (found_inside (length t) ts v (text_inside x) e) in
    (get_or-append (table v) rest 0 (record_words * n) (omega arith) ∙ a, get_or-append (table v) rest 0 (suc (record_words * n)) h ∙ b, c, d)

pub part_inside : {t p : Bytes} {w w' : Words} {a e : ℕ} → PartFinder t w p a e w' → (a ≤ e) × (e ≤ length t)
part_inside (PartFinder.none h x) = omega arith
part_inside (PartFinder.part (Finder.stop r)) = absurd (omega (arith, stop_number r))
part_inside (PartFinder.part (Finder.found {ts = ts} r x e)) = omega (arith, found_part ts r e)

-- A part that is found is the found value's own bytes, and never empty.
pub part_some : {t p : Bytes} {w w' : Words} {v u : Node} {ts : List Token} {n : ℕ}
    → Reading 1 t w (Read.ready v w') → Pointer p ts → resolve ts 0 v ≡ Seen.found n u → PartFinder t w p (start u) (end u) w' × (start u < end u)
part_some {ts = ts} r x e =
    let (a, b, c, _) = found_part ts r e in (rw (sym a, sym b) (PartFinder.part (Finder.found r x e)), c)
