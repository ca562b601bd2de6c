-- The outcome of each entry as a function: it fits the entry's definition, and no second outcome does.
use Prim.Native.Nat.{◌*◌, ◌+◌, ◌-◌, ◌<◌, suc, zero, ℕ}
use Rattle.entries.proofs.Readings.{reading, reading_only, reading_right, ready_text, writing, writing_only, writing_right}
use Rattle.entries.specs.Answer.{Answer, Read, Reading, refusal, success}
use Rattle.entries.specs.Entries.{Finder, Merger, PartFinder, Reader, Writer}
use Rattle.entries.specs.Parts.{PartOf}
use Rattle.meaning.proofs.Demand2.{canonical_of, canonical_one, merge_keeps}
use Rattle.meaning.proofs.Pointers.{Parsed, PointerCheck, check_malformed, check_pointer_lem, check_pointer, pointer_checked}
use Rattle.meaning.proofs.Reading.{text_keeps}
use Rattle.meaning.proofs.Sorting.{canon}
use Rattle.meaning.specs.Canonical.{put}
use Rattle.meaning.specs.Lookup.{Seen, resolve}
use Rattle.meaning.specs.Meaning.{Tree, tree}
use Rattle.meaning.specs.Merge.{merge}
use Rattle.text.proofs.Demand3.{number_of_refusal}
use Rattle.text.specs.Bytes.{Bytes}
use Rattle.text.specs.Node.{Node}
use Rattle.text.specs.Table.{Words, record_words, size}
use denote.Ref.{Bor}
use lib.ListN.{drop, get_or, take}
use mathlib.Core.List.{[]}
use mathlib.Core.Path.{◌∙◌, ◌≡◌, ap, ap₂, refl, sym}
use native.Mathlib.Omega.{arith}

-- The canonical text of a tree.
abbrev pub text_of : Tree → Bytes
text_of t = put (canon t) []

-- The reader.
unfoldable pub reader_end : Read → Answer × Words
reader_end (Read.stop a w) = (a, w)
reader_end (Read.ready v w) = (success (size v), w)

unfoldable pub reader : Bytes → Words → Answer × Words
unfolding reading reader_end
reader t w = reader_end (reading 1 t w)

abbrev pub ReaderGives : Bytes → Words → Answer × Words → Type 0
ReaderGives t w r = Reader t w r.0 r.1

pub reader_right : (t : Bytes) (w : Words) → ReaderGives t w (reader t w)
unfolding reader reader_end
reader_right t w = by (reading 1 t w) (reading_right 1 t w)
  where
    by : (r : Read) → Reading 1 t w r → ReaderGives t w (reader_end r)
    by (Read.stop a x) r = Reader.stop r
    by (Read.ready v x) r = Reader.done r

pub reader_only : {t : Bytes} {w w' : Words} {a : Answer} → Reader t w a w' → reader t w ≡ (a, w')
unfolding reader reader_end
reader_only (Reader.stop r) = ap reader_end (reading_only r)
reader_only (Reader.done r) = ap reader_end (reading_only r)

pub reader_one : {t : Bytes} {w x y : Words} {a b : Answer} → Reader t w a x → Reader t w b y → (a ≡ b) × (x ≡ y)
reader_one r s = let e = sym (reader_only r) ∙ reader_only s in (ap (λ z. z.0) e, ap (λ z. z.1) e)

-- The writer.
unfoldable pub writer_end : Bytes → Read → Answer × Words × Bytes
unfolding writing
writer_end o (Read.stop a w) = (a, w, o)
writer_end o (Read.ready v w) = ((writing (text_of (tree v)) o).0, w, (writing (text_of (tree v)) o).1)

unfoldable pub writer : Bytes → Words → Bytes → Answer × Words × Bytes
unfolding reading writer_end
writer t w o = writer_end o (reading 1 t w)

abbrev pub WriterGives : Bytes → Words → Bytes → Answer × Words × Bytes → Type 0
WriterGives t w o r = Writer t w o r.0 r.1 r.2

pub writer_right : (t : Bytes) (w : Words) (o : Bytes) → WriterGives t w o (writer t w o)
unfolding writer writer_end
writer_right t w o = by (reading 1 t w) (reading_right 1 t w)
  where
    by : (r : Read) → Reading 1 t w r → WriterGives t w o (writer_end o r)
    by (Read.stop a x) r = Writer.stop r
    by (Read.ready v x) r = Writer.done r (canonical_of (text_keeps (ready_text r))) (writing_right (text_of (tree v)) o)

pub writer_only : {t o o' : Bytes} {w w' : Words} {a : Answer} → Writer t w o a w' o' → writer t w o ≡ (a, w', o')
unfolding writer writer_end
writer_only {o = o} (Writer.stop r) = ap (writer_end o) (reading_only r)
writer_only {o = o} (Writer.done {w' = w'} r x y) =
    ap (writer_end o) (reading_only r)
    ∙ ap (λ z. (z.0, w', z.1)) (ap (λ c. writing c o) (canonical_one (canonical_of (text_keeps (ready_text r))) x) ∙ writing_only y)

pub writer_one : {t o p q : Bytes} {w x y : Words} {a b : Answer} → Writer t w o a x p → Writer t w o b y q → (a ≡ b) × (x ≡ y) × (p ≡ q)
writer_one r s = let e = sym (writer_only r) ∙ writer_only s in (ap (λ z. z.0) e, ap (λ z. z.1) e, ap (λ z. z.2) e)

-- The look-up.
unfoldable pub seen : Seen → Answer
seen (Seen.found n v) = success n
seen (Seen.lost n) = refusal 11 2 n

unfoldable pub looked : Node → Parsed → Answer
unfolding seen
looked v (Parsed.tokens ts) = seen (resolve ts 0 v)
looked v (Parsed.malformed n) = refusal 10 2 n

unfoldable pub finder_end : Parsed → Read → Answer × Words
unfolding looked
finder_end j (Read.stop a w) = (a, w)
finder_end j (Read.ready v w) = (looked v j, w)

unfoldable pub finder : Bytes → Words → Bytes → Answer × Words
unfolding reading check_pointer finder_end
finder t w p = finder_end (check_pointer p) (reading 1 t w)

abbrev pub FinderGives : Bytes → Words → Bytes → Answer × Words → Type 0
FinderGives t w p r = Finder t w p r.0 r.1

finder_ready : {t : Bytes} {w w' : Words} {p : Bytes} {v : Node} {j : Parsed} → Reading 1 t w (Read.ready v w') → PointerCheck p j → Finder t w p (looked v j) w'
unfolding looked seen
finder_ready {t} {w} {w'} {p} {v} r (PointerCheck.pointer {ts = ts} x) = by (resolve ts 0 v) refl
  where
    by : (s : Seen) → resolve ts 0 v ≡ s → Finder t w p (seen s) w'
    by (Seen.found n u) e = Finder.found r x e
    by (Seen.lost n) e = Finder.lost r x e
finder_ready r (PointerCheck.malformed x) = Finder.malformed r x

pub finder_right : (t : Bytes) (w : Words) (p : Bytes) → FinderGives t w p (finder t w p)
unfolding finder finder_end
finder_right t w p = by (reading 1 t w) (reading_right 1 t w)
  where
    by : (r : Read) → Reading 1 t w r → FinderGives t w p (finder_end (check_pointer p) r)
    by (Read.stop a x) r = Finder.stop r
    by (Read.ready v x) r = finder_ready r (pointer_checked p)

pub finder_only : {t p : Bytes} {w w' : Words} {a : Answer} → Finder t w p a w' → finder t w p ≡ (a, w')
unfolding finder finder_end looked seen
finder_only {p = p} (Finder.stop r) = ap (finder_end (check_pointer p)) (reading_only r)
finder_only {p = p} (Finder.malformed {v = v} {w' = w'} r x) = ap (finder_end (check_pointer p)) (reading_only r) ∙ ap (λ j. (looked v j, w')) (check_malformed x)
finder_only {p = p} (Finder.lost {v = v} {w' = w'} r x e) =
    ap (finder_end (check_pointer p)) (reading_only r) ∙ ap (λ j. (looked v j, w')) (check_pointer_lem x) ∙ ap (λ s. (seen s, w')) e
finder_only {p = p} (Finder.found {v = v} {w' = w'} r x e) =
    ap (finder_end (check_pointer p)) (reading_only r) ∙ ap (λ j. (looked v j, w')) (check_pointer_lem x) ∙ ap (λ s. (seen s, w')) e

pub finder_one : {t p : Bytes} {w x y : Words} {a b : Answer} → Finder t w p a x → Finder t w p b y → (a ≡ b) × (x ≡ y)
finder_one r s = let e = sym (finder_only r) ∙ finder_only s in (ap (λ z. z.0) e, ap (λ z. z.1) e)

-- The look-up as a part.
unfoldable pub part : Answer → Words → ℕ × ℕ × Words
part (Answer.answer zero i q n) w = (get_or w (record_words * n) 0, get_or w (suc (record_words * n)) 0, w)
part (Answer.answer (suc k) i q n) w = (0, 0, w)

unfoldable pub part_finder : Bytes → Words → Bytes → ℕ × ℕ × Words
unfolding finder part
part_finder t w p = part (finder t w p).0 (finder t w p).1

abbrev pub PartGives : Bytes → Words → Bytes → ℕ × ℕ × Words → Type 0
PartGives t w p r = PartFinder t w p r.0 r.1 r.2

part_refused : {t p : Bytes} {w w' : Words} (n : ℕ) {i q : ℕ} → 0 < n → Finder t w p (refusal n i q) w' → PartGives t w p (part (refusal n i q) w')
unfolding part
part_refused zero h x = absurd (omega arith)
part_refused (suc n) h x = PartFinder.none h x

part_right : {t p : Bytes} {w w' : Words} {a : Answer} → Finder t w p a w' → PartGives t w p (part a w')
unfolding part
part_right (Finder.stop (Reading.long h)) = PartFinder.none {n = 1} (omega arith) (Finder.stop (Reading.long h))
part_right (Finder.stop (Reading.narrow l m)) = PartFinder.none {n = 2} (omega arith) (Finder.stop (Reading.narrow l m))
part_right (Finder.stop (Reading.refused {n = n} l m v)) = part_refused n (let h : 0 < n = omega (arith, number_of_refusal v) in h) (Finder.stop (Reading.refused l m v))
part_right (Finder.malformed r x) = PartFinder.none {n = 10} (omega arith) (Finder.malformed r x)
part_right (Finder.lost r x e) = PartFinder.none {n = 11} (omega arith) (Finder.lost r x e)
part_right (Finder.found r x e) = PartFinder.part (Finder.found r x e)

pub part_finder_right : (t : Bytes) (w : Words) (p : Bytes) → PartGives t w p (part_finder t w p)
unfolding part_finder
part_finder_right t w p = part_right (finder_right t w p)

part_none : (n i q : ℕ) (w : Words) → 0 < n → part (refusal n i q) w ≡ (0, 0, w)
unfolding part
part_none zero i q w h = absurd (omega arith)
part_none (suc n) i q w h = refl

pub part_finder_only : {t p : Bytes} {w w' : Words} {a e : ℕ} → PartFinder t w p a e w' → part_finder t w p ≡ (a, e, w')
unfolding part_finder part
part_finder_only {w' = w'} (PartFinder.none {n = n} {i = i} {q = q} h x) = ap (λ z. part z.0 z.1) (finder_only x) ∙ part_none n i q w' h
part_finder_only (PartFinder.part x) = ap (λ z. part z.0 z.1) (finder_only x)

pub part_finder_one : {t p : Bytes} {w x y : Words} {a b c d : ℕ} → PartFinder t w p a b x → PartFinder t w p c d y → (a ≡ c) × (b ≡ d) × (x ≡ y)
part_finder_one r s = let e = sym (part_finder_only r) ∙ part_finder_only s in (ap (λ z. z.0) e, ap (λ z. z.1) e, ap (λ z. z.2) e)

-- So two slices that are the part found start at the same place of memory and hold the same bytes.
pub part_one : {t r s : Bor Bytes} {p : Bytes} {w x y : Words} {a b c d : ℕ}
    → PartFinder t.now w p a b x → PartOf t a b r → PartFinder t.now w p c d y → PartOf t c d s → (r.ref_ptr ≡ s.ref_ptr) × (r.now ≡ s.now)
part_one {t} f r g s =
    let (i, j, _) = part_finder_one f g in
    (r.place ∙ ap (λ a. (t.ref_ptr.0, a + t.ref_ptr.1)) i ∙ sym s.place, r.bytes ∙ ap₂ (λ a e. take (e - a) (drop a t.now)) i j ∙ sym s.bytes)

-- The merge.
unfoldable pub merger_done : Bytes → Node → Words → Read → Answer × Words × Words × Bytes
unfolding writing
merger_done o v w (Read.stop a x) = (a, w, x, o)
merger_done o v w (Read.ready u x) = ((writing (text_of (merge (tree v) (tree u))) o).0, w, x, (writing (text_of (merge (tree v) (tree u))) o).1)

unfoldable pub merger_end : Bytes → Words → Bytes → Read → Answer × Words × Words × Bytes
unfolding reading merger_done
merger_end p x o (Read.stop a w) = (a, w, x, o)
merger_end p x o (Read.ready v w) = merger_done o v w (reading 2 p x)

unfoldable pub merger : Bytes → Words → Bytes → Words → Bytes → Answer × Words × Words × Bytes
unfolding reading merger_end
merger t w p x o = merger_end p x o (reading 1 t w)

abbrev pub MergerGives : Bytes → Words → Bytes → Words → Bytes → Answer × Words × Words × Bytes → Type 0
MergerGives t w p x o r = Merger t w p x o r.0 r.1 r.2 r.3

pub merger_right : (t : Bytes) (w : Words) (p : Bytes) (x : Words) (o : Bytes) → MergerGives t w p x o (merger t w p x o)
unfolding merger merger_end merger_done
merger_right t w p x o = by (reading 1 t w) (reading_right 1 t w)
  where
    next : {v : Node} {w' : Words} (r : Read) → Reading 1 t w (Read.ready v w') → Reading 2 p x r → MergerGives t w p x o (merger_done o v w' r)
    next (Read.stop a y) r s = Merger.stop_patch r s
    next {v} (Read.ready u y) r s =
        Merger.done r s (canonical_of (merge_keeps (ready_text r) (ready_text s))) (writing_right (text_of (merge (tree v) (tree u))) o)

    by : (r : Read) → Reading 1 t w r → MergerGives t w p x o (merger_end p x o r)
    by (Read.stop a y) r = Merger.stop r
    by (Read.ready v y) r = next (reading 2 p x) r (reading_right 2 p x)

pub merger_only : {t p o o' : Bytes} {w x w' x' : Words} {a : Answer} → Merger t w p x o a w' x' o' → merger t w p x o ≡ (a, w', x', o')
unfolding merger merger_end merger_done
merger_only {p = p} {o = o} {x = x} (Merger.stop r) = ap (merger_end p x o) (reading_only r)
merger_only {p = p} {o = o} {x = x} (Merger.stop_patch {v = v} {w' = w'} r s) = ap (merger_end p x o) (reading_only r) ∙ ap (merger_done o v w') (reading_only s)
merger_only {p = p} {o = o} {x = x} (Merger.done {v = v} {w' = w'} {x' = x'} r s y z) =
    ap (merger_end p x o) (reading_only r) ∙ ap (merger_done o v w') (reading_only s)
    ∙ ap (λ z. (z.0, w', x', z.1)) (ap (λ c. writing c o) (canonical_one (canonical_of (merge_keeps (ready_text r) (ready_text s))) y) ∙ writing_only z)

pub merger_one : {t p o c d : Bytes} {w x w' x' w'' x'' : Words} {a b : Answer}
    → Merger t w p x o a w' x' c → Merger t w p x o b w'' x'' d → (a ≡ b) × (w' ≡ w'') × (x' ≡ x'') × (c ≡ d)
merger_one r s = let e = sym (merger_only r) ∙ merger_only s in (ap (λ z. z.0) e, ap (λ z. z.1) e, ap (λ z. z.2) e, ap (λ z. z.3) e)
