-- The demands in terms of the entries.
use Prim.Native.Nat.{◌*◌, ◌<◌, ◌≤◌, ℕ}
use Rattle.entries.proofs.Outcomes.{merger_one}
use Rattle.entries.proofs.Readings.{reading_only, ready_text, stop_number}
use Rattle.entries.specs.Answer.{Answer, Read, Reading, Writing, max_text, over, refusal, success}
use Rattle.entries.specs.Entries.{Finder, Merger, Reader, Writer}
use Rattle.meaning.proofs.Demand2.{canonical_one, demand_2, merge_respects, merge_settled, settled, text_back}
use Rattle.meaning.specs.Canonical.{Canonical}
use Rattle.meaning.specs.Meaning.{mean, meaning, tree}
use Rattle.meaning.specs.Merge.{merge}
use Rattle.text.proofs.Demand3.{one_meaning}
use Rattle.text.specs.Bytes.{Bytes}
use Rattle.text.specs.Ceilings.{house}
use Rattle.text.specs.Grammar.{Text}
use Rattle.text.specs.Node.{Node}
use Rattle.text.specs.Table.{Words, record_words, size, table}
use Rattle.text.specs.Verdict.{Outcome, Verdict}
use lib.ListN.{drop, length, replicate, take}
use lib.Seq.{take-append_seam}
use mathlib.Core.Logic.{◌↔◌}
use mathlib.Core.Path.{◌∙◌, ◌≡◌, ap, refl, subst, sym}
use native.Mathlib.Omega.{arith}

-- Demand 1. A refusal has count 0 and leaves the output as at entry; a text that was accepted keeps its records, and the
-- patch's table isn't touched when the target is refused.
reading_count : {k n i p c : ℕ} {t : Bytes} {w w' : Words} → Reading k t w (Read.stop (Answer.answer n i p c) w') → c ≡ 0
reading_count (Reading.long h) = refl
reading_count (Reading.narrow l m) = refl
reading_count (Reading.refused l m v) = refl

writing_refused : {n i p k : ℕ} {c o o' : Bytes} → 0 < n → Writing c o (Answer.answer n i p k) o' → (k ≡ 0) × (o' ≡ o)
writing_refused h (Writing.long l) = (refl, refl)
writing_refused h (Writing.narrow l m) = (refl, refl)
writing_refused h (Writing.written l m) = absurd (omega arith)

pub reader_refused : {n i p c : ℕ} {t : Bytes} {w w' : Words} → 0 < n → Reader t w (Answer.answer n i p c) w' → c ≡ 0
reader_refused h (Reader.stop r) = reading_count r
reader_refused h (Reader.done r) = absurd (omega arith)

pub writer_refused : {n i p c : ℕ} {t o o' : Bytes} {w w' : Words} → 0 < n → Writer t w o (Answer.answer n i p c) w' o' → (c ≡ 0) × (o' ≡ o)
writer_refused h (Writer.stop r) = (reading_count r, refl)
writer_refused h (Writer.done r x y) = writing_refused h y

pub finder_refused : {n i p c : ℕ} {t q : Bytes} {w w' : Words} → 0 < n → Finder t w q (Answer.answer n i p c) w' → c ≡ 0
finder_refused h (Finder.stop r) = reading_count r
finder_refused h (Finder.malformed r x) = refl
finder_refused h (Finder.lost r x e) = refl
finder_refused h (Finder.found r x e) = absurd (omega arith)

pub merger_refused : {n i p c : ℕ} {t q o o' : Bytes} {w x w' x' : Words} → 0 < n → Merger t w q x o (Answer.answer n i p c) w' x' o' → (c ≡ 0) × (o' ≡ o)
merger_refused h (Merger.stop r) = (reading_count r, refl)
merger_refused h (Merger.stop_patch r s) = (reading_count s, refl)
merger_refused h (Merger.done r s x y) = writing_refused h y

pub reading_stands : {k : ℕ} {t : Bytes} {w : Words} {v : Node} → length t ≤ max_text → record_words * length t ≤ length w → Text house t v
    → {r : Read} → Reading k t w r → r ≡ Read.ready v (over (table v) w)
reading_stands l m x r = sym (reading_only r) ∙ reading_only (Reading.accepted l m x)

pub patch_untouched : {t q o o' : Bytes} {w x w' w'' x' : Words} {a b : Answer} → Reading 1 t w (Read.stop b w'') → Merger t w q x o a w' x' o' → (x' ≡ x) × (a ≡ b)
patch_untouched r s = let (a, _, x, _) = merger_one s (Merger.stop r) in (x, a)

-- Demand 3. For a text of at most 1,048,576 bytes and a table of four words for each byte, the reader accepts exactly
-- the texts of the grammar within the ceilings, and every other text gets the number and place of its verdict.
module _ {t : Bytes} {w : Words} (l : length t ≤ max_text) (m : record_words * length t ≤ length w) where
  pub accepts : ((n : ℕ) × (x : Words) × Reader t w (success n) x) ↔ ((v : Node) × Text house t v)
  accepts = ((λ (n, x, r). to r), λ (v, x). (size v, over (table v) w, Reader.done (Reading.accepted l m x)))
    where
      to : {n : ℕ} {x : Words} → Reader t w (success n) x → (v : Node) × Text house t v
      to (Reader.stop r) = absurd (omega (arith, stop_number r))
      to (Reader.done {v = v} r) = (v, ready_text r)

  pub refuses : (n p : ℕ) → ((x : Words) × Reader t w (refusal n 1 p) x) ↔ Verdict house t (Outcome.refused n p)
  refuses n p = ((λ (x, r). to r), λ v. (over (replicate (record_words * length t) 0) w, Reader.stop (Reading.refused l m v)))
    where
      to : {n p : ℕ} {x : Words} → Reader t w (refusal n 1 p) x → Verdict house t (Outcome.refused n p)
      to (Reader.stop (Reading.long h)) = absurd (omega arith)
      to (Reader.stop (Reading.narrow h k)) = absurd (omega arith)
      to (Reader.stop (Reading.refused h k v)) = v

-- Demand 2. The bytes that the writer gives for a text, where it is not refused.
pub data Written (t c : Bytes) : Type 0 where
  written : {n : ℕ} {w w' : Words} {o o' : Bytes} → Writer t w o (success n) w' o' → take n o' ≡ c → Written t c

wrote : {c o o' : Bytes} {n : ℕ} → Writing c o (success n) o' → (take n o' ≡ c) × (length c ≤ max_text)
wrote {c} {o} (Writing.written l m) = (take-append_seam c (drop (length c) o), l)

-- They are the canonical text of what the text means.
pub written_text : {t c : Bytes} → Written t c → (v : Node) × Text house t v × Canonical (meaning v) c × (length c ≤ max_text)
written_text (Written.written (Writer.stop r) e) = absurd (omega (arith, stop_number r))
written_text (Written.written (Writer.done {v = v} r x y) e) =
    let (f, l) = wrote y in
    let z = sym f ∙ e in
    (v, ready_text r, subst (Canonical (meaning v)) z x, subst (λ c. length c ≤ max_text) z l)

-- Two texts that are written get the same bytes exactly when they mean the same.
pub writes_same : {s t c d : Bytes} {v u : Node} → Written s c → Written t d → Text house s v → Text house t u → (c ≡ d) ↔ (meaning v ≡ meaning u)
writes_same {s} {t} {c} {d} f g x y =
    let (v', x', p, _) = written_text f in
    let (u', y', q, _) = written_text g in
    demand_2 x y (subst (λ v. Canonical (meaning v) c) (one_meaning s x' x) p) (subst (λ u. Canonical (meaning u) d) (one_meaning t y' y) q)

-- What was written is a text of that meaning, which the reader accepts with any table that is long enough, ...
pub writes_back : {t c : Bytes} {v : Node} → Written t c → Text house t v
    → (u : Node) × Text house c u × (meaning u ≡ meaning v) × ((w : Words) → record_words * length c ≤ length w → Reader c w (success (size u)) (over (table u) w))
writes_back {t} f x =
    let (v', x', p, l) = written_text f in
    let (u, y, e) = text_back x' p in
    (u, y, e ∙ ap meaning (one_meaning t x' x), λ w m. Reader.done (Reading.accepted l m y))

-- ... and writing it again gives the same bytes.
pub writes_settled : {t c d : Bytes} → Written t c → Written c d → c ≡ d
writes_settled {c = c} f g =
    let (v, x, p, _) = written_text f in
    let (u, y, q, _) = written_text g in
    canonical_one (settled x p y) q

-- The bytes that a merge gives, where it is not refused: the canonical text of the merge of what the two mean.
pub data Merged (t p c : Bytes) : Type 0 where
  merged : {n : ℕ} {w x w' x' : Words} {o o' : Bytes} → Merger t w p x o (success n) w' x' o' → take n o' ≡ c → Merged t p c

pub merged_text : {t p c : Bytes} → Merged t p c → (v u : Node) × Text house t v × Text house p u × Canonical (mean (merge (tree v) (tree u))) c
merged_text (Merged.merged (Merger.stop r) e) = absurd (omega (arith, stop_number r))
merged_text (Merged.merged (Merger.stop_patch r s) e) = absurd (omega (arith, stop_number s))
merged_text (Merged.merged (Merger.done {v = v} {u = u} r s x y) e) =
    let (f, _) = wrote y in (v, u, ready_text r, ready_text s, subst (Canonical (mean (merge (tree v) (tree u)))) (sym f ∙ e) x)

-- So two replicas that are given texts of the same meanings, and neither of which refuses, write the same bytes.
pub merges_same : {t p c t' p' c' : Bytes} {v u v' u' : Node} → Merged t p c → Merged t' p' c'
    → Text house t v → Text house p u → Text house t' v' → Text house p' u' → meaning v ≡ meaning v' → meaning u ≡ meaning u' → c ≡ c'
merges_same {t} {p} {c} {t'} {p'} {c'} {v} {u} {v'} {u'} f g x y x' y' e h = canonical_one (subst (λ m. Canonical m c) (merge_respects x y x' y' e h) (of f x y)) (of g x' y')
  where
    of : {t p c : Bytes} {v u : Node} → Merged t p c → Text house t v → Text house p u → Canonical (mean (merge (tree v) (tree u))) c
    of {t} {p} {c} {v} {u} f x y =
        let (v', u', a, b, z) = merged_text f in
        subst (λ n. Canonical (mean (merge (tree n) (tree u))) c) (one_meaning t a x) (subst (λ n. Canonical (mean (merge (tree v') (tree n))) c) (one_meaning p b y) z)

-- And the same patch again, where it is not refused, changes nothing.
pub merges_settled : {t p c d : Bytes} → Merged t p c → Merged c p d → c ≡ d
merges_settled {p = p} {c = c} f g =
    let (v, u, x, y, z) = merged_text f in
    let (w, u', r, y', q) = merged_text g in
    canonical_one (subst (λ n. Canonical (mean (merge (tree w) (tree n))) c) (one_meaning p y y') (merge_settled x y z r)) q
