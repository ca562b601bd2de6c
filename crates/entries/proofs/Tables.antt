-- Of what a table holds at entry nothing but its length counts: answer, offsets and output are the same with any other
-- table of that length. For the answer the same is true of an output.
use Prim.Native.Nat.{◌*◌, ℕ}
use Rattle.entries.proofs.Outcomes.{finder_one, merger_one, part_finder_one, reader_one, writer_one}
use Rattle.entries.proofs.Readings.{stop_number}
use Rattle.entries.proofs.Slices.{part_some}
use Rattle.entries.specs.Answer.{Answer, Read, Reading, Writing, over}
use Rattle.entries.specs.Entries.{Finder, Merger, PartFinder, Reader, Writer}
use Rattle.text.specs.Bytes.{Bytes}
use Rattle.text.specs.Table.{Words, record_words, table}
use lib.ListN.{length, replicate}
use mathlib.Core.Path.{◌∙◌, ◌≡◌, ap}
use native.Mathlib.Omega.{arith}

-- The same refusal or the same value, with another table at exit.
abbrev holding : Words → Read → Read
holding x (Read.ready v w) = Read.ready v x
holding x (Read.stop a w) = Read.stop a x

-- A text is read with any table of that length as it is with this one.
exchanged : {k : ℕ} {t : Bytes} {w x : Words} {r : Read} → length w ≡ length x → Reading k t w r → (x' : Words) × Reading k t x (holding x' r)
exchanged {x = x} e (Reading.long h) = (x, Reading.long h)
exchanged {x = x} e (Reading.narrow l m) = (x, Reading.narrow l (omega arith))
exchanged {t = t} {x = x} e (Reading.refused l m v) = (over (replicate (record_words * length t) 0) x, Reading.refused l (omega arith) v)
exchanged {x = x} e (Reading.accepted {v = v} l m y) = (over (table v) x, Reading.accepted l (omega arith) y)

-- And written with any output of that length; the same output then holds the same.
rewritten : {c o q o' : Bytes} {a : Answer} → length o ≡ length q → Writing c o a o' → (q' : Bytes) × Writing c q a q' × (o ≡ q → o' ≡ q')
rewritten {q = q} e (Writing.long h) = (q, Writing.long h, λ f. f)
rewritten {q = q} e (Writing.narrow l m) = (q, Writing.narrow l (omega arith), λ f. f)
rewritten {c} {q = q} e (Writing.written l m) = (over c q, Writing.written l (omega arith), ap (over c))

pub reader_table : {t : Bytes} {w x w' x' : Words} {a b : Answer} → length w ≡ length x → Reader t w a w' → Reader t x b x' → a ≡ b
reader_table e (Reader.stop r) s = let (_, y) = exchanged e r in (reader_one (Reader.stop y) s).0
reader_table e (Reader.done r) s = let (_, y) = exchanged e r in (reader_one (Reader.done y) s).0

pub writer_table : {t o q o' q' : Bytes} {w x w' x' : Words} {a b : Answer} → length w ≡ length x → length o ≡ length q
    → Writer t w o a w' o' → Writer t x q b x' q' → (a ≡ b) × (o ≡ q → o' ≡ q')
writer_table e f (Writer.stop r) s = let (_, y) = exchanged e r in let g = writer_one (Writer.stop y) s in (g.0, λ h. h ∙ g.2)
writer_table e f (Writer.done r c z) s =
    let (_, y) = exchanged e r in
    let (_, u, k) = rewritten f z in
    let g = writer_one (Writer.done y c u) s in
    (g.0, λ h. k h ∙ g.2)

finder_exchanged : {t p : Bytes} {w x w' : Words} {a : Answer} → length w ≡ length x → Finder t w p a w' → (x' : Words) × Finder t x p a x'
finder_exchanged e (Finder.stop r) = let (x', y) = exchanged e r in (x', Finder.stop y)
finder_exchanged e (Finder.malformed r c) = let (x', y) = exchanged e r in (x', Finder.malformed y c)
finder_exchanged e (Finder.lost r c f) = let (x', y) = exchanged e r in (x', Finder.lost y c f)
finder_exchanged e (Finder.found r c f) = let (x', y) = exchanged e r in (x', Finder.found y c f)

pub finder_table : {t p : Bytes} {w x w' x' : Words} {a b : Answer} → length w ≡ length x → Finder t w p a w' → Finder t x p b x' → a ≡ b
finder_table e r s = let (_, y) = finder_exchanged e r in (finder_one y s).0

-- Both offsets are those of the value that is found, whichever the table.
pub part_finder_table : {t p : Bytes} {w x w' x' : Words} {a b c d : ℕ}
    → length w ≡ length x → PartFinder t w p a b w' → PartFinder t x p c d x' → (a ≡ c) × (b ≡ d)
part_finder_table e (PartFinder.none h r) s =
    let (_, y) = finder_exchanged e r in let f = part_finder_one (PartFinder.none h y) s in (f.0, f.1)
part_finder_table e (PartFinder.part (Finder.stop r)) s = absurd (omega (arith, stop_number r))
part_finder_table e (PartFinder.part (Finder.found r c h)) s =
    let (_, y) = exchanged e r in
    let f = part_finder_one (PartFinder.part (Finder.found r c h)) (part_some r c h).0 in
    let g = part_finder_one (part_some y c h).0 s in
    (f.0 ∙ g.0, f.1 ∙ g.1)

-- Both tables of a merge.
pub merger_table : {t p o q o' q' : Bytes} {w x w₁ x₁ w₂ x₂ w₃ x₃ : Words} {a b : Answer} → length w ≡ length w₁ → length x ≡ length x₁ → length o ≡ length q
    → Merger t w p x o a w₂ x₂ o' → Merger t w₁ p x₁ q b w₃ x₃ q' → (a ≡ b) × (o ≡ q → o' ≡ q')
merger_table e f l (Merger.stop r) s = let (_, y) = exchanged e r in let g = merger_one (Merger.stop y) s in (g.0, λ h. h ∙ g.3)
merger_table e f l (Merger.stop_patch r u) s =
    let (_, y) = exchanged e r in let (_, z) = exchanged f u in let g = merger_one (Merger.stop_patch y z) s in (g.0, λ h. h ∙ g.3)
merger_table e f l (Merger.done r u c v) s =
    let (_, y) = exchanged e r in
    let (_, z) = exchanged f u in
    let (_, n, k) = rewritten l v in
    let g = merger_one (Merger.done y z c n) s in
    (g.0, λ h. k h ∙ g.3)
