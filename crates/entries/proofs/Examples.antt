-- 01's starred examples as one list with a single statement, over the entries.
use Prim.Native.Nat.{◌*◌, ◌-◌, ℕ}
use Rattle.entries.proofs.Outcomes.{ReaderGives, finder, finder_right, merger, merger_right, part_finder, part_finder_right, reader, reader_right, writer, writer_right}
use Rattle.entries.specs.Answer.{Answer, refusal, success}
use Rattle.entries.specs.Entries.{Finder, Merger, PartFinder, Reader, Writer}
use Rattle.meaning.proofs.Order.{before}
use Rattle.meaning.proofs.Pointers.{check_pointer}
use Rattle.meaning.proofs.Sorting.{canon, insert}
use Rattle.meaning.specs.Canonical.{put}
use Rattle.meaning.specs.Lookup.{resolve}
use Rattle.meaning.specs.Meaning.{tree}
use Rattle.meaning.specs.Merge.{merge}
use Rattle.text.proofs.Demand3.{read}
use Rattle.text.proofs.Every.{Every, every}
use Rattle.text.specs.Bytes.{Bytes, ascii}
use Rattle.text.specs.Table.{Words, record_words, table}
use lib.ListN.{drop, length, replicate, take}
use mathlib.Core.List.{List, [], ◌∷◌}
use mathlib.Core.Path.{◌≡◌, ap, refl, subst}

pub data Case : Type 0 where
  -- A text is refused with a number at a place.
  refuses : Bytes → ℕ → ℕ → Case
  -- A text is written as these bytes.
  writes : Bytes → Bytes → Case
  -- In a text a pointer names the part of these bytes.
  finds : Bytes → Bytes → Bytes → Case
  -- In a text a pointer is refused with a number at a place.
  misses : Bytes → Bytes → ℕ → ℕ → Case
  -- A target with a patch gives these bytes.
  patches : Bytes → Bytes → Bytes → Case
  -- With that target this patch is refused with a number at a place.
  blames : Bytes → Bytes → ℕ → ℕ → Case
  -- A text is refused as 12 where the output has so many bytes, since it needs so many.
  needs : Bytes → ℕ → ℕ → Case

-- Lent slices hold 7 everywhere at entry: tables of four words for each byte, outputs of just the length needed.
abbrev table_for : Bytes → Words
table_for t = replicate (record_words * length t) 7

abbrev output_for : Bytes → Bytes
output_for c = replicate (length c) 7

unfoldable pub Holds : Case → Type 0
Holds (Case.refuses t n p) = Reader t (table_for t) (refusal n 1 p) (replicate (record_words * length t) 0)
Holds (Case.writes t c) = (w : Words) × Writer t (table_for t) (output_for c) (success (length c)) w c
Holds (Case.finds t p c) = (start end : ℕ) × (w : Words) × PartFinder t (table_for t) p start end w × (take (end - start) (drop start t) ≡ c)
Holds (Case.misses t p n q) = (w : Words) × Finder t (table_for t) p (refusal n 2 q) w
Holds (Case.patches t p c) = (w x : Words) × Merger t (table_for t) p (table_for p) (output_for c) (success (length c)) w x c
Holds (Case.blames t p n q) = (w x : Words) × Merger t (table_for t) p (table_for p) [] (refusal n 2 q) w x []
Holds (Case.needs t k n) = (w : Words) × Writer t (table_for t) (replicate k 7) (refusal 12 3 n) w (replicate k 7)

unfoldable pub starred : List Case
starred =
    Case.refuses [] 3 0
    ∷ Case.refuses (ascii "-") 3 1
    ∷ Case.refuses (ascii "01") 4 1
    ∷ Case.refuses (ascii "[1,]") 4 3
    ∷ Case.refuses (ascii "{\"a\":1,\"\\u0061\":2}") 8 14
    ∷ Case.refuses (ascii "1.5e-999") 7 7
    ∷ Case.writes (ascii "1.5e-998") (ascii "15e-999")
    ∷ Case.writes (ascii "0e999") (ascii "0")
    ∷ Case.writes (ascii "{\"b\":1.50,\"a\":\"\\n\"}") (ascii "{\"a\":\"\\u000a\",\"b\":15e-1}")
    ∷ Case.finds (ascii "{\"foo\":[\"bar\",\"baz\"],\"\":0}") (ascii "/foo/0") (ascii "\"bar\"")
    ∷ Case.misses (ascii "{\"foo\":[\"bar\",\"baz\"],\"\":0}") (ascii "/foo/01") 11 4
    ∷ Case.patches (ascii "[1,2]") (ascii "{\"a\":\"b\",\"c\":null}") (ascii "{\"a\":\"b\"}")
    ∷ Case.patches (ascii "{}") (ascii "{\"a\":{\"bb\":{\"ccc\":null}}}") (ascii "{\"a\":{\"bb\":{}}}")
    ∷ []

-- What no starred example holds: the input of a patch's refusal, and the place of 12.
unfoldable pub edges : List Case
edges =
    Case.blames (ascii "{}") (ascii "{\"a\":1,\"a\":2}") 8 9
    ∷ Case.needs (ascii "{\"b\":1.50,\"a\":\"\\n\"}") 5 24
    ∷ []

-- What the entries' functions give, and what is expected: an answer, and words or bytes.
abbrev part_text : Bytes → ℕ × ℕ × Words → Bytes
part_text t r = take (r.1 - r.0) (drop r.0 t)

unfoldable given : Case → Answer × List ℕ
unfolding reader writer finder part_finder merger
given (Case.refuses t n p) = reader t (table_for t)
given (Case.writes t c) = let r = writer t (table_for t) (output_for c) in (r.0, r.2)
given (Case.finds t p c) = (success 0, part_text t (part_finder t (table_for t) p))
given (Case.misses t p n q) = ((finder t (table_for t) p).0, [])
given (Case.patches t p c) = let r = merger t (table_for t) p (table_for p) (output_for c) in (r.0, r.3)
given (Case.blames t p n q) = let r = merger t (table_for t) p (table_for p) [] in (r.0, r.3)
given (Case.needs t k n) = let r = writer t (table_for t) (replicate k 7) in (r.0, r.2)

unfoldable expected : Case → Answer × List ℕ
expected (Case.refuses t n p) = (refusal n 1 p, replicate (record_words * length t) 0)
expected (Case.writes t c) = (success (length c), c)
expected (Case.finds t p c) = (success 0, c)
expected (Case.misses t p n q) = (refusal n 2 q, [])
expected (Case.patches t p c) = (success (length c), c)
expected (Case.blames t p n q) = (refusal n 2 q, [])
expected (Case.needs t k n) = (refusal 12 3 n, replicate k 7)

-- The outcome of a writer's and of a merge's function, with answer and output replaced by equal ones.
as_written : {t o : Bytes} {r : Answer × List ℕ} → let g = writer t (table_for t) o in (g.0, g.2) ≡ r → (w : Words) × Writer t (table_for t) o r.0 w r.1
as_written {t} {o} e = let g = writer t (table_for t) o in (g.1, subst (λ z. Writer t (table_for t) o z.0 g.1 z.1) e (writer_right t (table_for t) o))

as_merged : {t p o : Bytes} {r : Answer × List ℕ} → let g = merger t (table_for t) p (table_for p) o in (g.0, g.3) ≡ r
    → (w x : Words) × Merger t (table_for t) p (table_for p) o r.0 w x r.1
as_merged {t} {p} {o} e =
    let g = merger t (table_for t) p (table_for p) o in
    (g.1, g.2, subst (λ z. Merger t (table_for t) p (table_for p) o z.0 g.1 g.2 z.1) e (merger_right t (table_for t) p (table_for p) o))

holds : (c : Case) → given c ≡ expected c → Holds c
unfolding given expected Holds
holds (Case.refuses t n p) e = subst (ReaderGives t (table_for t)) e (reader_right t (table_for t))
holds (Case.writes t c) e = as_written e
holds (Case.finds t p c) e = let r = part_finder t (table_for t) p in (r.0, r.1, r.2, part_finder_right t (table_for t) p, ap (λ z. z.1) e)
holds (Case.misses t p n q) e =
    let r = finder t (table_for t) p in (r.1, subst (λ z. Finder t (table_for t) p z.0 r.1) e (finder_right t (table_for t) p))
holds (Case.patches t p c) e = as_merged e
holds (Case.blames t p n q) e = as_merged e
holds (Case.needs t k n) e = as_written e

pub examples : Every Holds starred
unfolding starred given expected read canon insert before put tree merge table check_pointer resolve
examples = every Holds given expected holds starred refl

pub edges_hold : Every Holds edges
unfolding edges given expected read canon insert before put tree merge table check_pointer resolve
edges_hold = every Holds given expected holds edges refl
