-- Reading a text and writing an output, as functions: each fits its definition, and nothing else does.
use Prim.Native.Nat.{◌*◌, ◌<◌, ◌≤◌, ℕ}
use Rattle.entries.specs.Answer.{Answer, Read, Reading, Writing, max_text, over, refusal, success}
use Rattle.text.proofs.Demand3.{number_of_refusal, read, read_only, read_right}
use Rattle.text.proofs.Limits.{house_limits}
use Rattle.text.specs.Bytes.{Bytes}
use Rattle.text.specs.Ceilings.{house}
use Rattle.text.specs.Grammar.{Text}
use Rattle.text.specs.Node.{Node}
use Rattle.text.specs.Table.{Words, record_words, table}
use Rattle.text.specs.Verdict.{Outcome, Verdict}
use borrow.Author.Tests.{le-ltb, lt-ltb, ltb-false, ltb-true}
use lib.Dec.{ltb}
use lib.ListN.{length, replicate}
use mathlib.Core.Bool.{Bool, false, true}
use mathlib.Core.Path.{◌∙◌, ◌≡◌, ap, refl}
use native.Mathlib.Omega.{arith}

-- What the verdict on a text makes of its table.
unfoldable pub filled : ℕ → Bytes → Words → Outcome → Read
filled k t w (Outcome.accepted v) = Read.ready v (over (table v) w)
filled k t w (Outcome.refused n p) = Read.stop (refusal n k p) (over (replicate (record_words * length t) 0) w)

unfoldable pub reading : ℕ → Bytes → Words → Read
unfolding filled
reading k t w =
    elim (ltb max_text (length t)) [
      | true ↦ Read.stop (refusal 1 k 0) w
      | false ↦ elim (ltb (length w) (record_words * length t)) [ true ↦ Read.stop (refusal 2 k 0) w | false ↦ filled k t w (read house t) ]
    ]

pub reading_right : (k : ℕ) (t : Bytes) (w : Words) → Reading k t w (reading k t w)
unfolding reading filled
reading_right k t w = by (ltb max_text (length t)) (ltb (length w) (record_words * length t)) refl refl
  where
    judged : {a : Outcome} → length t ≤ max_text → record_words * length t ≤ length w → Verdict house t a → Reading k t w (filled k t w a)
    judged l m (Verdict.text x) = Reading.accepted l m x
    judged l m (Verdict.short x y) = Reading.refused l m (Verdict.short x y)
    judged l m (Verdict.wrong x y z) = Reading.refused l m (Verdict.wrong x y z)
    judged l m (Verdict.over x y z) = Reading.refused l m (Verdict.over x y z)

    by : (a b : Bool) → ltb max_text (length t) ≡ a → ltb (length w) (record_words * length t) ≡ b
        → Reading k t w (elim a as (λ _. Read) [ true ↦ Read.stop (refusal 1 k 0) w | false ↦ elim b as (λ _. Read) [ true ↦ Read.stop (refusal 2 k 0) w | false ↦ filled k t w (read house t) ] ])
    by true b e f = Reading.long (ltb-true max_text (length t) e)
    by false true e f = Reading.narrow (ltb-false max_text (length t) e) (ltb-true (length w) (record_words * length t) f)
    by false false e f = judged (ltb-false max_text (length t) e) (ltb-false (length w) (record_words * length t) f) (read_right house_limits t)

-- The two tests, at texts and tables that are long enough.
fits : (k : ℕ) (t : Bytes) (w : Words) → length t ≤ max_text → record_words * length t ≤ length w → reading k t w ≡ filled k t w (read house t)
unfolding reading
fits k t w l m = rw (le-ltb max_text (length t) l, le-ltb (length w) (record_words * length t) m, reading)

pub reading_only : {k : ℕ} {t : Bytes} {w : Words} {r : Read} → Reading k t w r → reading k t w ≡ r
unfolding reading filled
reading_only {t = t} {w = w} (Reading.long h) = rw (lt-ltb max_text (length t) h, reading)
reading_only {t = t} {w = w} (Reading.narrow l m) = rw (le-ltb max_text (length t) l, lt-ltb (length w) (record_words * length t) m, reading)
reading_only {k} {t} {w} (Reading.refused l m v) = fits k t w l m ∙ ap (filled k t w) (read_only house_limits t v)
reading_only {k} {t} {w} (Reading.accepted l m x) = fits k t w l m ∙ ap (filled k t w) (read_only house_limits t (Verdict.text x))

-- An accepted text is a text, and a refusal has a number.
pub ready_text : {k : ℕ} {t : Bytes} {w : Words} {v : Node} {w' : Words} → Reading k t w (Read.ready v w') → Text house t v
ready_text (Reading.accepted l m x) = x

pub stop_number : {k n i p c : ℕ} {t : Bytes} {w w' : Words} → Reading k t w (Read.stop (Answer.answer n i p c) w') → 0 < n
stop_number (Reading.long h) = omega arith
stop_number (Reading.narrow l m) = omega arith
stop_number (Reading.refused l m v) = omega (arith, number_of_refusal v)

-- Writing.
unfoldable pub writing : Bytes → Bytes → Answer × Bytes
writing c o =
    elim (ltb max_text (length c)) [
      | true ↦ (refusal 13 3 (length c), o)
      | false ↦ elim (ltb (length o) (length c)) [ true ↦ (refusal 12 3 (length c), o) | false ↦ (success (length c), over c o) ]
    ]

abbrev pub WritingGives : Bytes → Bytes → Answer × Bytes → Type 0
WritingGives c o r = Writing c o r.0 r.1

pub writing_right : (c o : Bytes) → WritingGives c o (writing c o)
unfolding writing
writing_right c o = by (ltb max_text (length c)) (ltb (length o) (length c)) refl refl
  where
    by : (a b : Bool) → ltb max_text (length c) ≡ a → ltb (length o) (length c) ≡ b
        → WritingGives c o (elim a as (λ _. Answer × Bytes) [
          | true ↦ (refusal 13 3 (length c), o)
          | false ↦ elim b as (λ _. Answer × Bytes) [ true ↦ (refusal 12 3 (length c), o) | false ↦ (success (length c), over c o) ]
        ])
    by true b e f = Writing.long (ltb-true max_text (length c) e)
    by false true e f = Writing.narrow (ltb-false max_text (length c) e) (ltb-true (length o) (length c) f)
    by false false e f = Writing.written (ltb-false max_text (length c) e) (ltb-false (length o) (length c) f)

pub writing_only : {c o o' : Bytes} {a : Answer} → Writing c o a o' → writing c o ≡ (a, o')
unfolding writing
writing_only {c} (Writing.long h) = rw (lt-ltb max_text (length c) h, writing)
writing_only {c} {o} (Writing.narrow l m) = rw (le-ltb max_text (length c) l, lt-ltb (length o) (length c) m, writing)
writing_only {c} {o} (Writing.written l m) = rw (le-ltb max_text (length c) l, le-ltb (length o) (length c) m, writing)
