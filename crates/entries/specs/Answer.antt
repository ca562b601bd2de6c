-- The answer, and what every entry does with a text and its table, or with an output. 01 "The answer and its
-- numbers" and "The record table".
use Rattle.std.specs.Prelude.{ℕ, ◌*◌, ◌≤◌, ◌<◌, length, drop, replicate, List, ◌++◌}
use Rattle.text.specs.Bytes.{Bytes}
use Rattle.text.specs.Ceilings.{house}
use Rattle.text.specs.Grammar.{Text}
use Rattle.text.specs.Node.{Node}
use Rattle.text.specs.Table.{Words, record_words, table}
use Rattle.text.specs.Verdict.{Verdict, Outcome}

abbrev pub max_text : ℕ
max_text = 1_048_576

-- Number, input, place and count.
pub data Answer : Type 0 where
  answer : ℕ → ℕ → ℕ → ℕ → Answer

abbrev pub refusal : ℕ → ℕ → ℕ → Answer
refusal number input place = Answer.answer number input place 0

abbrev pub success : ℕ → Answer
success count = Answer.answer 0 0 0 count

-- A lent slice that held `old`, with `new` in its first places and every later one as at entry.
abbrev pub over : List ℕ → List ℕ → List ℕ
over new old = new ++ drop (length new) old

-- A text that was read, with its table at exit, or a refusal.
pub data Read : Type 0 where
  ready : Node → Words → Read
  stop : Answer → Words → Read

-- Reading the text `t` as input `k`, with a table that holds `w` at entry: 1, 2, then 3 to 9.
pub data Reading (k : ℕ) (t : Bytes) (w : Words) : Read → Type 0 where
  long : max_text < length t → Reading k t w (Read.stop (refusal 1 k 0) w)
  narrow : length t ≤ max_text → length w < record_words * length t → Reading k t w (Read.stop (refusal 2 k 0) w)
  refused : {n p : ℕ} → length t ≤ max_text → record_words * length t ≤ length w → Verdict house t (Outcome.refused n p)
      → Reading k t w (Read.stop (refusal n k p) (over (replicate (record_words * length t) 0) w))
  accepted : {v : Node} → length t ≤ max_text → record_words * length t ≤ length w → Text house t v → Reading k t w (Read.ready v (over (table v) w))

-- Writing `c` to an output that holds `o` at entry: 13, then 12; the place is the length needed.
pub data Writing (c o : Bytes) : Answer → Bytes → Type 0 where
  long : max_text < length c → Writing c o (refusal 13 3 (length c)) o
  narrow : length c ≤ max_text → length o < length c → Writing c o (refusal 12 3 (length c)) o
  written : length c ≤ max_text → length c ≤ length o → Writing c o (success (length c)) (over c o)
