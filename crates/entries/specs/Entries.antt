-- The five entries. Each says of the lent slices at entry which answer is given and what every slice that may change
-- holds at exit. 01 "The answer and its numbers", "The record table", "Canonical text", "Pointer" and "Merge patch".
use Rattle.std.specs.Prelude.{ℕ, suc, ◌*◌, ◌<◌, get_or, List, ◌≡◌}
use Rattle.entries.specs.Answer.{Answer, Read, Reading, Writing, refusal, success}
use Rattle.meaning.specs.Canonical.{Canonical}
use Rattle.meaning.specs.Lookup.{Seen, resolve}
use Rattle.meaning.specs.Meaning.{mean, meaning, tree}
use Rattle.meaning.specs.Merge.{merge}
use Rattle.meaning.specs.Pointer.{Malformed, Pointer, Token}
use Rattle.text.specs.Bytes.{Bytes}
use Rattle.text.specs.Node.{Node}
use Rattle.text.specs.Table.{Words, record_words, size}

-- The reader of the text `t` with a table `w`: the count is the number of records.
pub data Reader (t : Bytes) (w : Words) : Answer → Words → Type 0 where
  stop : {a : Answer} {w' : Words} → Reading 1 t w (Read.stop a w') → Reader t w a w'
  done : {v : Node} {w' : Words} → Reading 1 t w (Read.ready v w') → Reader t w (success (size v)) w'

-- The canonical writer to an output `o`: the count is the number of bytes written.
pub data Writer (t : Bytes) (w : Words) (o : Bytes) : Answer → Words → Bytes → Type 0 where
  stop : {a : Answer} {w' : Words} → Reading 1 t w (Read.stop a w') → Writer t w o a w' o
  done : {v : Node} {w' : Words} {c o' : Bytes} {a : Answer}
      → Reading 1 t w (Read.ready v w') → Canonical (meaning v) c → Writing c o a o' → Writer t w o a w' o'

-- The look-up of the pointer `p`: all of the text, then 10, then 11; the count is the record's number.
pub data Finder (t : Bytes) (w : Words) (p : Bytes) : Answer → Words → Type 0 where
  stop : {a : Answer} {w' : Words} → Reading 1 t w (Read.stop a w') → Finder t w p a w'
  malformed : {v : Node} {w' : Words} {n : ℕ} → Reading 1 t w (Read.ready v w') → Malformed p n → Finder t w p (refusal 10 2 n) w'
  lost : {v : Node} {w' : Words} {ts : List Token} {n : ℕ}
      → Reading 1 t w (Read.ready v w') → Pointer p ts → resolve ts 0 v ≡ Seen.lost n → Finder t w p (refusal 11 2 n) w'
  found : {v u : Node} {w' : Words} {ts : List Token} {n : ℕ}
      → Reading 1 t w (Read.ready v w') → Pointer p ts → resolve ts 0 v ≡ Seen.found n u → Finder t w p (success n) w'

-- The look-up as a part of the text, by its first offset and the one behind its last: from word 0 to word 1 of the
-- record, and the empty part at 0 on any refusal.
pub data PartFinder (t : Bytes) (w : Words) (p : Bytes) : ℕ → ℕ → Words → Type 0 where
  none : {n i q : ℕ} {w' : Words} → 0 < n → Finder t w p (refusal n i q) w' → PartFinder t w p 0 0 w'
  part : {n : ℕ} {w' : Words} → Finder t w p (success n) w' → PartFinder t w p (get_or w' (record_words * n) 0) (get_or w' (suc (record_words * n)) 0) w'

-- The merge patch of the target `t` with the patch `p` to an output `o`: all of the target, then all of the patch,
-- then 13 and 12.
pub data Merger (t : Bytes) (w : Words) (p : Bytes) (x : Words) (o : Bytes) : Answer → Words → Words → Bytes → Type 0 where
  stop : {a : Answer} {w' : Words} → Reading 1 t w (Read.stop a w') → Merger t w p x o a w' x o
  stop_patch : {v : Node} {a : Answer} {w' x' : Words} → Reading 1 t w (Read.ready v w') → Reading 2 p x (Read.stop a x') → Merger t w p x o a w' x' o
  done : {v u : Node} {w' x' : Words} {c o' : Bytes} {a : Answer} → Reading 1 t w (Read.ready v w') → Reading 2 p x (Read.ready u x')
      → Canonical (mean (merge (tree v) (tree u))) c → Writing c o a o' → Merger t w p x o a w' x' o'
