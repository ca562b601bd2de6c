-- What the code's answer says, in the terms of the entries.
use Rattle.std.specs.Prelude.{ℕ, ◌≡◌, Result, Ok, Err}
use Rattle.entries.specs.Answer.{Read, Reading}
use Rattle.entries.specs.Answer as entry
use Rattle.reader.specs.declared.answer.Answer.{Answer}
use Rattle.reader.specs.declared.answer.Input.{Input}
use Rattle.reader.specs.declared.answer.Refused.{Refused}
use Rattle.scan.specs.Refusals.{number_of, place_of}
use Rattle.text.specs.Bytes.{Bytes}
use Rattle.text.specs.Node.{Node}
use Rattle.text.specs.Table.{Words, size}

-- What an answer of the code stands for, ...
abbrev pub answer_of : Answer → entry.Answer
answer_of a = entry.Answer.answer a.number a.input a.place a.count

-- ... and a result, with 01's numbers of the inputs.
abbrev pub input_of : Input → ℕ
input_of Input.First = 1
input_of Input.Second = 2
input_of Input.Output = 3

abbrev pub told : Result ℕ Refused → entry.Answer
told (Ok n) = entry.success n
told (Err e) = entry.refusal (number_of e.refusal) (input_of e.input) (place_of e.refusal)

-- Reading the text `t`, which is the input `k`, with a table that holds `w` at entry and `w'` at exit: a text and the
-- number of its records, or a refusal.
abbrev pub ReadAs : Input → Bytes → Words → Words → Result ℕ Refused → Type 0
ReadAs k t w w' (Ok n) = (v : Node) × (n ≡ size v) × Reading (input_of k) t w (Read.ready v w')
ReadAs k t w w' (Err e) = Reading (input_of k) t w (Read.stop (told (Err e)) w')
