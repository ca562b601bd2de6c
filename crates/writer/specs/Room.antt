-- What is answered once the length of what is to be written is known.
use Rattle.std.specs.Prelude.{ℕ, ◌≤◌, ◌≡◌, length, Result, Ok, Err}
use Rattle.entries.specs.Answer.{Writing, max_text}
use Rattle.reader.specs.Answers.{told}
use Rattle.reader.specs.declared.answer.Refused.{Refused}
use Rattle.text.specs.Bytes.{Bytes}

-- Any `n` bytes can be written to an output that holds `o`, or they are refused as 01 says, and leave it as it is.
abbrev pub RoomFor : ℕ → Bytes → Result Unit Refused → Type 0
RoomFor n o (Ok u) = (n ≤ max_text) × (n ≤ length o)
RoomFor n o (Err e) = (c : Bytes) → n ≡ length c → Writing c o (told (Err e)) o
