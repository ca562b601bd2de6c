-- Records of a table, word by word.
use Rattle.std.specs.Prelude.{◌*◌, ◌+◌, ◌≤◌, ℕ, eqb, get_or, length, cond, None, Option, Some}
use Rattle.text.specs.Table.{Words, record_words, unnamed}

-- Word `j` of record `r`.
abbrev pub word : Words → ℕ → ℕ → ℕ
word w r j = get_or w (record_words * r + j) 0

-- The number of the next sibling of `r`, or of what follows its container.
unfoldable pub next_of : Words → ℕ → ℕ
next_of w r = word w r 3

-- The opening quote that word 2 says, if it says one; and what word 2 says of a quote, or of none.
abbrev pub quote_of : ℕ → Option ℕ
quote_of q = cond (eqb q unnamed) None (Some q)

abbrev pub word_of : Option ℕ → ℕ
word_of None = unnamed
word_of (Some q) = q

-- The table has the record `r`.
abbrev pub Room : Words → ℕ → Type 0
Room w r = record_words * r + record_words ≤ length w

-- The most records of a table: a text has no more bytes.
abbrev pub max_records : ℕ
max_records = 1_048_576
