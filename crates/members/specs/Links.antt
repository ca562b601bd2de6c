-- Links between records, kept above the offsets in words 0 and 1.
use Rattle.std.specs.Prelude.{◌%◌, ◌*◌, ◌+◌, ◌/◌, ℕ, get_or, length, set, List, ◌≡◌}
use Rattle.members.specs.Lists.{In}
use Rattle.members.specs.Records.{word}
use Rattle.text.specs.Table.{Words, record_words}

-- An offset is below this, 2 ^ 21: what a word of 32 bits holds above it is for links.
abbrev pub low_part : ℕ
low_part = 2_097_152

-- A link's remainder by this, 2 ^ 11, stands in word 0, its quotient in word 1.
abbrev pub link_part : ℕ
link_part = 2_048

-- The link of record `r`.
unfoldable pub link_of : Words → ℕ → ℕ
link_of w r = word w r 0 / low_part + word w r 1 / low_part * link_part

-- The table with the link of `r` set to `v`.
unfoldable pub with_link : Words → ℕ → ℕ → Words
with_link w r v =
    set (set w (record_words * r + 0) (word w r 0 % low_part + v % link_part * low_part)) (record_words * r + 1) (word w r 1 % low_part + v / link_part * low_part)

-- `u` is `w` but for the links of the records `l`.
pub record Frame (l : List ℕ) (w u : Words) : Type 0 where
  pub long : length u ≡ length w
  pub low : (i : ℕ) → get_or u i 0 % low_part ≡ get_or w i 0 % low_part
  pub quote : (r : ℕ) → word u r 2 ≡ word w r 2
  pub next : (r : ℕ) → word u r 3 ≡ word w r 3
  pub out : (r : ℕ) → (In r l → ⊥) → (word u r 0 ≡ word w r 0) × (word u r 1 ≡ word w r 1)

-- `u` is `w` with the links of the records `l` set as `f` says.
pub record Laid (f : ℕ → ℕ) (l : List ℕ) (w u : Words) : Type 0 where
  pub frame : Frame l w u
  pub links : (r : ℕ) → In r l → link_of u r ≡ f r
