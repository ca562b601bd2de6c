-- What the members of an object are asked to be, where their names are looked at.
use Rattle.std.specs.Prelude.{◌*◌, ◌<◌, ◌≤◌, ℕ, length, List, [], ◌∷◌}
use Rattle.members.specs.Links.{low_part}
use Rattle.members.specs.Lists.{In}
use Rattle.members.specs.Records.{max_records, word}
use Rattle.members.specs.Siblings.{Siblings}
use Rattle.text.specs.Bytes.{Bytes}
use Rattle.text.specs.Table.{Words, record_words}

-- The records from `r` up to `end` are siblings whose names stand in the text in their order, with room for links.
pub record Row (t : Bytes) (w : Words) (r end : ℕ) : Type 0 where
  pub few : end ≤ max_records
  pub long : record_words * end ≤ length w
  pub members : List ℕ
  pub siblings : Siblings w end r members
  pub low : (x : ℕ) → In x members → (word w x 0 < low_part) × (word w x 1 < low_part)
  pub inside : (x : ℕ) → In x members → word w x 2 < length t
  pub rising : (x y : ℕ) → In x members → In y members → x < y → word w x 2 < word w y 2

-- The opening quotes of the names of `l`.
unfoldable pub named : Words → List ℕ → List ℕ
named w [] = []
named w (x ∷ l) = word w x 2 ∷ named w l
