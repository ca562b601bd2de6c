-- The values of one container, each found from the one before.
use Rattle.std.specs.Prelude.{◌<◌, ℕ, List, [], ◌∷◌}
use Rattle.members.specs.Records.{word}
use Rattle.text.specs.Table.{Words}

-- `l` are the records from `r` on, each found by word 3 of the one before, up to `end`.
pub data Siblings (w : Words) (end : ℕ) : ℕ → List ℕ → Type 0 where
  none : Siblings w end end []
  more : {r : ℕ} {l : List ℕ} → r < word w r 3 → Siblings w end (word w r 3) l → Siblings w end r (r ∷ l)
