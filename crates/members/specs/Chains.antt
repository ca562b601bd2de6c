-- Chains of records, and records in order.
use Rattle.std.specs.Prelude.{◌<◌, suc, zero, ℕ, ltb, Bool, List, [], ◌∷◌}
use Rattle.members.specs.Links.{Frame, link_of}
use Rattle.members.specs.Lists.{In, Same, Sorted}
use Rattle.members.specs.Names.{Named}
use Rattle.members.specs.Records.{max_records, next_of}
use Rattle.text.specs.Bytes.{Bytes}
use Rattle.text.specs.Table.{Words}

-- The `n` records from `h` on, each found from the one before by `f`.
unfoldable pub walk : (ℕ → ℕ) → ℕ → ℕ → List ℕ
walk f zero h = []
walk f (suc n) h = h ∷ walk f n (f h)

-- The `n` siblings from `first` on.
abbrev pub siblings_of : Words → ℕ → ℕ → List ℕ
siblings_of w n first = walk (next_of w) n first

-- The `n` records of the chain of links from `head` on.
abbrev pub chain_of : Words → ℕ → ℕ → List ℕ
chain_of w n head = walk (link_of w) n head

-- The record behind those of a walk.
unfoldable pub after : (ℕ → ℕ) → ℕ → ℕ → ℕ
after f zero h = h
after f (suc n) h = after f n (f h)

-- The records `l` may be linked, and their names may be read.
abbrev pub Seats : Bytes → Words → List ℕ → Type 0
Seats t w l = (v : ℕ) → In v l → (v < max_records) × Named t w v

-- The records `l`, whose numbers ascend, may be sorted.
pub record Free (t : Bytes) (w : Words) (l : List ℕ) : Type 0 where
  pub rising : Sorted ltb l
  pub seats : Seats t w l

-- The chain `c` has the records `l` in order, and nothing but their links changed from `w` to `u`.
pub record Linked (lt : ℕ → ℕ → Bool) (w : Words) (l : List ℕ) (u : Words) (c : List ℕ) : Type 0 where
  pub same : Same c l
  pub sorted : Sorted lt c
  pub frame : Frame l w u
