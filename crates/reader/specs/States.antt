-- The reader's state where the reading has stopped.
use Rattle.std.specs.Prelude.{ℕ, ◌*◌, ◌≤◌, length, Option}
use Rattle.reader.specs.Loop.{Settled, Stopped}
use Rattle.reader.specs.declared.fill.State.{State}
use Rattle.scan.specs.declared.refusal.Refusal.{Refusal}
use Rattle.text.specs.Bytes.{Bytes}
use Rattle.text.specs.Table.{Words, record_words}

abbrev pub stopped_as : State → Option Refusal → Option ℕ → ℕ → ℕ → Option ℕ → State
stopped_as s refusal name count inner first =
    record { depth = s.depth; marks = s.marks; refusal = refusal; count = count; inner = inner; name = name; first = first }

-- So it has stopped, where the table held `w` at entry and `e` is refused, or nothing, whatever the state says of that.
abbrev pub StoppedWith : Bytes → Words → Words → State → Option Refusal → Type 0
StoppedWith t w tab s e = Stopped t w tab s.marks s.depth s.count s.inner s.first e s.name

-- The same of what the state says is refused.
abbrev pub StoppedAs : Bytes → Words → Words → State → Type 0
StoppedAs t w tab s = StoppedWith t w tab s s.refusal

-- What is open can be closed.
pub record Settleable (t : Bytes) (tab : Words) (s : State) : Type 0 where
  pub entry : Words
  pub refusal : Option Refusal
  pub stopped : StoppedWith t entry tab s refusal
  pub room : record_words * length t ≤ length entry

-- It is closed, and `first` is the first repeated name of all objects, if there is one.
abbrev pub SettledAs : Bytes → Words → Words → State → Option ℕ → Type 0
SettledAs t tab tab' s first = (w : Words) (e : Option Refusal) → StoppedWith t w tab s e → record_words * length t ≤ length w → Settled t w tab' s.count first e
