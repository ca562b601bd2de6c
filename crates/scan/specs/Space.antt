-- Whitespace, where a state of the machine stays as it is.
use Rattle.std.specs.Prelude.{◌<◌, ◌≤◌, ℕ, get_or, length, false, ◌≡◌}
use Rattle.scan.specs.Answers.{at}
use Rattle.text.proofs.Machine.{Stack, State}
use Rattle.text.specs.Bytes.{Bytes, Units, is_space}
use Rattle.text.specs.Node.{Members, Node}

-- The states that whitespace leaves as they are.
pub data Spaced : State → Type 0 where
  value : {st : Stack} → Spaced (State.value st)
  array : {a : ℕ} {st : Stack} → Spaced (State.array a st)
  object : {a : ℕ} {st : Stack} → Spaced (State.object a st)
  after : {st : Stack} {v : Node} → Spaced (State.after st v)
  member : {a : ℕ} {ms : Members} {st : Stack} → Spaced (State.member a ms st)
  named : {q a : ℕ} {us : Units} {ms : Members} {st : Stack} → Spaced (State.named q us a ms st)

-- From `i` up to `r` stands nothing that such a state sees.
pub record Skipped (t : Bytes) (i r : ℕ) : Type 0 where
  pub onward : i ≤ r
  pub inside : r ≤ length t
  pub same : (s : State) → Spaced s → at t s i ≡ at t s r

-- No whitespace stands at `r`.
abbrev pub Dense : Bytes → ℕ → Type 0
Dense t r = r < length t → is_space (get_or t r 0) ≡ false
