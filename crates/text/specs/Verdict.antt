-- What the rules say of any bytes: a text, or a refusal with its number and place. 01 "The answer and its numbers".
use Rattle.std.specs.Prelude.{ℕ, suc, ◌≤◌, ◌<◌, length, take, ◌++◌}
use Rattle.text.specs.Bytes.{Bytes}
use Rattle.text.specs.Ceilings.{Ceilings, without}
use Rattle.text.specs.Grammar.{Text}
use Rattle.text.specs.Node.{Node}

-- Some continuation, of any length, makes `p` a text within the ceilings `C`.
abbrev pub Viable : Ceilings → Bytes → Type 0
Viable C p = (w : Bytes) × (v : Node) × Text C (p ++ w) v

-- `n` is the length of the longest beginning of `t` that is `Good`.
abbrev pub Longest : (Bytes → Type 0) → Bytes → ℕ → Type 0
Longest Good t n = (n ≤ length t) × Good (take n t) × ((k : ℕ) → k ≤ length t → Good (take k t) → k ≤ n)

-- A value, or a refusal's number and place.
pub data Outcome : Type 0 where
  accepted : Node → Outcome
  refused : ℕ → ℕ → Outcome

-- Under the ceilings `C`. `over` gives the number of the one ceiling whose dropping lets the byte at `P` pass, and
-- `wrong` is for a byte that none lets pass.
pub data Verdict (C : Ceilings) (t : Bytes) : Outcome → Type 0 where
  text : {v : Node} → Text C t v → Verdict C t (Outcome.accepted v)
  short : Viable C t → ((v : Node) → ¬ (Text C t v)) → Verdict C t (Outcome.refused 3 (length t))
  wrong : {P : ℕ} → P < length t → Longest (Viable C) t P → ((i : ℕ) → ¬ (Viable (without i C) (take (suc P) t))) → Verdict C t (Outcome.refused 4 P)
  over : {P i : ℕ} → P < length t → Longest (Viable C) t P → Viable (without i C) (take (suc P) t) → Verdict C t (Outcome.refused i P)
