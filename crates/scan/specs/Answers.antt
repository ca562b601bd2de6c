-- The answer to the rest of a text, where a state of the machine stands before the byte `i`, for each way of judging
-- names: the house's, or one that lets every name pass.
use Rattle.std.specs.Prelude.{ℕ, ◌≤◌, ◌<◌, drop, length, Bool, false, true, List, Result, Ok, Err}
use Rattle.scan.specs.Refusals.{number_of, place_of}
use Rattle.scan.specs.declared.refusal.Refusal.{Refusal}
use Rattle.text.proofs.Machine.{State}
use Rattle.text.proofs.Run.{run}
use Rattle.text.specs.Bytes.{Bytes, Units}
use Rattle.text.specs.Ceilings.{Ceilings, Gate, house}
use Rattle.text.specs.Verdict.{Outcome}

-- Whether a name may stand behind the names before it.
abbrev pub Judge : Type 0
Judge = Units → List Units → Bool

-- The house's ceilings, with names judged by `f`.
unfoldable pub judging : Judge → Ceilings
judging f (Gate.name us ns) = f us ns
judging f (Gate.depth d) = house (Gate.depth d)
judging f (Gate.high b) = house (Gate.high b)
judging f (Gate.digits n) = house (Gate.digits n)
judging f (Gate.power c n m down e k) = house (Gate.power c n m down e k)

-- No name passes, and every name does.
abbrev pub shut : Ceilings
shut = judging (λ us ns. false)

abbrev pub loose : Ceilings
loose = judging (λ us ns. true)

unfoldable pub at : Bytes → State → ℕ → Judge → Outcome
at t s i f = (run (judging f) s i (drop i t)).0

-- A refusal, however names are judged.
abbrev pub refused : ℕ → ℕ → Judge → Outcome
refused k p f = Outcome.refused k p

-- A leaf's answer at `i`: the offset behind what was read, or a refusal.
abbrev pub Leaf : Bytes → ℕ → (ℕ → Type 0) → (ℕ → ℕ → Type 0) → Result ℕ Refusal → Type 0
Leaf t i Good Bad (Ok p) = (i < p) × (p ≤ length t) × Good p
Leaf t i Good Bad (Err e) = Bad (number_of e) (place_of e)
