-- The byte behind the bytes `p`, under the house's ceilings: a verdict that refuses it is the machine's fault where it
-- stands behind `p`, and `p` goes on to it exactly where the machine does.
use Prim.Native.Nat.{◌+◌, ◌<◌, suc, ℕ}
use Rattle.text.proofs.Demand3.{at_fault, verdict_run, viable_cut}
use Rattle.text.proofs.Dropping.{run_place}
use Rattle.text.proofs.Fitting.{Fitting}
use Rattle.text.proofs.Limits.{house_limits}
use Rattle.text.proofs.Longest.{parts_at}
use Rattle.text.proofs.Machine.{State, move}
use Rattle.text.proofs.Run.{Fault, Judged, Run, Took, judge}
use Rattle.text.proofs.Way.{Went, fit_start, go_on, initial, not_viable, text_follows, viable_by, went_fit}
use Rattle.text.specs.Bytes.{Bytes}
use Rattle.text.specs.Ceilings.{house}
use Rattle.text.specs.Verdict.{Outcome, Verdict, Viable}
use lib.ListN.{drop, get_or, length, take}
use lib.Seq.{length-take-le}
use mathlib.Core.List.{[], ◌++◌, ◌∷◌}
use mathlib.Core.Path.{◌≡◌, subst₂, sym}
use native.Mathlib.Omega.{arith}

-- The machine went over `p` and stands in `s` before the byte at `j`.
abbrev pub Over : Bytes → State → ℕ → Type 0
Over p s j = Went house initial 0 p s j

-- Behind `p` the machine refuses the byte `b` with the number `k`, or lets it pass.
pub data Refused (p : Bytes) (b k : ℕ) : Type 0 where
  refused : {s : State} {j : ℕ} → Over p s j → Fault house (move s j b) k → Refused p b k

pub data Passed (p : Bytes) (b : ℕ) : Type 0 where
  passed : {s s' : State} {j : ℕ} → Over p s j → Took house (move s j b) s' → Passed p b

-- A run that is refused at the byte behind `p`, taken apart there.
run_parts : {s : State} {n k P : ℕ} (p : Bytes) (b : ℕ) (r : Bytes) → P ≡ n + length p → Run house s n (p ++ (b ∷ r)) (Outcome.refused k P)
    → (s' : State) × (j : ℕ) × Went house s n p s' j × Fault house (move s' j b) k
run_parts {s} {n} [] b r e (Run.off f) = (s, n, Went.none, f)
run_parts [] b r e (Run.on k ρ) = absurd (omega (arith, run_place ρ))
run_parts (c ∷ p) b r e (Run.off f) = absurd (omega arith)
run_parts (c ∷ p) b r e (Run.on k ρ) = let (s, j, w, f) = run_parts p b r (omega arith) ρ in (s, j, Went.step k w, f)

-- A refusal at the byte `b` is the machine's, ...
pub refused_by : (p : Bytes) (b : ℕ) (r : Bytes) {k : ℕ} → Verdict house (p ++ (b ∷ r)) (Outcome.refused k (length p)) → Refused p b k
refused_by p b r v = let (s, j, w, f) = run_parts p b r (omega arith) (verdict_run house_limits v) in Refused.refused w f

-- The same of a text and a place inside it.
pub refused_inside : {t : Bytes} {k P : ℕ} → Verdict house t (Outcome.refused k P) → P < length t → Refused (take P t) (get_or t P 0) k
refused_inside {t} {k} {P} v l =
    refused_by (take P t) (get_or t P 0) (drop (suc P) t) (subst₂ (λ u i. Verdict house u (Outcome.refused k i)) (parts_at P t l) (sym (length-take-le P t (omega arith))) v)

-- ... and the other way round.
pub refusal : {p : Bytes} (b : ℕ) (r : Bytes) {s : State} {j k : ℕ} → Over p s j → Fault house (move s j b) k → Verdict house (p ++ (b ∷ r)) (Outcome.refused k (length p))
refusal {p} b r w f = at_fault house house_limits p b r w f

-- What can go on is gone over, in a state that fits.
pub over : (p : Bytes) → Viable house p → (s : State) × (j : ℕ) × Over p s j
over p (w, v, x) = go_on house house_limits initial 0 p w (text_follows x)

pub fits : {p : Bytes} {s : State} {j : ℕ} → Over p s j → Fitting house s
fits w = went_fit house house_limits (fit_start house house_limits) w

-- A byte more can go on if the machine lets it pass, ...
pub goes_on : {p : Bytes} {s s' : State} {j : ℕ} (b : ℕ) → Over p s j → Took house (move s j b) s' → Viable house (p ++ (b ∷ []))
goes_on b w k = viable_by house house_limits house house_limits.roomy (λ g t. t) b w k

-- ... and only then.
pub stuck : {p : Bytes} {s : State} {j : ℕ} (b : ℕ) {k : ℕ} → Over p s j → Fault house (move s j b) k → ¬ (Viable house (p ++ (b ∷ [])))
stuck b w f = not_viable house house_limits house house_limits.roomy (λ g t. t) b w f

pub passes : (p : Bytes) (b : ℕ) → Viable house (p ++ (b ∷ [])) → Passed p b
passes p b v = let (s, j, w) = over p (viable_cut house p (b ∷ []) v) in by w (judge house (move s j b))
  where
    by : {s : State} {j : ℕ} → Over p s j → Judged house (move s j b) → Passed p b
    by w (Judged.took s k) = Passed.passed w k
    by w (Judged.fault k f) = absurd (stuck b w f v)
