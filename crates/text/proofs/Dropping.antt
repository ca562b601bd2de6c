-- What dropping one ceiling, but not that of digits, changes: a verdict with another number, or none, stays as it is, and
-- a text that this ceiling refused is accepted or refused at a later place. So a reader may judge repeated names behind
-- everything else.
use Prim.Native.Nat.{◌<◌, ◌≤◌, suc, ℕ}
use Rattle.text.proofs.Demand3.{Cause, cause, run_verdict, verdict_run}
use Rattle.text.proofs.Limits.{Limits, limits_without, wider}
use Rattle.text.proofs.Machine.{Move, State}
use Rattle.text.proofs.Run.{Fault, Run, Took, took_fault, took_one}
use Rattle.text.proofs.Way.{took_wide}
use Rattle.text.specs.Bytes.{Bytes}
use Rattle.text.specs.Ceilings.{Ceilings, without}
use Rattle.text.specs.Verdict.{Outcome, Verdict}
use mathlib.Core.Path.{◌≡◌, ap, refl, subst}
use native.Mathlib.Omega.{arith}

-- A run is refused no earlier than where it begins.
pub run_place : {C : Ceilings} {s : State} {n k P : ℕ} {t : Bytes} → Run C s n t (Outcome.refused k P) → n ≤ P
run_place (Run.short u) = omega arith
run_place (Run.on k ρ) = omega (arith, run_place ρ)
run_place (Run.off f) = omega arith

module _ (B : Ceilings) (i : ℕ) where
  -- A refusal with another number stays.
  pub fault_still : {m : Move} {k : ℕ} → ¬ (k ≡ i) → Cause B m k → Fault (without i B) m k
  fault_still n (Cause.none h) = h i
  fault_still n (Cause.gate s t h) = h i n

  both_refuse : {m : Move} {k l : ℕ} → 4 < i → k ≡ i → Cause B m k → Fault (without i B) m l → ⊥
  both_refuse h e (Cause.none f) g = omega arith
  both_refuse {m} h e (Cause.gate s t f) g = took_fault (subst (λ k. Took (without k B) m s) e t) g

  -- The run is the same up to the first byte that this ceiling refuses.
  run_still : {s : State} {n : ℕ} {t : Bytes} {a : Outcome} → ((P : ℕ) → ¬ (a ≡ Outcome.refused i P)) → Run B s n t a → Run (without i B) s n t a
  run_still f (Run.ends d) = Run.ends d
  run_still f (Run.short u) = Run.short u
  run_still f (Run.on k ρ) = Run.on (took_wide (wider i B) k) (run_still f ρ)
  run_still f (Run.off {n = n} {k = k} e) = Run.off (fault_still (λ z. f n (ap (λ k. Outcome.refused k n) z)) (cause e))

  run_later : {s : State} {n j k P Q : ℕ} {t : Bytes} → 4 < i → j ≡ i → Run B s n t (Outcome.refused j P) → Run (without i B) s n t (Outcome.refused k Q) → P < Q
  run_later h e (Run.short u) y = absurd (omega arith)
  run_later h e (Run.on k ρ) (Run.off f) = absurd (took_fault (took_wide (wider i B) k) f)
  run_later h e (Run.on k ρ) (Run.on {n = n} {t = t} {a = a} k' ρ') = run_later h e ρ (subst (λ s. Run (without i B) s (suc n) t a) (took_one k' (took_wide (wider i B) k)) ρ')
  run_later h e (Run.off f) (Run.on k ρ) = omega (arith, run_place ρ)
  run_later h e (Run.off f) (Run.off g) = absurd (both_refuse h e (cause f) g)

-- For any of the ceilings but that of digits.
module _ {B : Ceilings} (limits : Limits B) (i : ℕ) (h : 4 < i) (not-six : ¬ (i ≡ 6)) where
  pub dropping_still : {t : Bytes} {a : Outcome} → ((P : ℕ) → ¬ (a ≡ Outcome.refused i P)) → Verdict B t a → Verdict (without i B) t a
  dropping_still f v = run_verdict (limits_without i not-six limits) (run_still B i f (verdict_run limits v))

  pub dropping_later : {t : Bytes} {k P Q : ℕ} → Verdict B t (Outcome.refused i P) → Verdict (without i B) t (Outcome.refused k Q) → P < Q
  dropping_later v w = run_later B i h refl (verdict_run limits v) (verdict_run (limits_without i not-six limits) w)
