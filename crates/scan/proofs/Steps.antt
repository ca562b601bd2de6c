-- What one byte does to the answer, and what the end of the text does.
use Prim.Native.Nat.{◌+◌, ◌<◌, ◌≤◌, suc, ℕ}
use Rattle.scan.specs.Answers.{Judge, at, judging, loose, refused, shut}
use Rattle.std.proofs.lemmas.Bool.{cases_lt}
use Rattle.std.specs.Prelude.{Err, IsErrAnd, Ok, Result}
use Rattle.text.proofs.Demand3.{read}
use Rattle.text.proofs.Machine.{Move, State, move}
use Rattle.text.proofs.Run.{Done, Fault, Judged, Run, Took, done_is, done_one, fault_one, is_done, judge, run, took_fault, took_one}
use Rattle.text.proofs.Way.{initial}
use Rattle.text.specs.Bytes.{Bytes}
use Rattle.text.specs.Ceilings.{Ceilings, Gate}
use Rattle.text.specs.Node.{Node}
use Rattle.text.specs.Verdict.{Outcome}
use borrow.Author.Tests.{ne_eqb}
use lib.Dec.{T, T_not, eqb}
use lib.ListN.{get_or-eq_default, drop, drop_of_length-le, get_or, length}
use lib.Seq.{drop-cons}
use mathlib.Core.Bool.{Bool, false, not, true}
use mathlib.Core.List.{[], ◌∷◌}
use mathlib.Core.Logic.{inl, inr}
use mathlib.Core.Path.{◌∙◌, ◌≡◌, ap, fun_ext, refl, subst, sym}
use native.Mathlib.Numerals.{add-one}

run_one : {C : Ceilings} {s : State} {n : ℕ} {t : Bytes} {a b : Outcome} → Run C s n t a → Run C s n t b → a ≡ b
run_one {C} (Run.ends d) (Run.ends e) = ap Outcome.accepted (done_one C d e)
run_one (Run.ends {v = v} d) (Run.short f) = absurd (f v d)
run_one (Run.short f) (Run.ends {v = v} d) = absurd (f v d)
run_one (Run.short f) (Run.short g) = refl
run_one {C} (Run.on {n = n} {t = t} {a = a} k ρ) (Run.on l σ) = run_one (subst (λ s. Run C s (suc n) t a) (took_one k l) ρ) σ
run_one (Run.on k ρ) (Run.off f) = absurd (took_fault k f)
run_one (Run.off f) (Run.on k ρ) = absurd (took_fault k f)
run_one (Run.off {n = n} f) (Run.off g) = ap (λ k. Outcome.refused k n) (fault_one f g)

-- Where no name is asked for, all judges agree.
open_any : (f : Judge) (g : Gate) → T (shut g) → T (judging f g)
unfolding judging
open_any f (Gate.depth d) p = p
open_any f (Gate.high b) p = p
open_any f (Gate.digits n) p = p
open_any f (Gate.power c n m down e k) p = p
open_any f (Gate.name _ _) p = elim p [ ]

shut_any : (f : Judge) (g : Gate) → T (not (loose g)) → T (not (judging f g))
unfolding judging
shut_any f (Gate.depth d) p = p
shut_any f (Gate.high b) p = p
shut_any f (Gate.digits n) p = p
shut_any f (Gate.power c n m down e k) p = p
shut_any f (Gate.name _ _) p = elim p [ ]

took_any : (f : Judge) {m : Move} {s : State} → Took shut m s → Took (judging f) m s
took_any f Took.go = Took.go
took_any f (Took.ask {g = g} p) = Took.ask (open_any f g p)
took_any f (Took.yes p k) = Took.yes p (took_any f k)
took_any f (Took.no p k) = Took.no p (took_any f k)

fault_any : (f : Judge) {m : Move} {k : ℕ} → Fault loose m k → Fault (judging f) m k
fault_any f Fault.bad = Fault.bad
fault_any f (Fault.ask {g = g} p) = Fault.ask (shut_any f g p)
fault_any f (Fault.yes p k) = Fault.yes p (fault_any f k)
fault_any f (Fault.no p k) = Fault.no p (fault_any f k)

-- The answer is that of any run.
runs : (f : Judge) (t : Bytes) (s : State) (i : ℕ) {a : Outcome} → Run (judging f) s i (drop i t) a → at t s i f ≡ a
unfolding at
runs f t s i ρ = run_one (run (judging f) s i (drop i t)).1 ρ

pub at_start : (t : Bytes) (f : Judge) → read (judging f) t ≡ at t initial 0 f
unfolding read at
at_start t f = refl

module _ (t : Bytes) (s : State) (i : ℕ) where
  next : (f : Judge) {a : Outcome} → i < length t → Run (judging f) s i (get_or t i 0 ∷ drop (suc i) t) a → at t s i f ≡ a
  next f h ρ = runs f t s i (rw (drop-cons t i 0 h) ρ)

  last : (f : Judge) {a : Outcome} → length t ≤ i → Run (judging f) s i [] a → at t s i f ≡ a
  last f h ρ = runs f t s i (rw (drop_of_length-le t h) ρ)

  pub step_by : (f : Judge) {s' : State} → i < length t → Took (judging f) (move s i (get_or t i 0)) s' → at t s i f ≡ at t s' (i + 1) f
  unfolding at
  step_by f {s'} h k = rw (add-one i) (next f h (Run.on k (run (judging f) s' (suc i) (drop (suc i) t)).1))

  pub fail_by : (f : Judge) {k : ℕ} → i < length t → Fault (judging f) (move s i (get_or t i 0)) k → at t s i f ≡ Outcome.refused k i
  fail_by f h e = next f h (Run.off e)

  pub step : {s' : State} → i < length t → Took shut (move s i (get_or t i 0)) s' → at t s i ≡ at t s' (i + 1)
  step h k = fun_ext (λ f. step_by f h (took_any f k))

  pub fail : {k : ℕ} → i < length t → Fault loose (move s i (get_or t i 0)) k → at t s i ≡ refused k i
  fail h e = fun_ext (λ f. fail_by f h (fault_any f e))

  pub short : length t ≤ i → T (not (is_done s)) → at t s i ≡ refused 3 i
  short h q = fun_ext (λ f. last f h (Run.short (λ v d. T_not (is_done s) q (done_is d))))

  pub finish : {v : Node} → length t ≤ i → Done s i v → at t s i ≡ (λ f. Outcome.accepted v)
  finish h d = fun_ext (λ f. last f h (Run.ends d))

-- Two moves that come to the same.
pub data Like : Move → Move → Type 0 where
  like : {m : Move} → Like m m
  left : {c : Bool} {x y m : Move} → T (not c) → Like y m → Like (Move.when c x y) m
  right : {c : Bool} {x y m : Move} → T (not c) → Like m y → Like m (Move.when c x y)
  under : {c : Bool} {x y z : Move} → Like y z → Like (Move.when c x y) (Move.when c x z)

like_took : {C : Ceilings} {m n : Move} {s : State} → Like m n → Took C n s → Took C m s
like_took Like.like k = k
like_took (Like.left p l) k = Took.no p (like_took l k)
like_took (Like.right {c = c} p l) (Took.yes q k) = absurd (T_not c p q)
like_took (Like.right p l) (Took.no q k) = like_took l k
like_took (Like.under l) (Took.yes q k) = Took.yes q k
like_took (Like.under l) (Took.no q k) = Took.no q (like_took l k)

like_fault : {C : Ceilings} {m n : Move} {i : ℕ} → Like m n → Fault C n i → Fault C m i
like_fault Like.like k = k
like_fault (Like.left p l) k = Fault.no p (like_fault l k)
like_fault (Like.right {c = c} p l) (Fault.yes q k) = absurd (T_not c p q)
like_fault (Like.right p l) (Fault.no q k) = like_fault l k
like_fault (Like.under l) (Fault.yes q k) = Fault.yes q k
like_fault (Like.under l) (Fault.no q k) = Fault.no q (like_fault l k)

-- `s` does at the byte that stands there what `s₁` does.
pub alike : (t : Bytes) (s s₁ : State) (i : ℕ) → i < length t → Like (move s i (get_or t i 0)) (move s₁ i (get_or t i 0)) → at t s i ≡ at t s₁ i
alike t s s₁ i h l = fun_ext (λ f. by f (judge (judging f) (move s₁ i (get_or t i 0))))
  where
    by : (f : Judge) → Judged (judging f) (move s₁ i (get_or t i 0)) → at t s i f ≡ at t s₁ i f
    by f (Judged.took s' k) = step_by t s i f h (like_took l k) ∙ sym (step_by t s₁ i f h k)
    by f (Judged.fault n k) = fail_by t s i f h (like_fault l k) ∙ sym (fail_by t s₁ i f h k)

-- An offset is inside the text or behind it; a byte that is not 0 stands inside.
pub data Within (t : Bytes) (i : ℕ) : Type 0 where
  inside : i < length t → Within t i
  behind : length t ≤ i → Within t i

pub within : (t : Bytes) (i : ℕ) → Within t i
within t i = elim (cases_lt i (length t)) [ inl h ↦ Within.inside h | inr h ↦ Within.behind h ]

pub stands : (t : Bytes) (i : ℕ) → (get_or t i 0 ≡ 0 → ⊥) → i < length t
stands t i f = elim (cases_lt i (length t)) [ inl h ↦ h | inr h ↦ absurd (f (get_or-eq_default t 0 h)) ]

-- What a test that a function answers says, either way.
pub holds : (a b : Bool) → a ≡ b → a ≡ true → T b
holds a b e f = rw (← e, f) tt

pub fails : (a b : Bool) → a ≡ b → a ≡ false → T (not b)
fails a b e f = rw (← e, f) tt

pub differs : (a b : ℕ) → (a ≡ b → ⊥) → T (not (eqb a b))
differs a b f = rw (ne_eqb a b f) tt

-- What the exit of a `?` returns.
pub passed_on : {T E : Type 0} (r : Result T E) {e : E} → IsErrAnd r (λ y. y ≡ e) → r ≡ Err e
passed_on (Ok x) p = absurd p
passed_on (Err y) p = ap Err p
