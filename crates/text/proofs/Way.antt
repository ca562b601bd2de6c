-- The machine's way over the first bytes of a text, under ceilings `B` with the house's limits: those bytes are viable,
-- and a byte more is exactly when some ceilings let it pass.
use Prim.Native.Nat.{suc, ℕ}
use Rattle.text.proofs.Fitting.{Fitting, is_number}
use Rattle.text.proofs.Limits.{Limits, Roomy, fit_step, fit_wide}
use Rattle.text.proofs.Live.{live}
use Rattle.text.proofs.Machine.{Move, State, depth_of, move}
use Rattle.text.proofs.Residual.{After, Follows}
use Rattle.text.proofs.Run.{Fault, Judged, Run, Took, complete, done_follows, follows_before, follows_behind, follows_fault, judge}
use Rattle.text.specs.Bytes.{Bytes, from}
use Rattle.text.specs.Ceilings.{Ceilings, Gate}
use Rattle.text.specs.Grammar.{Text}
use Rattle.text.specs.Node.{Node}
use Rattle.text.specs.Verdict.{Outcome, Viable}
use lib.Dec.{T}
use mathlib.Core.List.{[], ◌++◌, ◌∷◌, append_assoc}
use mathlib.Core.Path.{◌≡◌, subst, subst⁻¹}

pub text_follows : {C : Ceilings} {t : Bytes} {v : Node} → Text C t v → Follows C (State.value []) (from 0 t) v
unfolding depth_of
text_follows (Text.text x e) = Follows.value x (After.top e)

follows_text : {C : Ceilings} {t : Bytes} {v : Node} → Follows C (State.value []) (from 0 t) v → Text C t v
unfolding depth_of
follows_text (Follows.value x (After.top e)) = Text.text x e

abbrev pub initial : State
initial = State.value []

-- From a state at an offset over some bytes to another.
pub data Went (B : Ceilings) : State → ℕ → Bytes → State → ℕ → Type 0 where
  none : {s : State} {n : ℕ} → Went B s n [] s n
  step : {s s' s'' : State} {n b j : ℕ} {p : Bytes} → Took B (move s n b) s' → Went B s' (suc n) p s'' j → Went B s n (b ∷ p) s'' j

-- Two ways, one behind the other, are one; and one over two parts is two.
pub went_join : {B : Ceilings} {s s' s'' : State} {n j k : ℕ} {p r : Bytes} → Went B s n p s' j → Went B s' j r s'' k → Went B s n (p ++ r) s'' k
went_join Went.none w = w
went_join (Went.step t v) w = Went.step t (went_join v w)

pub went_split : {B : Ceilings} {s s' : State} {n j : ℕ} (p : Bytes) {r : Bytes} → Went B s n (p ++ r) s' j → (t : State) × (i : ℕ) × Went B s n p t i × Went B t i r s' j
went_split {s = s} {n = n} [] w = (s, n, Went.none, w)
went_split (b ∷ p) (Went.step k w) = let (t, i, v, u) = went_split p w in (t, i, Went.step k v, u)

-- What passes does so under looser ceilings.
pub took_wide : {B C : Ceilings} → ((g : Gate) → T (B g) → T (C g)) → {m : Move} {s : State} → Took B m s → Took C m s
took_wide sub Took.go = Took.go
took_wide sub (Took.ask {g = g} t) = Took.ask (sub g t)
took_wide sub (Took.yes p k) = Took.yes p (took_wide sub k)
took_wide sub (Took.no p k) = Took.no p (took_wide sub k)

module _ (B : Ceilings) (limits : Limits B) where
  pub fit_start : Fitting B initial
  unfolding is_number
  fit_start = Fitting.other tt

  -- The states met all fit.
  fit_on : (s : State) (n b : ℕ) {s' : State} → Fitting B s → Took B (move s n b) s' → Fitting B s'
  fit_on s n b φ k = fit_step B limits.roomy B limits (λ g t. t) s n b φ k

  pub went_fit : {s s' : State} {n j : ℕ} {p : Bytes} → Fitting B s → Went B s n p s' j → Fitting B s'
  went_fit φ Went.none = φ
  went_fit {s} φ (Went.step {n = n} {b = b} k q) = went_fit (fit_on s n b φ k) q

  -- What follows under looser ceilings `C`, behind the way and before it.
  module _ (C : Ceilings) (roomy : Roomy C) (sub : (g : Gate) → T (B g) → T (C g)) where
    went_follows : {s s' : State} {n j : ℕ} {p w : Bytes} {r : Node} → Fitting B s → Went B s n p s' j → Follows C s' (from j w) r → Follows C s (from n (p ++ w)) r
    went_follows φ Went.none h = h
    went_follows {s} φ (Went.step {n = n} {b = b} k q) h =
        follows_before C (fit_wide C roomy B limits sub φ) (took_wide sub k) (went_follows (fit_on s n b φ k) q h)

    pub follows_went : {s s' : State} {n j : ℕ} {p w : Bytes} {r : Node} → Went B s n p s' j → Follows C s (from n (p ++ w)) r → Follows C s' (from j w) r
    follows_went Went.none h = h
    follows_went (Went.step k q) h = follows_went q (follows_behind C roomy.sane (took_wide sub k) h)

    -- A byte that the ceilings refuse there ends all hope, ...
    pub not_viable : {s : State} {p : Bytes} {j : ℕ} (b : ℕ) {k : ℕ} → Went B initial 0 p s j → Fault C (move s j b) k → ¬ (Viable C (p ++ (b ∷ [])))
    not_viable {p = p} b q f (w, v, x) =
        follows_fault C roomy.sane f (follows_went q (subst (λ t. Follows C initial (from 0 t) v) (append_assoc p (b ∷ []) w) (text_follows x)))

    -- ... and one that they let pass leaves some.
    pub viable_by : {s s' : State} {p : Bytes} {j : ℕ} (b : ℕ) → Went B initial 0 p s j → Took C (move s j b) s' → Viable C (p ++ (b ∷ []))
    viable_by {s} {s'} {p} {j} b q k =
        let φ : Fitting B s = went_fit fit_start q in
        let (w, r, h) = live C roomy s' (suc j) (fit_step C roomy B limits sub s j b φ k) in
        (w, r, follows_text (subst⁻¹ (λ t. Follows C initial (from 0 t) r) (append_assoc p (b ∷ []) w) (went_follows fit_start q (follows_before C (fit_wide C roomy B limits sub φ) k h))))

  pub viable : {s : State} {p : Bytes} {j : ℕ} → Went B initial 0 p s j → Viable B p
  viable {s} {j = j} q =
      let (w, r, h) = live B limits.roomy s j (went_fit fit_start q) in
      (w, r, follows_text (went_follows B limits.roomy (λ g t. t) fit_start q h))

  -- The machine goes as far as some continuation makes a text.
  pub go_on : (s : State) (n : ℕ) (p w : Bytes) {r : Node} → Follows B s (from n (p ++ w)) r → (s' : State) × (j : ℕ) × Went B s n p s' j
  go_on s n [] w h = (s, n, Went.none)
  go_on s n (b ∷ p) w {r} h = by (λ s' h'. go_on s' (suc n) p w h') (judge B (move s n b))
    where
      by : ((s' : State) → Follows B s' (from (suc n) (p ++ w)) r → (s'' : State) × (j : ℕ) × Went B s' (suc n) p s'' j) → Judged B (move s n b) → (s' : State) × (j : ℕ) × Went B s n (b ∷ p) s' j
      by f (Judged.took s' k) = let (s'', j, q) = f s' (follows_behind B limits.roomy.sane k h) in (s'', j, Went.step k q)
      by f (Judged.fault n e) = absurd (follows_fault B limits.roomy.sane e h)

  -- What the machine accepts is a text.
  sound_from : {s : State} {n : ℕ} {t : Bytes} {v : Node} → Fitting B s → Run B s n t (Outcome.accepted v) → Follows B s (from n t) v
  sound_from φ (Run.ends d) = done_follows B φ d
  sound_from {s} φ (Run.on {n = n} {b = b} k ρ) = follows_before B φ k (sound_from (fit_on s n b φ k) ρ)

  pub sound : {t : Bytes} {v : Node} → Run B initial 0 t (Outcome.accepted v) → Text B t v
  sound ρ = follows_text (sound_from fit_start ρ)

  -- And every text is accepted.
  pub accepts : {t : Bytes} {a : Outcome} {v : Node} → Run B initial 0 t a → Text B t v → a ≡ Outcome.accepted v
  accepts ρ x = complete B limits.roomy.sane ρ (text_follows x)
