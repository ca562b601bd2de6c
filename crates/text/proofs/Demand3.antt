-- Demand 3: the machine's outcome is the verdict of the rules, no second one fits, and a text has one meaning only. It
-- is proved of all ceilings `B` that leave room for short numbers and fresh names and let at most 18 digits pass
-- (`Limits`), so of the house's and of those without any one but that of digits.
use Prim.Native.Nat.{◌+◌, ◌<◌, ◌≤◌, suc, ℕ}
use Rattle.text.proofs.Limits.{Limits, house_limits, roomy_without, wider}
use Rattle.text.proofs.Longest.{cut_at, longest_at, longest_whole, take_next}
use Rattle.text.proofs.Machine.{Move, State, after_move, close_move, depth_of, hex_state, member_move, move, names_of, number_move, onto, onto_members, onto_nodes, other_move, value_move, word_state}
use Rattle.text.proofs.Run.{Fault, Judged, Run, Took, fault_one, judge, run, took_fault, took_one}
use Rattle.text.proofs.Tests.{neither, or_right}
use Rattle.text.proofs.Way.{Went, accepts, go_on, initial, not_viable, sound, text_follows, viable, viable_by}
use Rattle.text.specs.Bytes.{Bytes}
use Rattle.text.specs.Ceilings.{Ceilings, Gate, among, house, number_of, same, without}
use Rattle.text.specs.Decimal.{exponent_of, normal, scaled, strip, zeros}
use Rattle.text.specs.Grammar.{Text}
use Rattle.text.specs.Node.{Node}
use Rattle.text.specs.Verdict.{Longest, Outcome, Verdict, Viable}
use lib.Dec.{T, eqb, eqb_refl, eqb→eq, not_T}
use lib.ListN.{length, length-append, take}
use mathlib.Core.Bool.{Bool, not}
use mathlib.Core.List.{[], ◌++◌, ◌∷◌, append_assoc}
use mathlib.Core.Logic.{◌↔◌}
use mathlib.Core.Path.{◌∙◌, ◌≡◌, ap, ap₂, refl, subst, subst⁻¹, sym}
use native.Mathlib.Nat.{zero-add}
use native.Mathlib.Omega.{arith}

-- Why a move is refused: no ceiling is to blame, or one that lets it pass when it is dropped, as no other does.
pub data Cause (B : Ceilings) (m : Move) : ℕ → Type 0 where
  none : ((i : ℕ) → Fault (without i B) m 4) → Cause B m 4
  gate : {k : ℕ} (s : State) → Took (without k B) m s → ((i : ℕ) → ¬ (k ≡ i) → Fault (without i B) m k) → Cause B m k

cause_yes : {B : Ceilings} {c : Bool} {x y : Move} {k : ℕ} → T c → Cause B x k → Cause B (Move.when c x y) k
cause_yes p (Cause.none h) = Cause.none (λ i. Fault.yes p (h i))
cause_yes p (Cause.gate s t h) = Cause.gate s (Took.yes p t) (λ i n. Fault.yes p (h i n))

cause_no : {B : Ceilings} {c : Bool} {x y : Move} {k : ℕ} → T (not c) → Cause B y k → Cause B (Move.when c x y) k
cause_no p (Cause.none h) = Cause.none (λ i. Fault.no p (h i))
cause_no p (Cause.gate s t h) = Cause.gate s (Took.no p t) (λ i n. Fault.no p (h i n))

pub cause : {B : Ceilings} {m : Move} {k : ℕ} → Fault B m k → Cause B m k
unfolding without
cause Fault.bad = Cause.none (λ i. Fault.bad)
cause {B} (Fault.ask {g = g} {s = s} t) =
    Cause.gate s (Took.ask (or_right (B g) (eqb (number_of g) (number_of g)) (eqb_refl (number_of g))))
    (λ i n. Fault.ask (neither (B g) (eqb (number_of g) i) t (not_T (eqb (number_of g) i) (λ q. n (eqb→eq (number_of g) i q)))))
cause (Fault.yes p f) = cause_yes p (cause f)
cause (Fault.no p f) = cause_no p (cause f)

-- The numbers of refused moves.
number_range : (g : Gate) → (3 ≤ number_of g) × (number_of g ≤ 9)
unfolding number_of
number_range (Gate.depth d) = omega arith
number_range (Gate.name us ns) = omega arith
number_range (Gate.high b) = omega arith
number_range (Gate.digits n) = omega arith
number_range (Gate.power c n f s e k) = omega arith

fault_range : {B : Ceilings} {m : Move} {k : ℕ} → Fault B m k → (3 ≤ k) × (k ≤ 9)
fault_range Fault.bad = omega arith
fault_range (Fault.ask {g = g} t) = number_range g
fault_range (Fault.yes p f) = fault_range f
fault_range (Fault.no p f) = fault_range f

-- Where and how a run ends.
data Split (B : Ceilings) (s : State) (n : ℕ) : Bytes → Outcome → Type 0 where
  accepted : {t : Bytes} {v : Node} → Split B s n t (Outcome.accepted v)
  short : {s' : State} {t : Bytes} {m : ℕ} → Went B s n t s' m → m ≡ n + length t → Split B s n t (Outcome.refused 3 m)
  off : {s' : State} (p : Bytes) (b : ℕ) (q : Bytes) {k m : ℕ} → Went B s n p s' m → Fault B (move s' m b) k → m ≡ n + length p → Split B s n (p ++ (b ∷ q)) (Outcome.refused k m)

split_on : {B : Ceilings} {s s' : State} {n : ℕ} (b : ℕ) {t : Bytes} {a : Outcome} → Took B (move s n b) s' → Split B s' (suc n) t a → Split B s n (b ∷ t) a
split_on b k Split.accepted = Split.accepted
split_on b k (Split.short {m = m} w e) = Split.short {m = m} (Went.step k w) (omega arith)
split_on b k (Split.off p c q {m = m} w f e) = Split.off (b ∷ p) c q {m = m} (Went.step k w) f (omega arith)

split : {B : Ceilings} {s : State} {n : ℕ} {t : Bytes} {a : Outcome} → Run B s n t a → Split B s n t a
split (Run.ends d) = Split.accepted
split (Run.short {n = n} f) = Split.short {m = n} Went.none (omega arith)
split (Run.on {b = b} k ρ) = split_on b k (split ρ)
split (Run.off {n = n} {b = b} {t = t} f) = Split.off [] b t {m = n} Went.none f (omega arith)

-- A run stops at the first byte that is refused.
run_off : {B : Ceilings} {s s' : State} {n j : ℕ} {p : Bytes} (b : ℕ) (q : Bytes) {k : ℕ} (m : ℕ) {a : Outcome}
    → m ≡ n + length p → Went B s n p s' j → Fault B (move s' j b) k → Run B s n (p ++ (b ∷ q)) a → a ≡ Outcome.refused k m
run_off b q m e Went.none f (Run.on k ρ) = absurd (took_fault k f)
run_off b q m e Went.none f (Run.off {n = n} f') = ap₂ Outcome.refused (fault_one f' f) (let h : n ≡ m = omega arith in h)
run_off {B} b q m e (Went.step {p = p} k w) f (Run.on {n = n} {a = a} k' ρ) =
    run_off b q m (omega arith) w f (subst (λ s. Run B s (suc n) (p ++ (b ∷ q)) a) (took_one k' k) ρ)
run_off b q m e (Went.step k w) f (Run.off f') = absurd (took_fault k f')

-- Beginnings of what is viable are viable.
pub viable_cut : (C : Ceilings) (p q : Bytes) → Viable C (p ++ q) → Viable C p
viable_cut C p q (w, v, x) = (q ++ w, v, subst (λ t. Text C t v) (append_assoc p q w) x)

module _ (B : Ceilings) (limits : Limits B) where
  -- The machine's outcome is what the rules say.
  pub at_fault : (p : Bytes) (b : ℕ) (q : Bytes) {k : ℕ} {s : State} {j : ℕ} → Went B initial 0 p s j → Fault B (move s j b) k → Verdict B (p ++ (b ∷ q)) (Outcome.refused k (length p))
  at_fault p b q {s = s} {j = j} w f = by (cause f)
    where
      inside : length p < length (p ++ (b ∷ q))
      inside = omega (arith, length-append p (b ∷ q))

      longest : Longest (Viable B) (p ++ (b ∷ q)) (length p)
      longest = longest_at (Viable B) (viable_cut B) (p ++ (b ∷ q)) p b q refl (viable B limits w) (not_viable B limits B limits.roomy (λ g t. t) b w f)

      by : {k : ℕ} → Cause B (move s j b) k → Verdict B (p ++ (b ∷ q)) (Outcome.refused k (length p))
      by (Cause.none h) =
          Verdict.wrong inside longest (λ i. subst⁻¹ (λ t. ¬ (Viable (without i B) t)) (take_next p b q) (not_viable B limits (without i B) (roomy_without i limits.roomy) (wider i B) b w (h i)))
      by {k} (Cause.gate s t h) =
          Verdict.over inside longest (subst⁻¹ (Viable (without k B)) (take_next p b q) (viable_by B limits (without k B) (roomy_without k limits.roomy) (wider k B) b w t))

  right_run : {t : Bytes} {a : Outcome} → Run B initial 0 t a → Split B initial 0 t a → Verdict B t a
  right_run ρ Split.accepted = Verdict.text (sound B limits ρ)
  right_run {t} ρ (Split.short w e) =
      subst⁻¹ (λ n. Verdict B t (Outcome.refused 3 n)) (e ∙ zero-add (length t))
      (Verdict.short (viable B limits w) (λ v x. not_both (accepts B limits ρ x)))
    where
      not_both : {n m : ℕ} {v : Node} → Outcome.refused n m ≡ Outcome.accepted v → ⊥
      not_both e = let z : ◌≡◌ {A = ℕ} 0 1 = cc in omega arith
  right_run ρ (Split.off p b q {k} w f e) =
      subst⁻¹ (λ n. Verdict B (p ++ (b ∷ q)) (Outcome.refused k n)) (e ∙ zero-add (length p)) (at_fault p b q w f)

  -- Where the rules place a fault, the machine stops, and the cause tells the number.
  data Stop (p : Bytes) (b : ℕ) (a : Outcome) : Type 0 where
    stop : {s : State} {j k : ℕ} → Went B initial 0 p s j → Cause B (move s j b) k → a ≡ Outcome.refused k (length p) → Stop p b a

  stops : (p : Bytes) (b : ℕ) (q : Bytes) {a : Outcome} → Run B initial 0 (p ++ (b ∷ q)) a → Viable B p → ¬ (Viable B (p ++ (b ∷ []))) → Stop p b a
  stops p b q {a} ρ (w, v, x) nv = by (go_on B limits initial 0 p w (text_follows x))
    where
      at_s : {s : State} {j : ℕ} → Went B initial 0 p s j → Judged B (move s j b) → Stop p b a
      at_s g (Judged.took s' k) = absurd (nv (viable_by B limits B limits.roomy (λ g t. t) b g k))
      at_s g (Judged.fault k f) = Stop.stop g (cause f) (run_off b q (length p) (sym (zero-add (length p))) g f ρ)

      by : (s : State) × (j : ℕ) × Went B initial 0 p s j → Stop p b a
      by (s, j, g) = at_s g (judge B (move s j b))

  -- The same at a place inside a text.
  stops_at : {t : Bytes} (P : ℕ) {a : Outcome} → Run B initial 0 t a → P < length t → Longest (Viable B) t P
      → (b : ℕ) × (take (suc P) t ≡ take P t ++ (b ∷ [])) × (length (take P t) ≡ P) × Stop (take P t) b a
  stops_at {t} P {a} ρ l (_, v, most) =
      let (b, q, e, f, n) = cut_at P t l in
      let bad : ¬ (Viable B (take P t ++ (b ∷ []))) = λ v. let h : suc P ≤ P = most (suc P) l (subst⁻¹ (Viable B) f v) in omega arith in
      (b, f, n, stops (take P t) b q (subst (λ t. Run B initial 0 t a) e ρ) v bad)

  only_short : {t : Bytes} {a : Outcome} → Run B initial 0 t a → Split B initial 0 t a → Viable B t → ((v : Node) → ¬ (Text B t v)) → a ≡ Outcome.refused 3 (length t)
  only_short ρ (Split.accepted {v = v}) vi nt = absurd (nt v (sound B limits ρ))
  only_short {t} ρ (Split.short w e) vi nt = ap (Outcome.refused 3) (e ∙ zero-add (length t))
  only_short ρ (Split.off p b q w f e) (w', v, x) nt =
      absurd (not_viable B limits B limits.roomy (λ g t. t) b w f (viable_cut B (p ++ (b ∷ [])) q (subst (Viable B) (sym (append_assoc p (b ∷ []) q)) (w', v, x))))

  only_wrong : (t : Bytes) {p : Bytes} {b P : ℕ} {a : Outcome} → take (suc P) t ≡ p ++ (b ∷ []) → length p ≡ P → Stop p b a
      → ((i : ℕ) → ¬ (Viable (without i B) (take (suc P) t))) → a ≡ Outcome.refused 4 P
  only_wrong t e l (Stop.stop w (Cause.none h) r) f = r ∙ ap (Outcome.refused 4) l
  only_wrong t {b = b} e l (Stop.stop {k = k} w (Cause.gate s o h) r) f =
      absurd (f k (subst⁻¹ (Viable (without k B)) e (viable_by B limits (without k B) (roomy_without k limits.roomy) (wider k B) b w o)))

  only_over : (t : Bytes) {p : Bytes} {b P : ℕ} (i : ℕ) {a : Outcome} → take (suc P) t ≡ p ++ (b ∷ []) → length p ≡ P → Stop p b a
      → Viable (without i B) (take (suc P) t) → a ≡ Outcome.refused i P
  only_over t {b = b} i e l (Stop.stop w (Cause.none h) r) v =
      absurd (not_viable B limits (without i B) (roomy_without i limits.roomy) (wider i B) b w (h i) (subst (Viable (without i B)) e v))
  only_over t {b = b} i e l (Stop.stop {k = k} w (Cause.gate s o h) r) v =
      let bad : ¬ (k ≡ i) → ⊥ = λ n. not_viable B limits (without i B) (roomy_without i limits.roomy) (wider i B) b w (h i n) (subst (Viable (without i B)) e v) in
      let lo : ¬ (k < i) = λ u. bad (λ z. omega arith) in
      let hi : ¬ (i < k) = λ u. bad (λ z. omega arith) in
      r ∙ ap₂ Outcome.refused (let z : k ≡ i = omega arith in z) l

  only_run : {t : Bytes} {a c : Outcome} → Run B initial 0 t a → Verdict B t c → a ≡ c
  only_run ρ (Verdict.text x) = accepts B limits ρ x
  only_run ρ (Verdict.short vi nt) = only_short ρ (split ρ) vi nt
  only_run {t} ρ (Verdict.wrong {P = P} l most f) = let (b, e, n, s) = stops_at P ρ l most in only_wrong t e n s f
  only_run {t} ρ (Verdict.over {P = P} {i = i} l most v) = let (b, e, n, s) = stops_at P ρ l most in only_over t i e n s v

-- The outcome as a function. Whoever unfolds it can compute with all that it is made of.
unfoldable pub read : Ceilings → Bytes → Outcome
unfolding run judge move value_move other_move after_move number_move member_move close_move word_state hex_state depth_of names_of onto onto_nodes onto_members house without number_of same among exponent_of zeros strip scaled normal
read B t = (run B initial 0 t).0

pub read_right : {B : Ceilings} → Limits B → (t : Bytes) → Verdict B t (read B t)
unfolding read
read_right {B} limits t = let ρ = (run B initial 0 t).1 in right_run B limits ρ (split ρ)

pub read_only : {B : Ceilings} → Limits B → (t : Bytes) {a : Outcome} → Verdict B t a → read B t ≡ a
unfolding read
read_only {B} limits t v = only_run B limits (run B initial 0 t).1 v

-- A run and its verdict.
pub run_verdict : {B : Ceilings} → Limits B → {t : Bytes} {a : Outcome} → Run B initial 0 t a → Verdict B t a
run_verdict {B} limits ρ = right_run B limits ρ (split ρ)

pub verdict_run : {B : Ceilings} → Limits B → {t : Bytes} {a : Outcome} → Verdict B t a → Run B initial 0 t a
unfolding read
verdict_run {B} limits {t} v = subst (Run B initial 0 t) (read_only limits t v) (run B initial 0 t).1

-- Demand 3.
pub demand_3 : {B : Ceilings} → Limits B → (t : Bytes) (a : Outcome) → (a ≡ read B t) ↔ Verdict B t a
demand_3 {B} limits t a = (λ e. subst⁻¹ (Verdict B t) e (read_right limits t), λ v. sym (read_only limits t v))

-- Of every text there is one verdict, and one only.
pub verdict_one : {t : Bytes} {a b : Outcome} → Verdict house t a → Verdict house t b → a ≡ b
verdict_one {t} v w = sym (read_only house_limits t v) ∙ read_only house_limits t w

-- A text has one meaning only.
pub one_meaning : (t : Bytes) {v w : Node} → Text house t v → Text house t w → v ≡ w
one_meaning t x y = same (verdict_one (Verdict.text x) (Verdict.text y))
  where
    same : {v w : Node} → Outcome.accepted v ≡ Outcome.accepted w → v ≡ w
    same e = cc

-- The place of a refusal is the length of the longest viable beginning, ...
pub place_longest : {t : Bytes} {n P : ℕ} → Verdict house t (Outcome.refused n P) → Longest (Viable house) t P
place_longest {t} (Verdict.short vi nt) = longest_whole (Viable house) t vi
place_longest (Verdict.wrong l most f) = most
place_longest (Verdict.over l most v) = most

-- ... and its number is one of 3 to 9.
pub run_range : {C : Ceilings} {t : Bytes} {s : State} {i n P : ℕ} → Run C s i t (Outcome.refused n P) → (3 ≤ n) × (n ≤ 9)
run_range (Run.short f) = omega arith
run_range (Run.on k ρ) = run_range ρ
run_range (Run.off f) = fault_range f

pub number_of_refusal : {t : Bytes} {n P : ℕ} → Verdict house t (Outcome.refused n P) → (3 ≤ n) × (n ≤ 9)
number_of_refusal v = run_range (verdict_run house_limits v)
