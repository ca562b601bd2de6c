-- The machine over a number, wherever it stands: it goes on as the grammar reads the number, whatever is open around it.
-- Up to two digits of an exponent the house refuses nothing that it lets pass without ceiling 7.
use Prim.Native.Nat.{◌≤◌, suc, ℕ}
use Rattle.text.proofs.Awaiting.{Awaiting, Awaits, awaits}
use Rattle.text.proofs.Blame.{Refuses, move_refuses}
use Rattle.text.proofs.Decimals.{normal_sign}
use Rattle.text.proofs.Demand3.{cause}
use Rattle.text.proofs.Digits.{and_digit}
use Rattle.text.proofs.Dropping.{fault_still}
use Rattle.text.proofs.Endings.{Ending, Ends, and_one, count, ending, ending_from, next, next_digit, power_within}
use Rattle.text.proofs.Limits.{house_limits, roomy_without, wider}
use Rattle.text.proofs.Machine.{Frame, Numeral, Stack, State, move}
use Rattle.text.proofs.Place.{Over}
use Rattle.text.proofs.Residual.{Leads, NumeralRest}
use Rattle.text.proofs.Run.{Fault, Judged, Took, judge, leads_fault, leads_took}
use Rattle.text.proofs.Standing.{Stands, step_stands}
use Rattle.text.proofs.Step.{number_not, number_starts}
use Rattle.text.proofs.StepNumber.{number_leads}
use Rattle.text.proofs.Way.{Went, took_wide, went_join}
use Rattle.text.specs.Bytes.{Bytes, Source, from, is_digit, value_from}
use Rattle.text.specs.Ceilings.{Ceilings, house, without}
use Rattle.text.specs.Decimal.{Decimal, exponent_of, normal}
use Rattle.text.specs.Node.{Nodes}
use Rattle.text.specs.Numbers.{Digits, Number}
use borrow.Author.Tests.{eqb-false, eqb-true}
use lib.Dec.{T, eqb, nltb→le}
use lib.ListN.{length}
use mathlib.Core.Bool.{Bool, false, true}
use mathlib.Core.List.{[], ◌++◌, ◌∷◌}
use mathlib.Core.Path.{◌≡◌, ap, refl, subst, subst⁻¹}
use native.Mathlib.Omega.{arith}

-- All ceilings but 7.
abbrev Loose : Ceilings
Loose = without 7 house

-- `Ahead s i x`: in the state `s` the bytes `i` are a number that means `x`, or what is left of one.
data Ahead : State → Bytes → Decimal → Type 0 where
  value : {st : Stack} {i : Bytes} {a z : ℕ} {x : Decimal} → Number Loose (from a i) (from z []) x → Ahead (State.value st) i x
  array : {k : ℕ} {st : Stack} {i : Bytes} {a z : ℕ} {x : Decimal} → Number Loose (from a i) (from z []) x → Ahead (State.array k st) i x
  rest : {ns : Numeral} {p : ℕ} {st : Stack} {i : Bytes} {a z : ℕ} {x : Decimal} → NumeralRest Loose ns (from a i) (from z []) x → Ahead (State.number ns p st) i x

ahead : {s : State} {i : Bytes} {a z : ℕ} {x : Decimal} → Awaiting s → Number Loose (from a i) (from z []) x → Ahead s i x
ahead Awaiting.value h = Ahead.value h
ahead Awaiting.array h = Ahead.array h

-- A byte that is left is no end.
more : {a z b : ℕ} {w : Bytes} → from a (b ∷ w) ≡ from z [] → ⊥
more {b = b} {w = w} e = let h : length (b ∷ w) ≡ 0 = ap count e in omega arith
  where
    count : Source → ℕ
    count (from p i) = length i

-- One byte of it leads to the rest.
ahead_leads : (s : State) (n b : ℕ) {w : Bytes} {x : Decimal} → Ahead s (b ∷ w) x → Leads Loose (λ s. Ahead s w x) (move s n b)
unfolding move
ahead_leads s n b {w} {x} (Ahead.value {st = st} {a = a} h) = number_starts Loose (λ s. Ahead s w x) st n a b h (λ _ h. Ahead.rest h)
ahead_leads s n b {w} {x} (Ahead.array {k = k} {st = st} {a = a} h) =
    let (p, q) = number_not Loose h in Leads.no p (Leads.no q (number_starts Loose (λ s. Ahead s w x) (Frame.array k Nodes.nil ∷ st) n a b h (λ _ h. Ahead.rest h)))
ahead_leads s n b {w} {x} (Ahead.rest {ns = ns} {p = p} {st = st} {a = a} h) =
    number_leads Loose (roomy_without 7 house_limits.roomy).sane (λ s. Ahead s w x) p st n ns a b h (λ _ h. Ahead.rest h) (λ e. absurd (more e))

-- Before the bytes `w` that are left of the number:
module _ (w : Bytes) where
  -- The digits of an exponent only add to it, ...
  power_grows : {a z k : ℕ} (p : Bytes) {ds : Bytes} → Digits (from a (p ++ w)) (from z []) ds → k ≤ count (ending_from (Ending.power k) p)
  unfolding ending_from count and_one
  power_grows [] h = omega arith
  power_grows {k = k} (b ∷ p) (Digits.more t h) = subst⁻¹ (λ y. k ≤ count (ending_from y p)) (next_digit (Ending.power k) b t) (omega (arith, power_grows {k = suc k} p h))

  -- ... so none of two digits ends behind a digit that the house refuses as 7, ...
  past_two : {s : State} {b : ℕ} (p : Bytes) {y : Ending} {x : Decimal} → Refuses house s b 7 → Ahead s (b ∷ (p ++ w)) x → Stands s y → ¬ (ending_from (next y b) p ≡ Ending.power 2)
  unfolding count and_one
  past_two p (Refuses.power {k = k} {b = b} t q g) (Ahead.rest (NumeralRest.power (Digits.more _ h) _)) Stands.power e =
      let m : count (ending_from (Ending.power (suc k)) p) ≡ 2 = ap count (subst (λ y. ending_from y p ≡ Ending.power 2) (next_digit (Ending.power k) b t) e) in
      omega (arith, nltb→le k 2 q, power_grows {k = suc k} p h)

  -- ... and up to two digits the house refuses nothing: ...
  not_before : (s : State) (n b k : ℕ) (p : Bytes) {y : Ending} {x : Decimal} → Ahead s (b ∷ (p ++ w)) x → Stands s y → ending_from (next y b) p ≡ Ending.power 2 → ¬ (Fault house (move s n b) k)
  not_before s n b k p h t e f = by (eqb k 7) refl
    where
      by : (c : Bool) → eqb k 7 ≡ c → ⊥
      by true q = past_two p (move_refuses s n b (subst (Fault house (move s n b)) (eqb-true k 7 q) f)) h t e
      by false q = leads_fault Loose (ahead_leads s n b h) (fault_still house 7 (eqb-false k 7 q) (cause f))

  -- ... the machine goes over the number so far.
  data Reached (x : Decimal) (s : State) (n : ℕ) (p : Bytes) : Type 0 where
    reached : {s' : State} {j : ℕ} → Went house s n p s' j → Ahead s' w x → Stands s' (Ending.power 2) → Reached x s n p

  reach : (s : State) (n : ℕ) (p : Bytes) {y : Ending} {x : Decimal} → Ahead s (p ++ w) x → Stands s y → ending_from y p ≡ Ending.power 2 → Reached x s n p
  unfolding ending_from
  reach s n [] h t e = Reached.reached Went.none h (subst (Stands s) e t)
  reach s n (b ∷ p) {y} {x} h t e = by (λ s' h' t'. reach s' (suc n) p h' t' e) (judge house (move s n b))
    where
      on : {s' : State} → Took house (move s n b) s' → Reached x s' (suc n) p → Reached x s n (b ∷ p)
      on k (Reached.reached v r u) = Reached.reached (Went.step k v) r u

      by : ((s' : State) → Ahead s' (p ++ w) x → Stands s' (next y b) → Reached x s' (suc n) p) → Judged house (move s n b) → Reached x s n (b ∷ p)
      by f (Judged.took s' k) = on k (f s' (leads_took Loose (ahead_leads s n b h) (took_wide (wider 7 house) k)) (step_stands s n b t k))
      by f (Judged.fault k g) = absurd (not_before s n b k p h t e g)

-- The machine stands behind two digits of an exponent, and the digit `d` makes the number mean `x`.
pub data Third (p : Bytes) (d : ℕ) (x : Decimal) : Type 0 where
  third : {neg s : Bool} {c n f e i j : ℕ} {st : Stack} → Over p (State.number (Numeral.power neg c n f s e 2) i st) j → T (is_digit d) → exponent_of x ≡ exponent_of (normal false c n f s (and_digit e d)) → Third p d x

third_behind : {q s : Bytes} {s₀ : State} {j d : ℕ} {x : Decimal} → Over q s₀ j → Reached (d ∷ []) x s₀ j s → Third (q ++ s) d x
unfolding value_from
third_behind {d = d} v (Reached.reached w (Ahead.rest (NumeralRest.power (Digits.more t Digits.none) l)) (Stands.power {neg = neg} {s = s} {c = c} {n = n} {f = f} {e = e})) =
    Third.third (went_join v w) t (normal_sign neg c n f s (and_digit e d))
third_behind v (reached w (value _) x14) = elim x14 [ ]
third_behind v (reached w (array _) x15) = elim x15 [ ]
third_behind v (reached w (rest (NumeralRest.minus _ _)) x35) = elim x35 [ ]
third_behind v (reached w (rest (NumeralRest.zero _)) x31) = elim x31 [ ]
third_behind v (reached w (rest (NumeralRest.whole _ _)) x37) = elim x37 [ ]
third_behind v (reached w (rest (NumeralRest.point _ _ _)) x55) = elim x55 [ ]
third_behind v (reached w (rest (NumeralRest.fraction _ _)) x39) = elim x39 [ ]
third_behind v (reached w (rest (NumeralRest.mark _ _ _ _)) x47) = elim x47 [ ]
third_behind v (reached w (rest (NumeralRest.sign _ _ _)) x53) = elim x53 [ ]

-- Two digits of an exponent stand last.
two : (y : Ending) → and_one y ≡ Ending.power 3 → y ≡ Ending.power 2
unfolding and_one
two (Ending.digits n) e = absurd (let z : ◌≡◌ {A = ℕ} 0 1 = cc in omega arith)
two Ending.mark e = absurd (let z : ◌≡◌ {A = ℕ} 1 3 = cc in omega arith)
two (Ending.power n) e = let z : n ≡ 2 = cc in ap Ending.power z

-- So it does behind a number with two, where a value was due.
pub third_stands : (q s : Bytes) (d : ℕ) {a z : ℕ} {x : Decimal} → Awaits q → Ends (Ending.power 2) s → Number (without 7 house) (from a (s ++ (d ∷ []))) (from z []) x → Third (q ++ s) d x
third_stands q s d a h y = let (s₀, j, v, w) = awaits q a in third_behind v (reach (d ∷ []) s₀ j s (ahead w y) (due w) (two (ending s) (power_within h)))
  where
    due : {s : State} → Awaiting s → Stands s (Ending.digits 0)
    due Awaiting.value = Stands.value
    due Awaiting.array = Stands.array
