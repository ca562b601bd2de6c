-- 01's consequence for the digits of a number: a point is refused as 6 exactly behind 18 of them.
use Prim.Native.Char.{code}
use Prim.Native.Nat.{◌<◌, ◌≤◌, suc, ℕ}
use Rattle.text.proofs.Blame.{Refuses, move_refuses}
use Rattle.text.proofs.Endings.{Ending, Ends, count, digits_within, ends, few_bare}
use Rattle.text.proofs.Fitting.{Fits, Fitting, is_number}
use Rattle.text.proofs.Limits.{house_limits}
use Rattle.text.proofs.Machine.{Frame, Numeral, Stack, State, after_move, move, number_move}
use Rattle.text.proofs.Place.{Over, Passed, Refused, fits, goes_on, passes, refusal, refused_by}
use Rattle.text.proofs.Run.{Fault, Took, took_fault}
use Rattle.text.proofs.Standing.{Stands, stands}
use Rattle.text.proofs.Tests.{and_left}
use Rattle.text.specs.Bytes.{Bytes}
use Rattle.text.specs.Ceilings.{house, max_digits, max_power, max_power_digits, number_of}
use Rattle.text.specs.Decimal.{exponent_of, normal}
use Rattle.text.specs.Node.{Node}
use Rattle.text.specs.Numbers.{Allowed}
use Rattle.text.specs.Verdict.{Outcome, Verdict, Viable}
use lib.Dec.{T, leb, leb→le, nleb→lt, not_T}
use lib.ListN.{length}
use mathlib.Core.Bool.{Bool, false}
use mathlib.Core.List.{[], ◌++◌, ◌∷◌}
use mathlib.Core.Logic.{◌↔◌}
use mathlib.Core.Path.{◌∙◌, ◌≡◌, ap, refl, subst}
use native.Mathlib.Omega.{arith}

-- A line feed may follow. It stands in no string and no literal, so `p` ends outside them, and a number that it ends in
-- may end there.
abbrev pub Breaks : Bytes → Type 0
Breaks p = Viable house (p ++ (0x0a ∷ []))

-- A line feed passes behind every value.
pub break_after : (st : Stack) (v : Node) (n : ℕ) → Took house (after_move st v n 0x0a) (State.after st v)
unfolding after_move
break_after [] v n = Took.yes tt Took.go
break_after (Frame.array a vs ∷ st) v n = Took.yes tt Took.go
break_after (Frame.object a ms q us ∷ st) v n = Took.yes tt Took.go

-- Where it passes, two digits or more stand last only in a number, and the state counts them.
pub data Rests : State → Ending → Type 0 where
  few : {s : State} {x : Ending} → T (leb (count x) 1) → Rests s x
  whole : {neg : Bool} {c n p : ℕ} {st : Stack} → Rests (State.number (Numeral.whole neg c n) p st) (Ending.digits n)
  fraction : {neg : Bool} {c n f p : ℕ} {st : Stack} → f < n → Rests (State.number (Numeral.fraction neg c n f) p st) (Ending.digits f)
  power : {neg s : Bool} {c n f e k p : ℕ} {st : Stack} → Rests (State.number (Numeral.power neg c n f s e k) p st) (Ending.power k)

pub rests : (s : State) (n : ℕ) {x : Ending} {s' : State} → Stands s x → Took house (move s n 0x0a) s' → Rests s x
unfolding move count
rests s n Stands.minus k = Rests.few tt
rests s n Stands.zero k = Rests.few tt
rests s n (Stands.whole h) k = Rests.whole
rests s n (Stands.point h) k = Rests.few tt
rests s n (Stands.fraction h) k = Rests.fraction h
rests s n Stands.mark k = Rests.few tt
rests s n Stands.sign k = Rests.few tt
rests s n Stands.power k = Rests.power
rests s n Stands.value k = Rests.few tt
rests s n Stands.array k = Rests.few tt
rests s n Stands.object k = Rests.few tt
rests s n {x} (Stands.after h) k = Rests.few (few_bare x h)
rests s n {x} (Stands.literal l h) k = Rests.few (few_bare x h)
rests s n Stands.chars k = absurd (took_fault k (Fault.no tt (Fault.no tt (Fault.no tt (Fault.no tt Fault.bad)))))
rests s n Stands.escape k = absurd (took_fault k (Fault.no tt (Fault.no tt Fault.bad)))
rests s n Stands.hex k = absurd (took_fault k (Fault.no tt Fault.bad))
rests s n Stands.member k = Rests.few tt
rests s n Stands.named k = Rests.few tt

-- What fits the house has at most 18 digits, and at most 3 in its exponent.
digits_most : {c n f : ℕ} {s : Bool} {e k : ℕ} → Allowed house c n f s e k → n ≤ max_digits
digits_most {n = n} (Allowed.allowed d x) = house_limits.few n d

pub power_most : {c n f : ℕ} {s : Bool} {e k : ℕ} → Allowed house c n f s e k → k ≤ max_power_digits
unfolding house
power_most {c} {n} {f} {s} {e} {k} (Allowed.allowed d x) =
    leb→le k max_power_digits (and_left (leb k max_power_digits) (leb (exponent_of (normal false c n f s e)) max_power) x)

-- Where 18 digits stand last and a line feed passes, a point is refused as 6.
point_fault : (s : State) (i : ℕ) {x : Ending} → Rests s x → Fitting house s → max_digits ≤ count x → Fault house (move s i (code ".")) 6
unfolding move number_move count is_number house number_of
point_fault s i {x} (Rests.few h) φ l = absurd (omega (arith, leb→le (count x) 1 h))
point_fault s i (Rests.whole {n = n}) φ l = Fault.no tt (Fault.yes tt (Fault.ask (not_T (leb (suc n) max_digits) λ t. omega (arith, leb→le (suc n) max_digits t))))
point_fault s i (Rests.fraction h) (Fitting.number (Fits.fraction _ _ a)) l = absurd (omega (arith, digits_most a))
point_fault s i Rests.power (Fitting.number (Fits.power _ _ _ _ a)) l = absurd (omega (arith, power_most a))
point_fault s i (Rests.fraction h) (Fitting.other q) l = absurd q
point_fault s i Rests.power (Fitting.other q) l = absurd q

-- In a number's whole part the state says what stands last.
whole_ending : {neg : Bool} {c n p : ℕ} {st : Stack} {x : Ending} → Stands (State.number (Numeral.whole neg c n) p st) x → x ≡ Ending.digits n
whole_ending (Stands.whole h) = refl

-- Where a point is refused as 6, and what stands before it.
point_refused : {p : Bytes} {s : State} {j : ℕ} → Over p s j → Fitting house s → Refuses house s (code ".") 6 → Breaks p × Ends (Ending.digits max_digits) p
unfolding move number_move house is_number
point_refused w φ (Refuses.zero t g) = absurd g
point_refused {p} {j = j} w (Fitting.number (Fits.whole _ a)) (Refuses.whole {neg = neg} {c = c} {n = n} {p = i} {st = st} t g) =
    let k = break_after st (Node.number i j (normal neg c n 0 false 0)) j in
    let e : n ≡ max_digits = omega (arith, digits_most a, nleb→lt (suc n) max_digits g) in
    (goes_on 0x0a w (Took.no tt (Took.no tt (Took.no tt k))), subst (λ x. Ends x p) (whole_ending (stands w) ∙ ap Ending.digits e) (ends p))
point_refused w (Fitting.other q) (Refuses.whole t g) = absurd q
point_refused w φ (Refuses.fraction t) = absurd t

-- `.` is refused as 6 exactly behind 18 digits. (They are all that the number has: an exponent has at most 3, and a
-- fraction has a digit before its point.)
pub point_6 : (p r : Bytes) → Verdict house (p ++ (code "." ∷ r)) (Outcome.refused 6 (length p)) ↔ (Breaks p × Ends (Ending.digits max_digits) p)
point_6 p r = (λ v. there (refused_by p (code ".") r v), λ (b, h). back (passes p 0x0a b) h)
  where
    there : Refused p (code ".") 6 → Breaks p × Ends (Ending.digits max_digits) p
    there (Refused.refused {s = s} {j = j} w f) = point_refused w (fits w) (move_refuses s j (code ".") f)

    back : Passed p 0x0a → Ends (Ending.digits max_digits) p → Verdict house (p ++ (code "." ∷ r)) (Outcome.refused 6 (length p))
    back (Passed.passed {s = s} {j = j} w k) h = refusal (code ".") r w (point_fault s j (rests s j (stands w) k) (fits w) (digits_within h))
