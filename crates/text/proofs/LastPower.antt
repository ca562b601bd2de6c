-- 01's consequences for a number's exponent: a fourth digit is always refused as 7, and besides only a third, exactly
-- where the normal exponent leaves the range.
use Prim.Native.Nat.{◌<◌, ◌≤◌, suc, zero, ℕ}
use Rattle.text.proofs.Awaiting.{Awaits}
use Rattle.text.proofs.Blame.{Refuses, move_refuses}
use Rattle.text.proofs.Digits.{and_digit}
use Rattle.text.proofs.Endings.{Ending, Ends, and_one, count, count_one, ends, power_within}
use Rattle.text.proofs.Fitting.{Fits, Fitting, is_number}
use Rattle.text.proofs.Inside.{Third, third_stands}
use Rattle.text.proofs.LastDigits.{Breaks, Rests, break_after, power_most, rests}
use Rattle.text.proofs.Machine.{Numeral, Stack, State, move, number_move}
use Rattle.text.proofs.Place.{Over, Passed, Refused, fits, goes_on, passes, refusal, refused_by, stuck}
use Rattle.text.proofs.Run.{Fault, Took}
use Rattle.text.proofs.Standing.{Stands, stands}
use Rattle.text.specs.Bytes.{Bytes, from, is_digit}
use Rattle.text.specs.Ceilings.{house, max_power, max_power_digits, number_of, without}
use Rattle.text.specs.Decimal.{Decimal, exponent_of, normal}
use Rattle.text.specs.Node.{Node}
use Rattle.text.specs.Numbers.{Number}
use Rattle.text.specs.Verdict.{Outcome, Verdict}
use lib.Dec.{T, leb, leb→le, le→leb, nltb→le, not_T}
use lib.ListN.{length}
use mathlib.Core.Bool.{Bool, false}
use mathlib.Core.List.{[], ◌++◌, ◌∷◌}
use mathlib.Core.Logic.{◌↔◌, ◌⊎◌, inl, inr}
use mathlib.Core.Path.{◌∙◌, ◌≡◌, ap, refl, subst, sym}
use native.Mathlib.Omega.{arith}

-- In an exponent the state says what stands last.
power_ending : {neg s : Bool} {c n f e k p : ℕ} {st : Stack} {x : Ending} → Stands (State.number (Numeral.power neg c n f s e k) p st) x → x ≡ Ending.power k
power_ending Stands.power = refl

-- Where a digit is refused as 7, and what stands before it.
power_refused : {p : Bytes} {s : State} {j b : ℕ} → Over p s j → Fitting house s → Refuses house s b 7 → T (is_digit b) × Breaks p × (Ends (Ending.power 2) p ⊎ Ends (Ending.power max_power_digits) p)
unfolding move number_move is_number
power_refused {p} {j = j} w (Fitting.number (Fits.power _ _ _ _ a)) (Refuses.power {neg = neg} {c = c} {n = n} {f = f} {s = s} {e = e} {k = k} {p = i} {st = st} t q g) =
    let l = break_after st (Node.number i j (normal neg c n f s e)) j in
    (t, goes_on 0x0a w (Took.no tt l), two_or_three k (nltb→le k 2 q) (power_most a) (subst (λ x. Ends x p) (power_ending (stands w)) (ends p)))
  where
    two_or_three : (k : ℕ) → 2 ≤ k → k ≤ 3 → Ends (Ending.power k) p → Ends (Ending.power 2) p ⊎ Ends (Ending.power max_power_digits) p
    two_or_three zero l m h = absurd (omega arith)
    two_or_three (suc zero) l m h = absurd (omega arith)
    two_or_three (suc (suc zero)) l m h = inl h
    two_or_three (suc (suc (suc zero))) l m h = inr h
    two_or_three (suc (suc (suc (suc k)))) l m h = absurd (omega arith)
power_refused w (Fitting.other q) (Refuses.power t o g) = absurd q
power_refused w (Fitting.number Fits.minus) x8 = elim x8 [ ]
power_refused w (Fitting.number (Fits.zero _)) x11 = elim x11 [ ]
power_refused w (Fitting.number (Fits.whole _ _)) x14 = elim x14 [ ]
power_refused w (Fitting.number (Fits.point _ _)) x15 = elim x15 [ ]
power_refused w (Fitting.number (Fits.fraction _ _ _)) x18 = elim x18 [ ]
power_refused w (Fitting.number (Fits.mark _ _ _)) x19 = elim x19 [ ]
power_refused w (Fitting.number (Fits.sign _ _ _)) x20 = elim x20 [ ]

-- Only a third or a fourth digit of an exponent is refused as 7.
pub only_7 : (p r : Bytes) (b : ℕ) → Verdict house (p ++ (b ∷ r)) (Outcome.refused 7 (length p)) → T (is_digit b) × Breaks p × (Ends (Ending.power 2) p ⊎ Ends (Ending.power max_power_digits) p)
only_7 p r b v = by (refused_by p b r v)
  where
    by : Refused p b 7 → T (is_digit b) × Breaks p × (Ends (Ending.power 2) p ⊎ Ends (Ending.power max_power_digits) p)
    by (Refused.refused {s = s} {j = j} w f) = power_refused w (fits w) (move_refuses s j b f)

-- The machine stands behind `k` digits of an exponent.
data InPower (p : Bytes) (k : ℕ) : Type 0 where
  in_power : {neg s : Bool} {c n f e i j : ℕ} {st : Stack} → Over p (State.number (Numeral.power neg c n f s e k) i st) j → InPower p k

-- So it does where two or more stand last and a line feed may follow.
inside_power : {p : Bytes} (k : ℕ) → 2 ≤ k → Breaks p → Ends (Ending.power k) p → InPower p k
unfolding and_one count
inside_power {p} k l b h = back (passes p 0x0a b)
  where
    at_s : {s : State} {j : ℕ} {x : Ending} → Over p s j → Rests s x → and_one x ≡ Ending.power (suc k) → InPower p k
    at_s {x = x} w (Rests.few f) e = let n : suc (count x) ≡ suc k = sym (count_one x) ∙ ap count e in absurd (omega (arith, leb→le (count x) 1 f))
    at_s w Rests.whole e = let z : ◌≡◌ {A = ℕ} 0 1 = cc in absurd (omega arith)
    at_s w (Rests.fraction f) e = let z : ◌≡◌ {A = ℕ} 0 1 = cc in absurd (omega arith)
    at_s {j = j} w (Rests.power {neg = neg} {s = s} {c = c} {n = n} {f = f} {e = v} {k = m} {p = i} {st = st}) e =
        let z : m ≡ k = cc in InPower.in_power (subst (λ k. Over p (State.number (Numeral.power neg c n f s v k) i st) j) z w)

    back : Passed p 0x0a → InPower p k
    back (Passed.passed {s = s} {j = j} w t) = at_s w (rests s j (stands w) t) (power_within h)

-- A fourth digit is always refused as 7: behind an exponent of three, unless `p` is wrong or ends inside a string.
pub fourth_7 : (p r : Bytes) (d : ℕ) → T (is_digit d) → Ends (Ending.power max_power_digits) p → Verdict house (p ++ (d ∷ r)) (Outcome.refused 7 (length p)) ↔ Breaks p
unfolding move number_move house number_of
fourth_7 p r d t h = (λ v. (only_7 p r d v).1, λ b. back (inside_power max_power_digits (omega arith) b h))
  where
    back : InPower p max_power_digits → Verdict house (p ++ (d ∷ r)) (Outcome.refused 7 (length p))
    back (InPower.in_power w) = refusal d r w (Fault.yes t (Fault.no tt (Fault.ask tt)))

-- A third digit is refused as 7 exactly where it takes the normal exponent out of range: behind a number `s` with two,
-- which stands where a value is due; `x` is what `s` with that digit means if ceiling 7 is dropped.
pub third_7 : (q s r : Bytes) (d : ℕ) {a z : ℕ} {x : Decimal} → Awaits q → Ends (Ending.power 2) s → Number (without 7 house) (from a (s ++ (d ∷ []))) (from z []) x
    → Verdict house ((q ++ s) ++ (d ∷ r)) (Outcome.refused 7 (length (q ++ s))) ↔ (max_power < exponent_of x)
unfolding move number_move house number_of
third_7 q s r d {x = x} a h y = by (third_stands q s d a h y)
  where
    p : Bytes
    p = q ++ s

    by : Third p d x → Verdict house (p ++ (d ∷ r)) (Outcome.refused 7 (length p)) ↔ (max_power < exponent_of x)
    by (Third.third {s = down} {c = c} {n = n} {f = f} {e = e} w t same) = (λ v. there (refused_by p d r v), back)
      where
        g : ℕ
        g = exponent_of (normal false c n f down (and_digit e d))

        there : Refused p d 7 → max_power < exponent_of x
        there (Refused.refused o k) = let l : ¬ (g ≤ max_power) = λ m. stuck d o k (goes_on d w (Took.yes t (Took.no tt (Took.ask (le→leb g max_power m))))) in omega (arith, same)

        back : max_power < exponent_of x → Verdict house (p ++ (d ∷ r)) (Outcome.refused 7 (length p))
        back m = refusal d r w (Fault.yes t (Fault.no tt (Fault.ask (not_T (leb g max_power) λ k. omega (arith, same, leb→le g max_power k)))))
