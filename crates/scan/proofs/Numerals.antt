-- What the parts of a number do to the answer.
use Prim.Native.Char.{code}
use Prim.Native.Nat.{◌+◌, ◌-◌, ◌<◌, ◌≤◌, suc, ℕ}
use Rattle.scan.proofs.Steps.{Like, Within, alike, differs, fail, finish, short, step, within}
use Rattle.scan.specs.Answers.{at, judging, loose, shut}
use Rattle.scan.specs.Numbers.{Refused, Sized, decimal_of}
use Rattle.scan.specs.Numerals.{Onto, Settled, Spoilt, Wanting, behind_fraction, behind_mark, behind_power, behind_sign, first, passes, written_of}
use Rattle.scan.specs.declared.exponent.Mantissa.{Mantissa}
use Rattle.scan.specs.declared.number.Written.{Written}
use Rattle.text.proofs.Digits.{and_digit}
use Rattle.text.proofs.Machine.{Frame, Move, Numeral, Stack, State, after_move, move, number_move, value_move}
use Rattle.text.proofs.Run.{Done, Fault, Took, is_done}
use Rattle.text.proofs.Tests.{and_left, and_right, e_not, le_both, nonzero_most, not_byte}
use Rattle.text.specs.Bytes.{Bytes, is_digit, is_e, is_nonzero}
use Rattle.text.specs.Ceilings.{Gate, house, max_digits, max_power, number_of}
use Rattle.text.specs.Node.{Node}
use borrow.Author.Tests.{eqb-false, eqb-true, le-leb, lt-leb, ne_eqb}
use lib.Dec.{T, T_not, eqb, leb, leb→le, ltb, not_T}
use lib.ListN.{get_or-eq_default, get_or, length}
use mathlib.Core.Bool.{Bool, ◌||◌, false, not, true}
use mathlib.Core.List.{[], ◌∷◌}
use mathlib.Core.Path.{◌∙◌, ◌≡◌, refl, subst⁻¹, sym}
use native.Mathlib.Numerals.{add-one}
use native.Mathlib.Omega.{arith}

pub onto_settled : {t : Bytes} {s s' : Numeral} {i j : ℕ} {w : Written} → i ≤ j → Onto t s i s' j → Settled t s' j w → Settled t s i w
onto_settled h x y = record { onward = omega (arith, y.onward); bound = y.bound; sized = y.sized; same = λ p st. x p st ∙ y.same p st }

pub onto_spoilt : {t : Bytes} {s s' : Numeral} {i j k q : ℕ} → Onto t s i s' j → Spoilt t s' j k q → Spoilt t s i k q
onto_spoilt x y = record { number = y.number; same = λ p st. x p st ∙ y.same p st }

-- The gate of digits.
digits_open : (n : ℕ) → n ≤ max_digits → T (shut (Gate.digits n))
unfolding judging house
digits_open n h = subst⁻¹ T (le-leb n max_digits h) tt

digits_shut : (n : ℕ) → max_digits < n → T (not (loose (Gate.digits n)))
unfolding judging house
digits_shut n h = subst⁻¹ (λ x. T (not x)) (lt-leb n max_digits h) tt

-- A number may end where it stands.
module _ (t : Bytes) where
  settle : (s : Numeral) (w : Written) → w.end ≤ length t → Sized w
      → ((p : ℕ) → Done (State.number s p []) w.end (Node.number p w.end (decimal_of w)))
      → ((p : ℕ) (f : Frame) (st : Stack) → T (not (is_done (State.number s p (f ∷ st)))))
      → ((p : ℕ) (st : Stack) → Like (number_move s p st w.end (get_or t w.end 0)) (after_move st (Node.number p w.end (decimal_of w)) w.end (get_or t w.end 0)))
      → Settled t s w.end w
  unfolding move is_done
  settle s w b z d o l = record { onward = omega arith; bound = b; sized = z; same = λ p st. by p st (within t w.end) }
    where
      by : (p : ℕ) (st : Stack) → Within t w.end → at t (State.number s p st) w.end ≡ at t (State.after st (Node.number p w.end (decimal_of w))) w.end
      by p st (Within.inside h) = alike t (State.number s p st) (State.after st (Node.number p w.end (decimal_of w))) w.end h (l p st)
      by p [] (Within.behind h) = finish t (State.number s p []) w.end h (d p) ∙ sym (finish t (State.after [] (Node.number p w.end (decimal_of w))) w.end h Done.after)
      by p (r ∷ st) (Within.behind h) = short t (State.number s p (r ∷ st)) w.end h (o p r st) ∙ sym (short t (State.after (r ∷ st) (Node.number p w.end (decimal_of w))) w.end h tt)

  settle_zero : (neg : Bool) (i : ℕ) → i ≤ length t → T (not (eqb (get_or t i 0) (code "."))) → T (not (is_e (get_or t i 0)))
      → Settled t (Numeral.zero neg) i (record { negative = neg; coefficient = 0; digits = 1; fraction = 0; down = false; power = 0; end = i })
  unfolding number_move is_done
  settle_zero neg i b q r =
      settle (Numeral.zero neg) (record { negative = neg; coefficient = 0; digits = 1; fraction = 0; down = false; power = 0; end = i }) b
      (record { few = omega arith; part = omega arith; below = omega arith; near = omega arith })
      (λ p. Done.zero) (λ p f st. tt) (λ p st. Like.left q (Like.left r Like.like))

  module _ (m : Mantissa) (i : ℕ) (b : i ≤ length t) (q : T (not (is_digit (get_or t i 0)))) where
    pub settle_fraction : T (not (is_e (get_or t i 0))) → Settled t (behind_fraction m) i (written_of m false 0 i)
    unfolding number_move is_done
    settle_fraction r =
        settle (behind_fraction m) (written_of m false 0 i) b (record { few = m.few; part = m.part; below = m.below; near = omega arith })
        (λ p. Done.fraction) (λ p f st. tt) (λ p st. Like.left q (Like.left r Like.like))

    pub settle_power : (down : Bool) (e k : ℕ) → e ≤ max_power → Settled t (behind_power m down e k) i (written_of m down e i)
    unfolding number_move is_done
    settle_power down e k l =
        settle (behind_power m down e k) (written_of m down e i) b (record { few = m.few; part = m.part; below = m.below; near = l })
        (λ p. Done.power) (λ p f st. tt) (λ p st. Like.left q Like.like)

-- Two parts of numbers that do the same, at a byte or at the end.
module _ (t : Bytes) (i : ℕ) (neg : Bool) where
  -- A zero is a digit, where no digit stands behind it.
  pub zero_whole : T (not (is_digit (get_or t i 0))) → Onto t (Numeral.zero neg) i (Numeral.whole neg 0 1) i
  unfolding move number_move is_done
  zero_whole q p st = by st (within t i)
    where
      by : (st : Stack) → Within t i → at t (State.number (Numeral.zero neg) p st) i ≡ at t (State.number (Numeral.whole neg 0 1) p st) i
      by st (Within.inside h) = alike t (State.number (Numeral.zero neg) p st) (State.number (Numeral.whole neg 0 1) p st) i h (Like.right q Like.like)
      by [] (Within.behind h) = finish t (State.number (Numeral.zero neg) p []) i h Done.zero ∙ sym (finish t (State.number (Numeral.whole neg 0 1) p []) i h Done.whole)
      by (r ∷ st) (Within.behind h) = short t (State.number (Numeral.zero neg) p (r ∷ st)) i h tt ∙ sym (short t (State.number (Numeral.whole neg 0 1) p (r ∷ st)) i h tt)

  -- Where neither digit nor point stands, no digits stand behind the point.
  pub no_point : (c n : ℕ) → T (not (is_digit (get_or t i 0))) → T (not (eqb (get_or t i 0) (code "."))) → Onto t (Numeral.whole neg c n) i (Numeral.fraction neg c n 0) i
  unfolding move number_move is_done
  no_point c n d q p st = by st (within t i)
    where
      by : (st : Stack) → Within t i → at t (State.number (Numeral.whole neg c n) p st) i ≡ at t (State.number (Numeral.fraction neg c n 0) p st) i
      by st (Within.inside h) = alike t (State.number (Numeral.whole neg c n) p st) (State.number (Numeral.fraction neg c n 0) p st) i h (Like.left d (Like.left q (Like.right d Like.like)))
      by [] (Within.behind h) = finish t (State.number (Numeral.whole neg c n) p []) i h Done.whole ∙ sym (finish t (State.number (Numeral.fraction neg c n 0) p []) i h Done.fraction)
      by (r ∷ st) (Within.behind h) = short t (State.number (Numeral.whole neg c n) p (r ∷ st)) i h tt ∙ sym (short t (State.number (Numeral.fraction neg c n 0) p (r ∷ st)) i h tt)

-- Where no sign stands, an exponent goes up.
pub no_sign : (t : Bytes) (i : ℕ) (m : Mantissa) → T (not (eqb (get_or t i 0) (code "+"))) → T (not (eqb (get_or t i 0) (code "-"))) → Onto t (behind_mark m) i (behind_sign m false) i
unfolding move number_move is_done
no_sign t i m q r p st = by (within t i)
  where
    by : Within t i → at t (State.number (behind_mark m) p st) i ≡ at t (State.number (behind_sign m false) p st) i
    by (Within.inside h) = alike t (State.number (behind_mark m) p st) (State.number (behind_sign m false) p st) i h (Like.under (Like.left q (Like.left r Like.like)))
    by (Within.behind h) = short t (State.number (behind_mark m) p st) i h tt ∙ sym (short t (State.number (behind_sign m false) p st) i h tt)

-- The state behind the first digit.
pub first_zero : (b : ℕ) (neg : Bool) → b ≡ code "0" → first neg b ≡ Numeral.zero neg
unfolding first
first_zero b neg e = rw e

pub first_nonzero : (b : ℕ) (neg : Bool) → (b ≡ code "0" → ⊥) → first neg b ≡ Numeral.whole neg (and_digit 0 b) 1
unfolding first
first_nonzero b neg f = rw (ne_eqb b 48 f)

pub digit_bounds : (b : ℕ) → T (is_digit b) → (code "0" ≤ b) × (b - code "0" ≤ 9)
digit_bounds b d =
    let hi : b ≤ 57 = leb→le b 57 (and_right (leb 48 b) (leb b 57) d) in
    (leb→le 48 b (and_left (leb 48 b) (leb b 57) d), omega arith)

nonzero_of : (b : ℕ) → T (is_digit b) → (b ≡ code "0" → ⊥) → T (is_nonzero b)
nonzero_of b d f = let (lo, hi) = digit_bounds b d in le_both 49 b b 57 (omega arith) (omega arith)

data Zero (b : ℕ) : Type 0 where
  is_zero : b ≡ code "0" → Zero b
  not_zero : (b ≡ code "0" → ⊥) → Zero b

zero? : (b : ℕ) → Zero b
zero? b = by (eqb b 48) refl
  where
    by : (c : Bool) → eqb b 48 ≡ c → Zero b
    by true e = Zero.is_zero (eqb-true b 48 e)
    by false e = Zero.not_zero (eqb-false b 48 e)

-- One byte on.
module _ (t : Bytes) (i : ℕ) (h : i < length t) where
  abbrev here : ℕ
  here = get_or t i 0

  module _ (d : T (is_digit here)) where
    pub whole_digit : (neg : Bool) (c n : ℕ) → n < max_digits → Onto t (Numeral.whole neg c n) i (Numeral.whole neg (and_digit c here) (n + 1)) (i + 1)
    unfolding move number_move
    whole_digit neg c n l p st =
        step t (State.number (Numeral.whole neg c n) p st) i h (Took.yes d (rw (add-one n) (Took.ask (digits_open (suc n) (omega arith)))))

    pub whole_many : (neg : Bool) (c n : ℕ) → max_digits ≤ n → Spoilt t (Numeral.whole neg c n) i 6 i
    unfolding move number_move number_of
    whole_many neg c n l = record { number = Refused.digits; same = λ p st. fail t (State.number (Numeral.whole neg c n) p st) i h (Fault.yes d (Fault.ask (digits_shut (suc n) (omega arith)))) }

    pub fraction_digit : (neg : Bool) (c n f : ℕ) → n < max_digits → Onto t (Numeral.fraction neg c n f) i (Numeral.fraction neg (and_digit c here) (n + 1) (f + 1)) (i + 1)
    unfolding move number_move
    fraction_digit neg c n f l p st =
        step t (State.number (Numeral.fraction neg c n f) p st) i h (Took.yes d (rw (add-one n, add-one f) (Took.ask (digits_open (suc n) (omega arith)))))

    pub fraction_many : (neg : Bool) (c n f : ℕ) → max_digits ≤ n → Spoilt t (Numeral.fraction neg c n f) i 6 i
    unfolding move number_move number_of
    fraction_many neg c n f l = record { number = Refused.digits; same = λ p st. fail t (State.number (Numeral.fraction neg c n f) p st) i h (Fault.yes d (Fault.ask (digits_shut (suc n) (omega arith)))) }

    pub point_digit : (neg : Bool) (c n : ℕ) → Onto t (Numeral.point neg c n) i (Numeral.fraction neg (and_digit c here) (n + 1) 1) (i + 1)
    unfolding move number_move
    point_digit neg c n p st = step t (State.number (Numeral.point neg c n) p st) i h (Took.yes d (rw (add-one n) Took.go))

    pub sign_digit : (m : Mantissa) (down : Bool) → Onto t (behind_sign m down) i (behind_power m down (and_digit 0 here) 1) (i + 1)
    unfolding move number_move
    sign_digit m down p st = step t (State.number (behind_sign m down) p st) i h (Took.yes d Took.go)

    module _ (m : Mantissa) (down : Bool) (e k : ℕ) where
      abbrev gate : Gate
      gate = Gate.power m.coefficient m.digits m.fraction down (and_digit e here) (suc k)

      pub power_digit : T (passes m down (and_digit e here) k) → Onto t (behind_power m down e k) i (behind_power m down (and_digit e here) (k + 1)) (i + 1)
      unfolding move number_move passes judging
      power_digit q p st = step t (State.number (behind_power m down e k) p st) i h (Took.yes d (rw (add-one k) (by (ltb k 2) q)))
        where
          on : State
          on = State.number (behind_power m down (and_digit e here) (suc k)) p st

          by : (x : Bool) → T (x || house gate) → Took shut (Move.when x (Move.go on) (Move.ask gate on)) on
          by true q = Took.yes tt Took.go
          by false q = Took.no tt (Took.ask q)

      pub power_many : T (not (passes m down (and_digit e here) k)) → Spoilt t (behind_power m down e k) i 7 i
      unfolding move number_move passes judging number_of
      power_many q = record { number = Refused.power; same = λ p st. fail t (State.number (behind_power m down e k) p st) i h (Fault.yes d (by (State.number (behind_power m down (and_digit e here) (suc k)) p st) (ltb k 2) q)) }
        where
          by : (on : State) (x : Bool) → T (not (x || house gate)) → Fault loose (Move.when x (Move.go on) (Move.ask gate on)) 7
          by on true q = absurd q
          by on false q = Fault.no tt (Fault.ask q)

    pub value_first : (st : Stack) → at t (State.value st) i ≡ at t (State.number (first false here) i st) (i + 1)
    unfolding move value_move
    value_first st = step t (State.value st) i h (by (zero? here))
      where
        by : Zero here → Took shut (value_move st i here) (State.number (first false here) i st)
        by (Zero.is_zero e) = rw (first_zero here false e) (subst⁻¹ (λ b. Took shut (value_move st i b) (State.number (Numeral.zero false) i st)) e (Took.no tt (Took.no tt (Took.yes tt Took.go))))
        by (Zero.not_zero f) = rw (first_nonzero here false f) (Took.yes (nonzero_of here d f) Took.go)

    pub minus_first : Onto t Numeral.minus i (first true here) (i + 1)
    unfolding move number_move
    minus_first p st = step t (State.number Numeral.minus p st) i h (by (zero? here))
      where
        by : Zero here → Took shut (number_move Numeral.minus p st i here) (State.number (first true here) p st)
        by (Zero.is_zero e) = rw (first_zero here true e) (subst⁻¹ (λ b. Took shut (number_move Numeral.minus p st i b) (State.number (Numeral.zero true) p st)) e (Took.no tt (Took.yes tt Took.go)))
        by (Zero.not_zero f) = rw (first_nonzero here true f) (Took.yes (nonzero_of here d f) Took.go)

  pub value_minus : here ≡ code "-" → (st : Stack) → at t (State.value st) i ≡ at t (State.number Numeral.minus i st) (i + 1)
  unfolding move value_move
  value_minus e st = step t (State.value st) i h (subst⁻¹ (λ b. Took shut (value_move st i b) (State.number Numeral.minus i st)) e (Took.no tt (Took.yes tt Took.go)))

  pub whole_point : (neg : Bool) (c n : ℕ) → here ≡ code "." → n < max_digits → Onto t (Numeral.whole neg c n) i (Numeral.point neg c n) (i + 1)
  unfolding move number_move
  whole_point neg c n e l p st =
      step t (State.number (Numeral.whole neg c n) p st) i h (subst⁻¹ (λ b. Took shut (number_move (Numeral.whole neg c n) p st i b) (State.number (Numeral.point neg c n) p st)) e (Took.no tt (Took.yes tt (Took.ask (digits_open (suc n) (omega arith))))))

  pub point_many : (neg : Bool) (c n : ℕ) → here ≡ code "." → max_digits ≤ n → Spoilt t (Numeral.whole neg c n) i 6 i
  unfolding move number_move number_of
  point_many neg c n e l =
      record { number = Refused.digits; same = λ p st. fail t (State.number (Numeral.whole neg c n) p st) i h (subst⁻¹ (λ b. Fault loose (number_move (Numeral.whole neg c n) p st i b) 6) e (Fault.no tt (Fault.yes tt (Fault.ask (digits_shut (suc n) (omega arith)))))) }

  pub fraction_mark : (m : Mantissa) → T (not (is_digit here)) → T (is_e here) → Onto t (behind_fraction m) i (behind_mark m) (i + 1)
  unfolding move number_move
  fraction_mark m q r p st = step t (State.number (behind_fraction m) p st) i h (Took.no q (Took.yes r Took.go))

  pub mark_plus : (m : Mantissa) → here ≡ code "+" → Onto t (behind_mark m) i (behind_sign m false) (i + 1)
  unfolding move number_move
  mark_plus m e p st = step t (State.number (behind_mark m) p st) i h (subst⁻¹ (λ b. Took shut (number_move (behind_mark m) p st i b) (State.number (behind_sign m false) p st)) e (Took.no tt (Took.yes tt Took.go)))

  pub mark_minus : (m : Mantissa) → here ≡ code "-" → Onto t (behind_mark m) i (behind_sign m true) (i + 1)
  unfolding move number_move
  mark_minus m e p st = step t (State.number (behind_mark m) p st) i h (subst⁻¹ (λ b. Took shut (number_move (behind_mark m) p st i b) (State.number (behind_sign m true) p st)) e (Took.no tt (Took.no tt (Took.yes tt Took.go))))

  -- Bytes that cannot stand.
  module _ (d : T (not (is_digit here))) where
    not_nonzero : T (not (is_nonzero here))
    not_nonzero = not_T (is_nonzero here) λ q.
        let lo : 49 ≤ here = leb→le 49 here (and_left (leb 49 here) (leb here 57) q) in
        let hi : here ≤ 57 = nonzero_most here q in
        T_not (is_digit here) d (le_both 48 here here 57 (omega arith) hi)

    not_nought : here ≡ code "0" → ⊥
    not_nought e = T_not (is_digit here) d (subst⁻¹ (λ b. T (is_digit b)) e tt)

    -- Where a digit is wanted.
    pub digit_wrong : (s : Numeral) → Wanting s → Spoilt t s i 4 i
    unfolding move number_move
    digit_wrong s w = record { number = Refused.wrong; same = λ p st. fail t (State.number s p st) i h (by s w p st) }
      where
        by : (s : Numeral) → Wanting s → (p : ℕ) (st : Stack) → Fault loose (number_move s p st i here) 4
        by _ Wanting.minus p st = Fault.no not_nonzero (Fault.no (differs here 48 not_nought) Fault.bad)
        by _ Wanting.point p st = Fault.no d Fault.bad
        by _ Wanting.sign p st = Fault.no d Fault.bad

-- The end of the text inside a number.
module _ (t : Bytes) (i : ℕ) (h : length t ≤ i) where
  pub digit_short : (s : Numeral) → Wanting s → Spoilt t s i 3 i
  unfolding is_done
  digit_short s w = record { number = Refused.short; same = λ p st. short t (State.number s p st) i h (by s w p st) }
    where
      by : (s : Numeral) → Wanting s → (p : ℕ) (st : Stack) → T (not (is_done (State.number s p st)))
      by _ Wanting.minus p st = tt
      by _ Wanting.point p st = tt
      by _ Wanting.sign p st = tt

  -- No digit stands behind the text.
  pub no_digit : T (not (is_digit (get_or t i 0)))
  no_digit = subst⁻¹ (λ b. T (not (is_digit b))) (get_or-eq_default t 0 h) tt

-- A zero with a digit behind it ends there.
pub digit_settles : (t : Bytes) (neg : Bool) (i : ℕ) → i ≤ length t → T (is_digit (get_or t i 0))
    → Settled t (Numeral.zero neg) i (record { negative = neg; coefficient = 0; digits = 1; fraction = 0; down = false; power = 0; end = i })
digit_settles t neg i h d =
    settle_zero t neg i h (not_byte is_digit (get_or t i 0) 46 d tt) (not_T (is_e (get_or t i 0)) (λ e. T_not (is_digit (get_or t i 0)) (e_not is_digit (get_or t i 0) e tt tt) d))
