-- Number states stay within the ceilings: a step under looser ceilings than those so far leads to a state that fits
-- those. All that is asked of ceilings is said here once, so that demand 3 holds of others than the house's too.
use Prim.Native.Char.{code}
use Prim.Native.Nat.{◌*◌, ◌+◌, ◌<◌, ◌≤◌, suc, ℕ}
use Rattle.text.proofs.Decimals.{normal_exponent}
use Rattle.text.proofs.Digits.{and_digit}
use Rattle.text.proofs.Fitting.{Fits, Fitting, Sane, is_number}
use Rattle.text.proofs.Fresh.{Fresh, house_fresh, letters}
use Rattle.text.proofs.Machine.{Frame, Left, Move, Numeral, Stack, State, Use, after_move, close_move, hex_state, member_move, move, number_move, onto, other_move, value_move, word_state}
use Rattle.text.proofs.Run.{Took}
use Rattle.text.proofs.Tests.{and_left, and_right, digit_most, either, le_both, or_left, or_right}
use Rattle.text.specs.Bytes.{Bytes, Units, hex_value, is_digit}
use Rattle.text.specs.Ceilings.{Ceilings, Gate, house, max_digits, max_power, max_power_digits, number_of, without}
use Rattle.text.specs.Decimal.{exponent_of, normal}
use Rattle.text.specs.Node.{Literal, Node, Nodes}
use Rattle.text.specs.Numbers.{Allowed}
use lib.Dec.{T, eqb, eqb→eq, leb, leb→le, le→leb, ltb→lt, nltb→le}
use mathlib.Core.Bool.{Bool, ◌&&◌, false, not, true}
use mathlib.Core.List.{[], ◌∷◌}
use mathlib.Core.Path.{◌≡◌, sym}
use native.Mathlib.Omega.{arith}

-- Ceilings with room: one digit may stand, few digits with a short exponent may, names are never used up.
pub record Roomy (C : Ceilings) : Type 0 where
  pub one : T (C (Gate.digits 1))
  pub short : (c n f : ℕ) (s : Bool) (e k : ℕ) → n ≤ suc max_digits → f ≤ n → e ≤ 99 → k ≤ max_power_digits → T (C (Gate.power c n f s e k))
  pub fresh : Fresh C
  pub sane : Sane C

-- Ceilings with room that let no more digits pass than the house's.
pub record Limits (B : Ceilings) : Type 0 where
  pub roomy : Roomy B
  pub few : (n : ℕ) → T (B (Gate.digits n)) → n ≤ max_digits

-- With few digits and a short exponent the range of exponents is far.
house_short : (c n f : ℕ) (s : Bool) (e k : ℕ) → n ≤ suc max_digits → f ≤ n → e ≤ 99 → k ≤ max_power_digits → T (house (Gate.power c n f s e k))
unfolding house
house_short c n f s e k h₁ h₂ h₃ h₄ = le_both k max_power_digits (exponent_of (normal false c n f s e)) max_power h₄ (omega (arith, normal_exponent false c n f s e))

pub house_limits : Limits house
unfolding house
house_limits = record {
  roomy = record {
    one = tt;
    short = house_short;
    fresh = house_fresh;
    sane = record {
      fewer = λ n m h t. let k : m ≤ max_digits = leb→le m max_digits t in le→leb n max_digits (omega arith);
      longer = λ c n f s e k e' k' h t.
          let l : k ≤ max_power_digits = leb→le k max_power_digits (and_left (leb k max_power_digits) (leb (exponent_of (normal false c n f s e)) max_power) t) in absurd (omega arith);
    };
  };
  few = λ n t. leb→le n max_digits t;
}

-- What passes the ceilings passes them with one dropped.
pub wider : (i : ℕ) (C : Ceilings) (g : Gate) → T (C g) → T (without i C g)
unfolding without
wider i C g t = or_left (C g) (eqb (number_of g) i) t

pub roomy_without : (i : ℕ) {C : Ceilings} → Roomy C → Roomy (without i C)
unfolding without number_of
roomy_without i {C} r = record {
  one = wider i C (Gate.digits 1) r.one;
  short = λ c n f s e k h₁ h₂ h₃ h₄. wider i C (Gate.power c n f s e k) (r.short c n f s e k h₁ h₂ h₃ h₄);
  fresh = λ us ns. let (n, t) = r.fresh us ns in (n, wider i C (Gate.name (onto us (letters n)) ns) t);
  sane = record {
    fewer = λ n m h t. either (C (Gate.digits m)) (eqb 6 i) (λ u. or_left (C (Gate.digits n)) (eqb 6 i) (r.sane.fewer n m h u)) (λ u. or_right (C (Gate.digits n)) (eqb 6 i) u) t;
    longer = λ c n f s e k e' k' h t. either (C (Gate.power c n f s e k)) (eqb 7 i)
        (λ u. or_left (C (Gate.power c n f s e' k')) (eqb 7 i) (r.sane.longer c n f s e k e' k' h u)) (λ u. or_right (C (Gate.power c n f s e' k')) (eqb 7 i) u) t;
  };
}

-- So a reader under all ceilings but one, that of digits apart, is judged by the same theorem.
pub limits_without : (i : ℕ) {B : Ceilings} → ¬ (i ≡ 6) → Limits B → Limits (without i B)
unfolding without number_of
limits_without i {B} h b = record {
  roomy = roomy_without i b.roomy;
  few = λ n t. either (B (Gate.digits n)) (eqb 6 i) (λ u. b.few n u) (λ u. absurd (h (sym (eqb→eq 6 i u)))) t;
}

-- Moves that lead to no number.
plain_move : Move → Bool
plain_move Move.bad = true
plain_move (Move.go s) = not (is_number s)
plain_move (Move.ask g s) = not (is_number s)
plain_move (Move.when c x y) = plain_move x && plain_move y

module _ (C : Ceilings) where
  plain : {m : Move} {s : State} → T (plain_move m) → Took C m s → Fitting C s
  unfolding plain_move
  plain t Took.go = Fitting.other t
  plain t (Took.ask _) = Fitting.other t
  plain t (Took.yes {x = x} {y = y} _ k) = plain (and_left (plain_move x) (plain_move y) t) k
  plain t (Took.no {x = x} {y = y} _ k) = plain (and_right (plain_move x) (plain_move y) t) k

  fit_after : (st : Stack) (v : Node) (ι b : ℕ) {s : State} → Took C (after_move st v ι b) s → Fitting C s
  unfolding after_move plain_move is_number
  fit_after [] v ι b k = plain tt k
  fit_after (Frame.array κ vs ∷ st) v ι b k = plain tt k
  fit_after (Frame.object κ ms q us ∷ st) v ι b k = plain tt k

  fit_close : (u : Use) (us : Units) (ι : ℕ) {s : State} → Took C (close_move u us ι) s → Fitting C s
  unfolding close_move plain_move is_number
  fit_close (Use.value κ st) us ι k = plain tt k
  fit_close (Use.name q κ ms st) us ι k = plain tt k

  fit_word : (ks : Bytes) (v : Literal) (κ : ℕ) (st : Stack) (ι : ℕ) → Fitting C (word_state ks v κ st ι)
  unfolding word_state is_number
  fit_word [] v κ st ι = Fitting.other tt
  fit_word (k ∷ ks) v κ st ι = Fitting.other tt

  fit_hex : (l : Left) (a : ℕ) (u : Use) (us : Units) → Fitting C (hex_state l a u us)
  unfolding hex_state is_number
  fit_hex Left.last a u us = Fitting.other tt
  fit_hex (Left.more l) a u us = Fitting.other tt

  module _ (roomy : Roomy C) where
    pub some : (c n f : ℕ) (s : Bool) (e k : ℕ) → T (C (Gate.digits n)) → n ≤ suc max_digits → f ≤ n → e ≤ 99 → k ≤ max_power_digits → Allowed C c n f s e k
    some c n f s e k d h₁ h₂ h₃ h₄ = Allowed.allowed d (roomy.short c n f s e k h₁ h₂ h₃ h₄)

    fit_value : (st : Stack) (ι b : ℕ) {s : State} → Took C (value_move st ι b) s → Fitting C s
    unfolding value_move other_move plain_move is_number
    fit_value st ι b (Took.yes p Took.go) = Fitting.number (Fits.whole {n = 1} (omega arith) (some (and_digit 0 b) 1 0 false 0 0 roomy.one (omega arith) (omega arith) (omega arith) (omega arith)))
    fit_value st ι b (Took.no _ (Took.yes _ Took.go)) = Fitting.number Fits.minus
    fit_value st ι b (Took.no _ (Took.no _ (Took.yes _ Took.go))) = Fitting.number (Fits.zero (some 0 1 0 false 0 0 roomy.one (omega arith) (omega arith) (omega arith) (omega arith)))
    fit_value st ι b (Took.no _ (Took.no _ (Took.no _ k))) = plain tt k

    digit_le : (a b : ℕ) → T (is_digit b) → and_digit a b ≤ 10 * a + 9
    digit_le a b t = let h : b ≤ code "9" = digit_most b t in omega arith

    module _ (B : Ceilings) (limits : Limits B) (sub : (g : Gate) → T (B g) → T (C g)) where
      fit_number : (ns : Numeral) (κ : ℕ) (st : Stack) (ι b : ℕ) {s : State} → Fits B ns → Took C (number_move ns κ st ι b) s → Fitting C s
      unfolding number_move
      fit_number Numeral.minus κ st ι b φ (Took.yes p Took.go) = Fitting.number (Fits.whole {n = 1} (omega arith) (some (and_digit 0 b) 1 0 false 0 0 roomy.one (omega arith) (omega arith) (omega arith) (omega arith)))
      fit_number Numeral.minus κ st ι b φ (Took.no _ (Took.yes _ Took.go)) = Fitting.number (Fits.zero (some 0 1 0 false 0 0 roomy.one (omega arith) (omega arith) (omega arith) (omega arith)))
      fit_number (Numeral.zero neg) κ st ι b φ (Took.yes _ (Took.ask g)) = Fitting.number (Fits.point {n = 1} (omega arith) g)
      fit_number (Numeral.zero neg) κ st ι b φ (Took.no _ (Took.yes _ Took.go)) = Fitting.number (Fits.mark {n = 1} {f = 0} (omega arith) (omega arith) roomy.one)
      fit_number (Numeral.zero neg) κ st ι b φ (Took.no _ (Took.no _ k)) = fit_after st (Node.number κ ι (normal neg 0 1 0 false 0)) ι b k
      fit_number (Numeral.whole neg c n) κ st ι b (Fits.whole h (Allowed.allowed d x)) (Took.yes p (Took.ask g)) =
          let l : n ≤ max_digits = limits.few n d in
          Fitting.number (Fits.whole {n = suc n} (omega arith) (some (and_digit c b) (suc n) 0 false 0 0 g (omega arith) (omega arith) (omega arith) (omega arith)))
      fit_number (Numeral.whole neg c n) κ st ι b (Fits.whole h (Allowed.allowed d x)) (Took.no _ (Took.yes _ (Took.ask g))) = Fitting.number (Fits.point (limits.few n d) g)
      fit_number (Numeral.whole neg c n) κ st ι b (Fits.whole h (Allowed.allowed d x)) (Took.no _ (Took.no _ (Took.yes _ Took.go))) = Fitting.number (Fits.mark {n = n} {f = 0} h (omega arith) (sub (Gate.digits n) d))
      fit_number (Numeral.whole neg c n) κ st ι b φ (Took.no _ (Took.no _ (Took.no _ k))) = fit_after st (Node.number κ ι (normal neg c n 0 false 0)) ι b k
      fit_number (Numeral.point neg c n) κ st ι b (Fits.point h d) (Took.yes p Took.go) =
          Fitting.number (Fits.fraction {n = suc n} {f = 1} (omega arith) (omega arith) (some (and_digit c b) (suc n) 1 false 0 0 (sub (Gate.digits (suc n)) d) (omega arith) (omega arith) (omega arith) (omega arith)))
      fit_number (Numeral.fraction neg c n f) κ st ι b (Fits.fraction h h₂ (Allowed.allowed d x)) (Took.yes p (Took.ask g)) =
          let l : n ≤ max_digits = limits.few n d in
          Fitting.number (Fits.fraction {n = suc n} {f = suc f} (omega arith) (omega arith) (some (and_digit c b) (suc n) (suc f) false 0 0 g (omega arith) (omega arith) (omega arith) (omega arith)))
      fit_number (Numeral.fraction neg c n f) κ st ι b (Fits.fraction h h₂ (Allowed.allowed d x)) (Took.no _ (Took.yes _ Took.go)) = Fitting.number (Fits.mark h h₂ (sub (Gate.digits n) d))
      fit_number (Numeral.fraction neg c n f) κ st ι b φ (Took.no _ (Took.no _ k)) = fit_after st (Node.number κ ι (normal neg c n f false 0)) ι b k
      fit_number (Numeral.mark neg c n f) κ st ι b (Fits.mark h h₂ d) (Took.yes p Took.go) =
          let q : and_digit 0 b ≤ 10 * 0 + 9 = digit_le 0 b p in
          Fitting.number (Fits.power {e = and_digit 0 b} {k = 1} h h₂ (omega arith) (λ _. q) (some c n f false (and_digit 0 b) 1 (sub (Gate.digits n) d) h h₂ (omega arith) (omega arith)))
      fit_number (Numeral.mark neg c n f) κ st ι b (Fits.mark h h₂ d) (Took.no _ (Took.yes _ Took.go)) = Fitting.number (Fits.sign h h₂ (sub (Gate.digits n) d))
      fit_number (Numeral.mark neg c n f) κ st ι b (Fits.mark h h₂ d) (Took.no _ (Took.no _ (Took.yes _ Took.go))) = Fitting.number (Fits.sign h h₂ (sub (Gate.digits n) d))
      fit_number (Numeral.sign neg c n f s) κ st ι b (Fits.sign h h₂ d) (Took.yes p Took.go) =
          let q : and_digit 0 b ≤ 10 * 0 + 9 = digit_le 0 b p in
          Fitting.number (Fits.power {e = and_digit 0 b} {k = 1} h h₂ (omega arith) (λ _. q) (some c n f s (and_digit 0 b) 1 (sub (Gate.digits n) d) h h₂ (omega arith) (omega arith)))
      fit_number (Numeral.power neg c n f s e k) κ st ι b (Fits.power h h₂ h₃ h₄ (Allowed.allowed d x)) (Took.yes p (Took.yes q Took.go)) =
          let two : k < 2 = ltb→lt k 2 q in
          let nine : e ≤ 9 = h₄ two in
          let u : and_digit e b ≤ 10 * e + 9 = digit_le e b p in
          Fitting.number (Fits.power {e = and_digit e b} {k = suc k} h h₂ (omega arith) (λ z. omega arith) (some c n f s (and_digit e b) (suc k) (sub (Gate.digits n) d) h h₂ (omega arith) (omega arith)))
      fit_number (Numeral.power neg c n f s e k) κ st ι b (Fits.power h h₂ h₃ h₄ (Allowed.allowed d x)) (Took.yes p (Took.no q (Took.ask g))) =
          let two : 2 ≤ k = nltb→le k 2 q in
          Fitting.number (Fits.power {e = and_digit e b} {k = suc k} h h₂ (omega arith) (λ z. omega arith) (Allowed.allowed (sub (Gate.digits n) d) g))
      fit_number (Numeral.power neg c n f s e k) κ st ι b φ (Took.no _ l) = fit_after st (Node.number κ ι (normal neg c n f s e)) ι b l
      fit_number Numeral.minus κ st ι b φ (Took.no _ (Took.no _ k)) = elim k [ ]
      fit_number (Numeral.point neg c n) κ st ι b (Fits.point h d) (Took.no _ l) = elim l [ ]
      fit_number (Numeral.mark neg c n f) κ st ι b (Fits.mark h h₂ d) (Took.no _ (Took.no _ (Took.no _ k))) = elim k [ ]
      fit_number (Numeral.sign neg c n f s) κ st ι b (Fits.sign h h₂ d) (Took.no _ l) = elim l [ ]

      -- One step.
      pub fit_step : (s : State) (ι b : ℕ) {s' : State} → Fitting B s → Took C (move s ι b) s' → Fitting C s'
      unfolding move member_move plain_move is_number
      fit_step (State.number ns κ st) ι b (Fitting.number φ) k = fit_number ns κ st ι b φ k
      fit_step (State.number ns κ st) ι b (Fitting.other q) k = absurd q
      fit_step (State.value st) ι b φ k = fit_value st ι b k
      fit_step (State.array κ st) ι b φ (Took.yes _ Took.go) = Fitting.other tt
      fit_step (State.array κ st) ι b φ (Took.no _ (Took.yes _ Took.go)) = Fitting.other tt
      fit_step (State.array κ st) ι b φ (Took.no _ (Took.no _ k)) = fit_value (Frame.array κ Nodes.nil ∷ st) ι b k
      fit_step (State.object κ st) ι b φ k = plain tt k
      fit_step (State.after st v) ι b φ k = fit_after st v ι b k
      fit_step (State.literal c ks v κ st) ι b φ (Took.yes _ Took.go) = fit_word ks v κ st ι
      fit_step (State.chars u us) ι b φ (Took.yes _ Took.go) = Fitting.other tt
      fit_step (State.chars u us) ι b φ (Took.no _ (Took.yes _ (Took.ask _))) = Fitting.other tt
      fit_step (State.chars u us) ι b φ (Took.no _ (Took.no _ (Took.yes _ k))) = fit_close u (onto us []) ι k
      fit_step (State.chars u us) ι b φ (Took.no _ (Took.no _ (Took.no _ (Took.yes _ Took.go)))) = Fitting.other tt
      fit_step (State.escape u us) ι b φ k = plain tt k
      fit_step (State.hex l a u us) ι b φ (Took.yes _ Took.go) = fit_hex l (16 * a + hex_value b) u us
      fit_step (State.member κ ms st) ι b φ k = plain tt k
      fit_step (State.named q us κ ms st) ι b φ k = plain tt k
      fit_step (State.literal c ks v κ st) ι b φ (Took.no _ x13) = elim x13 [ ]
      fit_step (State.chars u us) ι b φ (Took.no _ (Took.no _ (Took.no _ (Took.no _ x50)))) = elim x50 [ ]
      fit_step (State.hex l a u us) ι b φ (Took.no _ x15) = elim x15 [ ]

      -- What fits ceilings fits looser ones.
      allowed_wide : {c n f : ℕ} {s : Bool} {e k : ℕ} → Allowed B c n f s e k → Allowed C c n f s e k
      allowed_wide {c} {n} {f} {s} {e} {k} (Allowed.allowed d x) = Allowed.allowed (sub (Gate.digits n) d) (sub (Gate.power c n f s e k) x)

      fits_wide : (ns : Numeral) → Fits B ns → Fits C ns
      fits_wide ns Fits.minus = Fits.minus
      fits_wide ns (Fits.zero l) = Fits.zero (allowed_wide l)
      fits_wide ns (Fits.whole h l) = Fits.whole h (allowed_wide l)
      fits_wide ns (Fits.point {n = n} h d) = Fits.point h (sub (Gate.digits (suc n)) d)
      fits_wide ns (Fits.fraction h h₂ l) = Fits.fraction h h₂ (allowed_wide l)
      fits_wide ns (Fits.mark {n = n} h h₂ d) = Fits.mark h h₂ (sub (Gate.digits n) d)
      fits_wide ns (Fits.sign {n = n} h h₂ d) = Fits.sign h h₂ (sub (Gate.digits n) d)
      fits_wide ns (Fits.power h h₂ h₃ h₄ l) = Fits.power h h₂ h₃ h₄ (allowed_wide l)

      pub fit_wide : {s : State} → Fitting B s → Fitting C s
      fit_wide (Fitting.other q) = Fitting.other q
      fit_wide (Fitting.number {ns = ns} φ) = Fitting.number (fits_wide ns φ)
