-- One byte inside a number or behind a value, both ways.
use Prim.Native.Char.{code}
use Prim.Native.Nat.{◌≤◌, suc, ℕ}
use Rattle.text.proofs.Digits.{and_digit, count_from}
use Rattle.text.proofs.Fitting.{Fits, Sane}
use Rattle.text.proofs.Machine.{Frame, Move, Numeral, Stack, State, after_move, depth_of, names_of, number_move, onto, onto_members, onto_nodes}
use Rattle.text.proofs.Residual.{After, AfterFraction, AfterWhole, Follows, Leads, NumeralRest, Then}
use Rattle.text.proofs.Tests.{byte_at, e_not, space_not}
use Rattle.text.specs.Bytes.{Bytes, Source, from, is_digit, is_e, value_from}
use Rattle.text.specs.Ceilings.{Ceilings, Gate}
use Rattle.text.specs.Decimal.{Decimal, normal}
use Rattle.text.specs.Grammar.{End}
use Rattle.text.specs.Node.{Node}
use Rattle.text.specs.Numbers.{Allowed, Digits, Fraction, Power, Sign, Whole}
use lib.Dec.{T, eqb, ltb, nltb→le}
use mathlib.Core.Bool.{Bool, false, not, true}
use mathlib.Core.List.{[], ◌∷◌}
use mathlib.Core.Path.{◌≡◌, refl, subst⁻¹}
use native.Mathlib.Omega.{arith}
use Rattle.text.specs.Grammar as rule

-- Where a source begins.
abbrev offset : Source → ℕ
offset (from p i) = p

-- Digits only add to a count.
pub count_le : (n : ℕ) (ds : Bytes) → n ≤ count_from n ds
unfolding count_from
count_le n [] = omega arith
count_le n (d ∷ ds) = let h : suc n ≤ count_from (suc n) ds = count_le (suc n) ds in omega arith

module _ (C : Ceilings) where
  decide : {F : State → Type 0} {x y : Move} (c : Bool) → (T c → Leads C F x) → (T (not c) → Leads C F y) → Leads C F (Move.when c x y)
  decide true f g = Leads.yes tt (f tt)
  decide false f g = Leads.no tt (g tt)

  -- A test that neither whitespace nor what closes or parts fails at whatever stands behind a value.
  follow_not : (P : ℕ → Bool) {ι : ℕ} (b : ℕ) {st : Stack} {v r : Node} {w : Bytes} → T (not (P 0x20)) → T (not (P 0x09)) → T (not (P 0x0a)) → T (not (P 0x0d))
      → T (not (P (code ","))) → T (not (P (code "]"))) → T (not (P (code "}"))) → After C st v (from ι (b ∷ w)) r → T (not (P b))
  follow_not P b p q r s x y z (After.top (End.space t _)) = space_not P b t p q r s
  follow_not P b p q r s x y z (After.array (rule.elements_space t _) _) = space_not P b t p q r s
  follow_not P b p q r s x y z (After.array rule.elements_close _) = y
  follow_not P b p q r s x y z (After.array (rule.elements_comma _ _) _) = x
  follow_not P b p q r s x y z (After.object (rule.rest_space t _) _) = space_not P b t p q r s
  follow_not P b p q r s x y z (After.object rule.rest_close _) = z
  follow_not P b p q r s x y z (After.object (rule.rest_comma _) _) = x

  pub forward_after : (st : Stack) (v : Node) (ι b : ℕ) {w : Bytes} {r : Node} → After C st v (from ι (b ∷ w)) r → Then C (after_move st v ι b) (from (suc ι) w) r
  unfolding after_move onto onto_nodes onto_members names_of depth_of
  forward_after st v ι b (After.top (End.space p e)) = Leads.yes p (Leads.go (Follows.after (After.top e)))
  forward_after st v ι b (After.array (rule.elements_space p t) a) = Leads.yes p (Leads.go (Follows.after (After.array t a)))
  forward_after st v ι b (After.array rule.elements_close a) = Leads.no tt (Leads.yes tt (Leads.go (Follows.after a)))
  forward_after st v ι b (After.array (rule.elements_comma x t) a) = Leads.no tt (Leads.no tt (Leads.yes tt (Leads.go (Follows.value x (After.array t a)))))
  forward_after st v ι b (After.object (rule.rest_space p t) a) = Leads.yes p (Leads.go (Follows.after (After.object t a)))
  forward_after st v ι b (After.object rule.rest_close a) = Leads.no tt (Leads.yes tt (Leads.go (Follows.after a)))
  forward_after st v ι b (After.object (rule.rest_comma k) a) = Leads.no tt (Leads.no tt (Leads.yes tt (Leads.go (Follows.member k a))))

  pub backward_after : (st : Stack) (v : Node) (ι b : ℕ) {w : Bytes} {r : Node} → Then C (after_move st v ι b) (from (suc ι) w) r → After C st v (from ι (b ∷ w)) r
  unfolding after_move onto onto_nodes onto_members names_of depth_of
  backward_after [] v ι b (Leads.yes p (Leads.go (Follows.after (After.top e)))) = After.top (End.space p e)
  backward_after (Frame.array κ vs ∷ st) v ι b (Leads.yes p (Leads.go (Follows.after (After.array t a)))) = After.array (rule.elements_space p t) a
  backward_after (Frame.array κ vs ∷ st) v ι b {w} {r} (Leads.no _ (Leads.yes p (Leads.go (Follows.after a)))) = byte_at (code "]") (λ k. After C (Frame.array κ vs ∷ st) v (from ι (k ∷ w)) r) p (After.array rule.elements_close a)
  backward_after (Frame.array κ vs ∷ st) v ι b {w} {r} (Leads.no _ (Leads.no _ (Leads.yes p (Leads.go (Follows.value x (After.array t a)))))) =
      byte_at (code ",") (λ k. After C (Frame.array κ vs ∷ st) v (from ι (k ∷ w)) r) p (After.array (rule.elements_comma x t) a)
  backward_after (Frame.object κ ms q us ∷ st) v ι b (Leads.yes p (Leads.go (Follows.after (After.object t a)))) = After.object (rule.rest_space p t) a
  backward_after (Frame.object κ ms q us ∷ st) v ι b {w} {r} (Leads.no _ (Leads.yes p (Leads.go (Follows.after a)))) = byte_at (code "}") (λ k. After C (Frame.object κ ms q us ∷ st) v (from ι (k ∷ w)) r) p (After.object rule.rest_close a)
  backward_after (Frame.object κ ms q us ∷ st) v ι b {w} {r} (Leads.no _ (Leads.no _ (Leads.yes p (Leads.go (Follows.member x a))))) =
      byte_at (code ",") (λ k. After C (Frame.object κ ms q us ∷ st) v (from ι (k ∷ w)) r) p (After.object (rule.rest_comma x) a)
  backward_after [] v ι b (Leads.no _ x11) = elim x11 [ ]
  backward_after (Frame.array κ vs ∷ st) v ι b (Leads.no _ (Leads.no _ (Leads.no _ x34))) = elim x34 [ ]
  backward_after (Frame.object κ ms q us ∷ st) v ι b (Leads.no _ (Leads.no _ (Leads.no _ x35))) = elim x35 [ ]

  fraction_digits : {neg : Bool} {c n f : ℕ} {i o : Source} {x : Decimal} → AfterFraction C neg c n f i o x → T (C (Gate.digits n))
  fraction_digits (AfterFraction.power e (Allowed.allowed d _)) = d

  module _ (sane : Sane C) where
    whole_digits : {neg : Bool} {c n : ℕ} {i o : Source} {x : Decimal} → AfterWhole C neg c n i o x → T (C (Gate.digits n))
    whole_digits {n = n} (AfterWhole.fraction {fs = fs} _ x) = sane.fewer n (count_from n fs) (count_le n fs) (fraction_digits x)

    up_digits : (n : ℕ) (ds : Bytes) → T (C (Gate.digits (count_from n ds))) → T (C (Gate.digits n))
    up_digits n ds t = sane.fewer n (count_from n ds) (count_le n ds) t

    up_power : (c n f : ℕ) (s : Bool) (e k : ℕ) (ds : Bytes) → T (not (ltb k 2)) → T (C (Gate.power c n f s (value_from e ds) (count_from (suc k) ds))) → T (C (Gate.power c n f s e (suc k)))
    unfolding value_from count_from
    up_power c n f s e k [] q t = t
    up_power c n f s e k (d ∷ ds) q t =
        let two : 2 ≤ k = nltb→le k 2 q in
        let h : suc (suc k) ≤ count_from (suc (suc k)) ds = count_le (suc (suc k)) ds in
        sane.longer c n f s (value_from (and_digit e d) ds) (count_from (suc (suc k)) ds) e (suc k) (omega arith) t

    -- The byte `b` at `j`, in a number that began at `κ` inside the containers `st`: the number goes on with it, or has ended
    -- before it. (Where the rest of the number stands, `ι`, may be another place.)
    module _ (F : State → Type 0) (κ : ℕ) (st : Stack) (j : ℕ) where
      pub number_leads : (ns : Numeral) (ι b : ℕ) {w : Bytes} {o : Source} {x : Decimal} → NumeralRest C ns (from ι (b ∷ w)) o x
          → ((ns' : Numeral) → NumeralRest C ns' (from (suc ι) w) o x → F (State.number ns' κ st))
          → (from ι (b ∷ w) ≡ o → T (not (is_digit b)) × T (not (eqb b (code "."))) × T (not (is_e b)) × Leads C F (after_move st (Node.number κ j x) j b))
          → Leads C F (number_move ns κ st j b)
      unfolding number_move value_from count_from
      number_leads Numeral.minus ι b (NumeralRest.minus (Whole.nonzero p d) y) on off = Leads.yes p (Leads.go (on _ (NumeralRest.whole d y)))
      number_leads Numeral.minus ι b (NumeralRest.minus Whole.zero y) on off = Leads.no tt (Leads.yes tt (Leads.go (on _ (NumeralRest.zero y))))
      number_leads (Numeral.zero neg) ι b (NumeralRest.zero (AfterWhole.fraction (Fraction.point {ds = ds} p d) y)) on off = Leads.yes tt (Leads.ask (up_digits 2 ds (fraction_digits y)) (on _ (NumeralRest.point p d y)))
      number_leads (Numeral.zero neg) ι b (NumeralRest.zero (AfterWhole.fraction Fraction.none (AfterFraction.power (Power.mark p s q d) l))) on off =
          Leads.no (e_not (λ b. eqb b (code ".")) b p tt tt) (Leads.yes p (Leads.go (on _ (NumeralRest.mark s q d l))))
      number_leads (Numeral.zero neg) ι b (NumeralRest.zero (AfterWhole.fraction Fraction.none (AfterFraction.power Power.none l))) on off =
          let (x, y, z, k) = off refl in Leads.no y (Leads.no z k)
      number_leads (Numeral.whole neg c n) ι b (NumeralRest.whole (Digits.more {ds = ds} p d) y) on off = Leads.yes p (Leads.ask (up_digits (suc n) ds (whole_digits y)) (on _ (NumeralRest.whole d y)))
      number_leads (Numeral.whole neg c n) ι b (NumeralRest.whole Digits.none (AfterWhole.fraction (Fraction.point {ds = ds} p d) y)) on off =
          Leads.no tt (Leads.yes tt (Leads.ask (up_digits (suc n) ds (fraction_digits y)) (on _ (NumeralRest.point p d y))))
      number_leads (Numeral.whole neg c n) ι b (NumeralRest.whole Digits.none (AfterWhole.fraction Fraction.none (AfterFraction.power (Power.mark p s q d) l))) on off =
          Leads.no (e_not is_digit b p tt tt) (Leads.no (e_not (λ b. eqb b (code ".")) b p tt tt) (Leads.yes p (Leads.go (on _ (NumeralRest.mark s q d l)))))
      number_leads (Numeral.whole neg c n) ι b (NumeralRest.whole Digits.none (AfterWhole.fraction Fraction.none (AfterFraction.power Power.none l))) on off =
          let (x, y, z, k) = off refl in Leads.no x (Leads.no y (Leads.no z k))
      number_leads (Numeral.point neg c n) ι b (NumeralRest.point p d y) on off = Leads.yes p (Leads.go (on _ (NumeralRest.fraction d y)))
      number_leads (Numeral.fraction neg c n f) ι b (NumeralRest.fraction (Digits.more {ds = ds} p d) y) on off = Leads.yes p (Leads.ask (up_digits (suc n) ds (fraction_digits y)) (on _ (NumeralRest.fraction d y)))
      number_leads (Numeral.fraction neg c n f) ι b (NumeralRest.fraction Digits.none (AfterFraction.power (Power.mark p s q d) l)) on off = Leads.no (e_not is_digit b p tt tt) (Leads.yes p (Leads.go (on _ (NumeralRest.mark s q d l))))
      number_leads (Numeral.fraction neg c n f) ι b (NumeralRest.fraction Digits.none (AfterFraction.power Power.none l)) on off =
          let (x, y, z, k) = off refl in Leads.no x (Leads.no z k)
      number_leads (Numeral.mark neg c n f) ι b (NumeralRest.mark Sign.none q d l) on off = Leads.yes q (Leads.go (on _ (NumeralRest.power d l)))
      number_leads (Numeral.mark neg c n f) ι b (NumeralRest.mark Sign.plus q d l) on off = Leads.no tt (Leads.yes tt (Leads.go (on _ (NumeralRest.sign q d l))))
      number_leads (Numeral.mark neg c n f) ι b (NumeralRest.mark Sign.minus q d l) on off = Leads.no tt (Leads.no tt (Leads.yes tt (Leads.go (on _ (NumeralRest.sign q d l)))))
      number_leads (Numeral.sign neg c n f s) ι b (NumeralRest.sign q d l) on off = Leads.yes q (Leads.go (on _ (NumeralRest.power d l)))
      number_leads (Numeral.power neg c n f s e k) ι b (NumeralRest.power (Digits.more {ds = ds} p d) (Allowed.allowed l g)) on off =
          Leads.yes p (decide (ltb k 2) (λ _. Leads.go (on _ (NumeralRest.power d (Allowed.allowed l g)))) (λ q. Leads.ask (up_power c n f s (and_digit e b) k ds q g) (on _ (NumeralRest.power d (Allowed.allowed l g)))))
      number_leads (Numeral.power neg c n f s e k) ι b (NumeralRest.power Digits.none l) on off = let (x, y, z, k) = off refl in Leads.no x k

    pub forward_number : (ns : Numeral) (κ : ℕ) (st : Stack) (ι b : ℕ) {w o : Bytes} {q : ℕ} {x : Decimal} {r : Node} → NumeralRest C ns (from ι (b ∷ w)) (from q o) x → After C st (Node.number κ q x) (from q o) r → Then C (number_move ns κ st ι b) (from (suc ι) w) r
    forward_number ns κ st ι b {w} {x = x} {r = r} h a =
        number_leads (λ s. Follows C s (from (suc ι) w) r) κ st ι ns ι b h (λ _ h. Follows.number h a) (λ e. by (subst⁻¹ (λ s. After C st (Node.number κ (offset s) x) s r) e a))
      where
        by : After C st (Node.number κ ι x) (from ι (b ∷ w)) r → T (not (is_digit b)) × T (not (eqb b (code "."))) × T (not (is_e b)) × Then C (after_move st (Node.number κ ι x) ι b) (from (suc ι) w) r
        by a = (follow_not is_digit b tt tt tt tt tt tt tt a, follow_not (λ b. eqb b (code ".")) b tt tt tt tt tt tt tt a, follow_not is_e b tt tt tt tt tt tt tt a, forward_after st (Node.number κ ι x) ι b a)

  pub backward_number : (ns : Numeral) (κ : ℕ) (st : Stack) (ι b : ℕ) {w : Bytes} {r : Node} → Fits C ns → Then C (number_move ns κ st ι b) (from (suc ι) w) r → Follows C (State.number ns κ st) (from ι (b ∷ w)) r
  unfolding number_move value_from count_from
  backward_number Numeral.minus κ st ι b φ (Leads.yes p (Leads.go (Follows.number (NumeralRest.whole d y) a))) = Follows.number (NumeralRest.minus (Whole.nonzero p d) y) a
  backward_number Numeral.minus κ st ι b {w} {r} φ (Leads.no _ (Leads.yes p (Leads.go (Follows.number (NumeralRest.zero y) a)))) = byte_at (code "0") (λ k. Follows C (State.number Numeral.minus κ st) (from ι (k ∷ w)) r) p (Follows.number (NumeralRest.minus Whole.zero y) a)
  backward_number (Numeral.zero neg) κ st ι b {w} {r} φ (Leads.yes p (Leads.ask g (Follows.number (NumeralRest.point q d y) a))) =
      byte_at (code ".") (λ k. Follows C (State.number (Numeral.zero neg) κ st) (from ι (k ∷ w)) r) p (Follows.number (NumeralRest.zero (AfterWhole.fraction (Fraction.point q d) y)) a)
  backward_number (Numeral.zero neg) κ st ι b φ (Leads.no _ (Leads.yes p (Leads.go (Follows.number (NumeralRest.mark s q d l) a)))) = Follows.number (NumeralRest.zero (AfterWhole.fraction Fraction.none (AfterFraction.power (Power.mark p s q d) l))) a
  backward_number (Numeral.zero neg) κ st ι b (Fits.zero l) (Leads.no _ (Leads.no _ n)) = Follows.number (NumeralRest.zero (AfterWhole.fraction Fraction.none (AfterFraction.power Power.none l))) (backward_after st (Node.number κ ι (normal neg 0 1 0 false 0)) ι b n)
  backward_number (Numeral.whole neg c n) κ st ι b φ (Leads.yes p (Leads.ask g (Follows.number (NumeralRest.whole d y) a))) = Follows.number (NumeralRest.whole (Digits.more p d) y) a
  backward_number (Numeral.whole neg c n) κ st ι b {w} {r} φ (Leads.no _ (Leads.yes p (Leads.ask g (Follows.number (NumeralRest.point q d y) a)))) =
      byte_at (code ".") (λ k. Follows C (State.number (Numeral.whole neg c n) κ st) (from ι (k ∷ w)) r) p (Follows.number (NumeralRest.whole Digits.none (AfterWhole.fraction (Fraction.point q d) y)) a)
  backward_number (Numeral.whole neg c n) κ st ι b φ (Leads.no _ (Leads.no _ (Leads.yes p (Leads.go (Follows.number (NumeralRest.mark s q d l) a))))) =
      Follows.number (NumeralRest.whole Digits.none (AfterWhole.fraction Fraction.none (AfterFraction.power (Power.mark p s q d) l))) a
  backward_number (Numeral.whole neg c n) κ st ι b (Fits.whole _ l) (Leads.no _ (Leads.no _ (Leads.no _ m))) =
      Follows.number (NumeralRest.whole Digits.none (AfterWhole.fraction Fraction.none (AfterFraction.power Power.none l))) (backward_after st (Node.number κ ι (normal neg c n 0 false 0)) ι b m)
  backward_number (Numeral.point neg c n) κ st ι b φ (Leads.yes p (Leads.go (Follows.number (NumeralRest.fraction d y) a))) = Follows.number (NumeralRest.point p d y) a
  backward_number (Numeral.fraction neg c n f) κ st ι b φ (Leads.yes p (Leads.ask g (Follows.number (NumeralRest.fraction d y) a))) = Follows.number (NumeralRest.fraction (Digits.more p d) y) a
  backward_number (Numeral.fraction neg c n f) κ st ι b φ (Leads.no _ (Leads.yes p (Leads.go (Follows.number (NumeralRest.mark s q d l) a)))) = Follows.number (NumeralRest.fraction Digits.none (AfterFraction.power (Power.mark p s q d) l)) a
  backward_number (Numeral.fraction neg c n f) κ st ι b (Fits.fraction _ _ l) (Leads.no _ (Leads.no _ m)) = Follows.number (NumeralRest.fraction Digits.none (AfterFraction.power Power.none l)) (backward_after st (Node.number κ ι (normal neg c n f false 0)) ι b m)
  backward_number (Numeral.mark neg c n f) κ st ι b φ (Leads.yes p (Leads.go (Follows.number (NumeralRest.power d l) a))) = Follows.number (NumeralRest.mark Sign.none p d l) a
  backward_number (Numeral.mark neg c n f) κ st ι b {w} {r} φ (Leads.no _ (Leads.yes p (Leads.go (Follows.number (NumeralRest.sign q d l) a)))) =
      byte_at (code "+") (λ k. Follows C (State.number (Numeral.mark neg c n f) κ st) (from ι (k ∷ w)) r) p (Follows.number (NumeralRest.mark Sign.plus q d l) a)
  backward_number (Numeral.mark neg c n f) κ st ι b {w} {r} φ (Leads.no _ (Leads.no _ (Leads.yes p (Leads.go (Follows.number (NumeralRest.sign q d l) a))))) =
      byte_at (code "-") (λ k. Follows C (State.number (Numeral.mark neg c n f) κ st) (from ι (k ∷ w)) r) p (Follows.number (NumeralRest.mark Sign.minus q d l) a)
  backward_number (Numeral.sign neg c n f s) κ st ι b φ (Leads.yes p (Leads.go (Follows.number (NumeralRest.power d l) a))) = Follows.number (NumeralRest.sign p d l) a
  backward_number (Numeral.power neg c n f s e k) κ st ι b φ (Leads.yes p (Leads.yes _ (Leads.go (Follows.number (NumeralRest.power d l) a)))) = Follows.number (NumeralRest.power (Digits.more p d) l) a
  backward_number (Numeral.power neg c n f s e k) κ st ι b φ (Leads.yes p (Leads.no _ (Leads.ask g (Follows.number (NumeralRest.power d l) a)))) = Follows.number (NumeralRest.power (Digits.more p d) l) a
  backward_number (Numeral.power neg c n f s e k) κ st ι b (Fits.power _ _ _ _ l) (Leads.no _ m) = Follows.number (NumeralRest.power Digits.none l) (backward_after st (Node.number κ ι (normal neg c n f s e)) ι b m)
  backward_number Numeral.minus κ st ι b φ (Leads.no _ (Leads.no _ n)) = elim n [ ]
  backward_number (Numeral.point neg c n) κ st ι b φ (Leads.no _ m) = elim m [ ]
  backward_number (Numeral.mark neg c n f) κ st ι b φ (Leads.no _ (Leads.no _ (Leads.no _ m))) = elim m [ ]
  backward_number (Numeral.sign neg c n f s) κ st ι b φ (Leads.no _ m) = elim m [ ]
