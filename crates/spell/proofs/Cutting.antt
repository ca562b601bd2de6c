-- A number inside a text is the same number by itself: what a rule takes, it takes anywhere.
use Prim.Native.Char.{code}
use Prim.Native.Nat.{◌+◌, ◌-◌, ◌≤◌, suc, ℕ}
use Rattle.spell.specs.Scalars.{Numeral}
use Rattle.text.proofs.Takes.{number_takes}
use Rattle.text.specs.Bytes.{Bytes, Source, from}
use Rattle.text.specs.Ceilings.{Ceilings, house}
use Rattle.text.specs.Decimal.{Decimal}
use Rattle.text.specs.Numbers.{Digits, Fraction, Minus, Number, Power, Sign, Whole}
use lib.ListN.{drop, length, length-append, take}
use lib.Seq.{take_at}
use mathlib.Core.Bool.{Bool, false, true}
use mathlib.Core.List.{[], ◌++◌, ◌∷◌, append_assoc, append-nil}
use mathlib.Core.Path.{◌∙◌, ◌≡◌, ap, refl, subst, subst⁻¹, sym}
use native.Mathlib.Omega.{arith}

abbrev Rule : Type 1
Rule = Source → Source → Type 0

abbrev bytes : Source → Bytes
bytes (from p i) = i

-- From `i` to `o` a rule takes some bytes, and it takes them at every place and before every other bytes.
record Anywhere (R : Rule) (i o : Source) : Type 0 where
  taken : Bytes
  here : bytes i ≡ taken ++ bytes o
  there : (p q : ℕ) (r : Bytes) → q ≡ p + length taken → R (from p (taken ++ r)) (from q r)

-- One byte, nothing, and one rule behind another.
data Byte (b : ℕ) : Source → Source → Type 0 where
  byte : {p : ℕ} {o : Bytes} → Byte b (from p (b ∷ o)) (from (suc p) o)

abbrev Then : Rule → Rule → Rule
Then R S i o = (j : Source) × R i j × S j o

one : (b : ℕ) {p : ℕ} {o : Bytes} → Anywhere (Byte b) (from p (b ∷ o)) (from (suc p) o)
one b =
    record { taken = b ∷ []; here = refl; there = λ p q r e. subst⁻¹ (λ q. Byte b (from p (b ∷ r)) (from q r)) (let f : q ≡ suc p = omega arith in f) Byte.byte }

none : {R : Rule} → ((i : Source) → R i i) → (i : Source) → Anywhere R i i
none {R} f i = record { taken = []; here = refl; there = λ p q r e. subst⁻¹ (λ q. R (from p r) (from q r)) (let f : q ≡ p = omega arith in f) (f (from p r)) }

join : {R S : Rule} {i j o : Source} → Anywhere R i j → Anywhere S j o → Anywhere (Then R S) i o
join {R} {S} a b =
    record {
      taken = a.taken ++ b.taken;
      here = a.here ∙ ap (λ l. a.taken ++ l) b.here ∙ sym (append_assoc a.taken b.taken _);
      there = λ p q r e. subst⁻¹ (λ l. Then R S (from p l) (from q r)) (append_assoc a.taken b.taken r) (
        from (p + length a.taken) (b.taken ++ r),
        a.there p (p + length a.taken) (b.taken ++ r) refl,
        b.there (p + length a.taken) q r (omega (arith, length-append a.taken b.taken)),
      );
    }

told : {R S : Rule} {i o : Source} → ((i o : Source) → R i o → S i o) → Anywhere R i o → Anywhere S i o
told f a = record { taken = a.taken; here = a.here; there = λ p q r e. f (from p (a.taken ++ r)) (from q r) (a.there p q r e) }

-- The parts of a number.
minus_anywhere : {i o : Source} {neg : Bool} → Minus i o neg → Anywhere (λ i o. Minus i o neg) i o
minus_anywhere (Minus.none {o = o}) = none (λ i. Minus.none) o
minus_anywhere Minus.minus = told by (one (code "-"))
  where
    by : (i o : Source) → Byte (code "-") i o → Minus i o true
    by _ _ Byte.byte = Minus.minus

digits_anywhere : {i o : Source} {ds : Bytes} → Digits i o ds → Anywhere (λ i o. Digits i o ds) i o
digits_anywhere (Digits.none {o = o}) = none (λ i. Digits.none) o
digits_anywhere (Digits.more {b = b} {ds = ds} t d) = told by (join (one b) (digits_anywhere d))
  where
    by : (i o : Source) → Then (Byte b) (λ i o. Digits i o ds) i o → Digits i o (b ∷ ds)
    by _ _ (_, Byte.byte, d) = Digits.more t d

whole_anywhere : {i o : Source} {ds : Bytes} → Whole i o ds → Anywhere (λ i o. Whole i o ds) i o
whole_anywhere Whole.zero = told by (one (code "0"))
  where
    by : (i o : Source) → Byte (code "0") i o → Whole i o (code "0" ∷ [])
    by _ _ Byte.byte = Whole.zero
whole_anywhere (Whole.nonzero {b = b} {ds = ds} t d) = told by (join (one b) (digits_anywhere d))
  where
    by : (i o : Source) → Then (Byte b) (λ i o. Digits i o ds) i o → Whole i o (b ∷ ds)
    by _ _ (_, Byte.byte, d) = Whole.nonzero t d

fraction_anywhere : {i o : Source} {fs : Bytes} → Fraction i o fs → Anywhere (λ i o. Fraction i o fs) i o
fraction_anywhere (Fraction.none {o = o}) = none (λ i. Fraction.none) o
fraction_anywhere (Fraction.point {b = b} {ds = ds} t d) = told by (join (one (code ".")) (join (one b) (digits_anywhere d)))
  where
    by : (i o : Source) → Then (Byte (code ".")) (Then (Byte b) (λ i o. Digits i o ds)) i o → Fraction i o (b ∷ ds)
    by _ _ (_, Byte.byte, (_, Byte.byte, d)) = Fraction.point t d

sign_anywhere : {i o : Source} {down : Bool} → Sign i o down → Anywhere (λ i o. Sign i o down) i o
sign_anywhere (Sign.none {o = o}) = none (λ i. Sign.none) o
sign_anywhere Sign.plus = told by (one (code "+"))
  where
    by : (i o : Source) → Byte (code "+") i o → Sign i o false
    by _ _ Byte.byte = Sign.plus
sign_anywhere Sign.minus = told by (one (code "-"))
  where
    by : (i o : Source) → Byte (code "-") i o → Sign i o true
    by _ _ Byte.byte = Sign.minus

power_anywhere : {i o : Source} {down : Bool} {es : Bytes} → Power i o down es → Anywhere (λ i o. Power i o down es) i o
power_anywhere (Power.none {o = o}) = none (λ i. Power.none) o
power_anywhere (Power.mark {e = e} {b = b} {ds = ds} {down = down} t s u d) = told by (join (one e) (join (sign_anywhere s) (join (one b) (digits_anywhere d))))
  where
    by : (i o : Source) → Then (Byte e) (Then (λ i o. Sign i o down) (Then (Byte b) (λ i o. Digits i o ds))) i o → Power i o down (b ∷ ds)
    by _ _ (_, Byte.byte, (_, s, (_, Byte.byte, d))) = Power.mark t s u d

number_anywhere : {C : Ceilings} {i o : Source} {x : Decimal} → Number C i o x → Anywhere (λ i o. Number C i o x) i o
number_anywhere (Number.number m w f p a) =
    told (λ _ _ (_, m, (_, w, (_, f, p))). Number.number m w f p a) (join (minus_anywhere m) (join (whole_anywhere w) (join (fraction_anywhere f) (power_anywhere p))))

-- So a number from `p` up to `q` of a text is one by itself.
pub number_cut : (t : Bytes) {p q : ℕ} {x : Decimal} → p ≤ q → q ≤ length t → Number house (from p (drop p t)) (from q (drop q t)) x → Numeral (take (q - p) (drop p t)) x
number_cut t {p} {q} {x} h l n =
    let a = number_anywhere n in
    let k : length a.taken ≡ q - p = omega (arith, number_takes n, ap length a.here, length-append a.taken (drop q t)) in
    let e : take (q - p) (drop p t) ≡ a.taken = ap (take (q - p)) a.here ∙ take_at a.taken (drop q t) (q - p) k in
    subst⁻¹ (λ s. Numeral s x) e (subst (λ s. Number house (from 0 s) (from (length a.taken) []) x) (append-nil a.taken) (a.there 0 (length a.taken) [] (omega arith)))
