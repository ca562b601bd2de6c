-- A number that is written is read back.
use Prim.Native.Char.{code}
use Prim.Native.Nat.{◌%◌, ◌*◌, ◌+◌, ◌-◌, ◌/◌, ◌<◌, ◌^◌, ◌≤◌, suc, zero, ℕ}
use Rattle.meaning.proofs.Keeps.{Normal}
use Rattle.meaning.specs.Canonical.{put_digits, put_number, put_power, put_sign}
use Rattle.text.proofs.Decimals.{strip_none, zeros_none}
use Rattle.text.proofs.Tests.{and_left, and_right, both, le_both}
use Rattle.text.specs.Bytes.{Bytes, from, is_digit, is_nonzero, value_from}
use Rattle.text.specs.Ceilings.{house, max_digits, max_power, max_power_digits}
use Rattle.text.specs.Decimal.{Decimal, exponent_of, normal, scaled}
use Rattle.text.specs.Numbers.{Allowed, Digits, Fraction, Minus, Number, Power, Sign, Whole}
use borrow.Author.Tests.{le-leb, lt-leb, ltb-false, ltb-true, ne_eqb}
use lib.Dec.{T, leb, leb→le, le→leb, ltb}
use lib.ListN.{length, length-append}
use mathlib.Core.Bool.{Bool, false, true}
use mathlib.Core.List.{[], ◌++◌, ◌∷◌, append-nil}
use mathlib.Core.Path.{◌∙◌, ◌≡◌, ap, ap₂, refl, subst, subst⁻¹}
use native.Mathlib.Omega.{arith}

-- The bytes `i` begin with the digits `ds` at any place, and leave `o`.
abbrev Run : Bytes → Bytes → Bytes → Type 0
Run i o ds = (p : ℕ) → (q : ℕ) × Digits (from p i) (from q o) ds

-- What is written for `c` in front of the digits `ds`: a nonzero digit and any others.
record Written (n c : ℕ) (i o ds : Bytes) : Type 0 where
  first : ℕ
  behind : Bytes
  others : Bytes
  bytes_are : put_digits n c i ≡ first ∷ behind
  first_nonzero : T (is_nonzero first)
  others_read : Run behind o others
  value_is : value_from 0 (first ∷ others) ≡ value_from c ds
  count_most : suc (length others) ≤ n + length ds

-- The digit of a number below ten.
digit_of : (n : ℕ) → n < 10 → T (is_digit (code "0" + n))
digit_of n l = le_both (code "0") (code "0" + n) (code "0" + n) (code "9") (omega arith) (omega arith)

nonzero_of : (n : ℕ) → n < 10 → 0 < n → T (is_nonzero (code "0" + n))
nonzero_of n l h = le_both (code "1") (code "0" + n) (code "0" + n) (code "9") (omega arith) (omega arith)

pub nonzero_digit : (b : ℕ) → T (is_nonzero b) → T (is_digit b)
nonzero_digit b t =
    let l : code "1" ≤ b = leb→le (code "1") b (and_left (leb (code "1") b) (leb b (code "9")) t) in
    both (leb (code "0") b) (leb b (code "9")) (le→leb (code "0") b (omega arith)) (and_right (leb (code "1") b) (leb b (code "9")) t)

-- What is written for a number above 0 has that shape.
written : (n c : ℕ) → 0 < c → c < 10 ^ n → (i o ds : Bytes) → Run i o ds → Written n c i o ds
unfolding put_digits value_from
written zero c h l i o ds r = absurd (omega arith)
written (suc n) c h l i o ds r = by (ltb c 10) refl (λ x y z. written n (c / 10) x y ((code "0" + c % 10) ∷ i) o ((code "0" + c % 10) ∷ ds) z)
  where
    by : (b : Bool) → ltb c 10 ≡ b
        → (0 < c / 10 → c / 10 < 10 ^ n → Run ((code "0" + c % 10) ∷ i) o ((code "0" + c % 10) ∷ ds) → Written n (c / 10) ((code "0" + c % 10) ∷ i) o ((code "0" + c % 10) ∷ ds))
        → Written (suc n) c i o ds
    by true e f =
        let k : c < 10 = ltb-true c 10 e in
        record {
          first = code "0" + c;
          behind = i;
          others = ds;
          bytes_are = rw (e, put_digits);
          first_nonzero = nonzero_of c k h;
          others_read = r;
          value_is = ap (λ x. value_from x ds) (let z : 10 * 0 + (code "0" + c - code "0") ≡ c = omega arith in z);
          count_most = omega arith;
        }
    by false e f =
        let k : 10 ≤ c = ltb-false c 10 e in
        let w = f (omega arith) (omega arith) (λ p. let (q, x) = r (suc p) in (q, Digits.more (digit_of (c % 10) (omega arith)) x)) in
        record {
          first = w.first;
          behind = w.behind;
          others = w.others;
          bytes_are = rw (e, put_digits) w.bytes_are;
          first_nonzero = w.first_nonzero;
          others_read = w.others_read;
          value_is = w.value_is ∙ ap (λ x. value_from x ds) (let z : 10 * (c / 10) + (code "0" + c % 10 - code "0") ≡ c = omega arith in z);
          count_most = omega (arith, w.count_most);
        }

-- A decimal in normal form stays as it is, and the ceilings let it pass.
normal_same : (neg : Bool) (c n : ℕ) (down : Bool) (e : ℕ) → ¬ (c % 10 ≡ 0) → (T down → 0 < e) → normal neg c n 0 down e ≡ Decimal.decimal neg c down e
unfolding normal scaled
normal_same neg c n false e h g =
    rw (ne_eqb c 0 (λ z. h (ap (λ x. x % 10) z)), zeros_none n c h, strip_none n c h, le-leb 0 (e + 0) (omega arith))
    (ap (Decimal.decimal neg c false) (let z : e + 0 - 0 ≡ e = omega arith in z))
normal_same neg c n true e h g =
    rw (ne_eqb c 0 (λ z. h (ap (λ x. x % 10) z)), zeros_none n c h, strip_none n c h, lt-leb (e + 0) 0 (omega (arith, g tt)))
    (ap (Decimal.decimal neg c true) (let z : e + 0 - 0 ≡ e = omega arith in z))

normal_allowed : (c n : ℕ) (down : Bool) (e k : ℕ) → n ≤ max_digits → ¬ (c % 10 ≡ 0) → (T down → 0 < e) → e ≤ max_power → k ≤ max_power_digits → Allowed house c n 0 down e k
unfolding house exponent_of
normal_allowed c n down e k a h g b d =
    Allowed.allowed (le→leb n max_digits a) (le_both k max_power_digits (exponent_of (normal false c n 0 down e)) max_power d (rw (normal_same false c n down e h g) b))

-- The parts of a number: its sign, its digits, and its exponent behind its own sign.
minus_back : (neg : Bool) (p : ℕ) (o : Bytes) → (q : ℕ) × Minus (from p (put_sign neg o)) (from q o) neg
unfolding put_sign
minus_back true p o = (suc p, Minus.minus)
minus_back false p o = (p, Minus.none)

sign_back : (down : Bool) (p : ℕ) (o : Bytes) → (q : ℕ) × Sign (from p (put_sign down o)) (from q o) down
unfolding put_sign
sign_back true p o = (suc p, Sign.minus)
sign_back false p o = (p, Sign.none)

whole_back : (c : ℕ) → 0 < c → c < 10 ^ max_digits → (p : ℕ) (o : Bytes)
    → (q : ℕ) × (ds : Bytes) × Whole (from p (put_digits max_digits c o)) (from q o) ds × (value_from 0 ds ≡ c) × (length ds ≤ max_digits)
unfolding value_from
whole_back c h l p o =
    let w = written max_digits c h l o o [] (λ p. (p, Digits.none)) in
    let (q, x) = w.others_read (suc p) in
    let ds : Bytes = w.first ∷ w.others in
    (q, ds, subst⁻¹ (λ i. Whole (from p i) (from q o) ds) w.bytes_are (Whole.nonzero w.first_nonzero x), w.value_is, omega (arith, w.count_most))

-- An exponent that isn't 0 is written.
power_some : (down : Bool) (e : ℕ) (o : Bytes) → 0 < e → put_power down e o ≡ code "e" ∷ put_sign down (put_digits max_power_digits e o)
unfolding put_power
power_some down e o l = ap (λ b. elim b as (λ _. Bytes) [ true ↦ o | false ↦ code "e" ∷ put_sign down (put_digits max_power_digits e o) ]) (ne_eqb e 0 (λ z. omega arith))

power_back : (down : Bool) (e : ℕ) → (T down → 0 < e) → e ≤ max_power → (p : ℕ) (o : Bytes)
    → (q : ℕ) × (es : Bytes) × Power (from p (put_power down e o)) (from q o) down es × (value_from 0 es ≡ e) × (length es ≤ max_power_digits)
unfolding put_power value_from
power_back true zero h l p o = absurd (omega (arith, h tt))
power_back false zero h l p o = (p, [], Power.none, refl, omega arith)
power_back down (suc e) h l p o =
    let w = written max_power_digits (suc e) (omega arith) (omega arith) o o [] (λ p. (p, Digits.none)) in
    let (q, x) = sign_back down (suc p) (w.first ∷ w.behind) in
    let (r, y) = w.others_read (suc q) in
    let es : Bytes = w.first ∷ w.others in (
      r,
      es,
      subst⁻¹ (λ i. Power (from p i) (from r o) down es) (power_some down (suc e) o (omega arith) ∙ ap (λ i. code "e" ∷ put_sign down i) w.bytes_are) (Power.mark tt x (nonzero_digit w.first w.first_nonzero) y),
      w.value_is,
      omega (arith, w.count_most),
    )

decimal_back : (neg : Bool) (c : ℕ) (down : Bool) (e : ℕ) → 0 < c → c < 10 ^ max_digits → ¬ (c % 10 ≡ 0) → (T down → 0 < e) → e ≤ max_power
    → (p : ℕ) (o : Bytes) → (q : ℕ) × Number house (from p (put_number (Decimal.decimal neg c down e) o)) (from q o) (Decimal.decimal neg c down e)
unfolding put_number
decimal_back neg c down e c0 c9 h e0 e9 p o =
    let (q, m) = minus_back neg p (put_digits max_digits c (put_power down e o)) in
    let (r, ds, w, dv, dn) = whole_back c c0 c9 q (put_power down e o) in
    let (s, es, x, ev, en) = power_back down e e0 e9 r o in
    let dv' : value_from 0 (ds ++ []) ≡ c = ap (value_from 0) (append-nil ds) ∙ dv in
    let dn' : length (ds ++ []) ≤ max_digits = omega (arith, dn, length-append ds []) in
    let a : Allowed house (value_from 0 (ds ++ [])) (length (ds ++ [])) 0 down (value_from 0 es) (length es) =
    normal_allowed (value_from 0 (ds ++ [])) (length (ds ++ [])) down (value_from 0 es) (length es) dn' (subst⁻¹ (λ c. ¬ (c % 10 ≡ 0)) dv' h) (λ t. let q : 0 < e = e0 t in omega arith) (omega arith) en in
    let same : normal neg (value_from 0 (ds ++ [])) (length (ds ++ [])) 0 down (value_from 0 es) ≡ Decimal.decimal neg c down e =
    ap₂ (λ c e. normal neg c (length (ds ++ [])) 0 down e) dv' ev ∙ normal_same neg c (length (ds ++ [])) down e h e0 in
    (s, subst (Number house _ _) same (Number.number m w Fraction.none x a))

-- Zero is written as one digit, and any other number by its parts.
pub number_back : {x : Decimal} → Normal x → (p : ℕ) (o : Bytes) → (q : ℕ) × Number house (from p (put_number x o)) (from q o) x
unfolding put_number put_sign put_digits put_power house exponent_of value_from normal
number_back Normal.zero p o = (suc p, Number.number Minus.none Whole.zero Fraction.none Power.none (Allowed.allowed tt tt))
number_back (Normal.up {neg = neg} {c = c} {e = e} c0 c9 h e9) p o = decimal_back neg c false e c0 c9 h (λ t. absurd t) e9 p o
number_back (Normal.down {neg = neg} {c = c} {e = e} c0 c9 h e0 e9) p o = decimal_back neg c true e c0 c9 h (λ t. e0) e9 p o
