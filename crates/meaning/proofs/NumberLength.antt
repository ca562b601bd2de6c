-- A number is written in at most six times as many bytes as it was read from.
use Prim.Native.Char.{code}
use Prim.Native.Nat.{◌%◌, ◌*◌, ◌+◌, ◌-◌, ◌/◌, ◌<◌, ◌^◌, ◌≤◌, suc, zero, ℕ}
use Rattle.meaning.proofs.Append.{number_append}
use Rattle.meaning.specs.Canonical.{put_digits, put_number, put_power, put_sign}
use Rattle.text.proofs.Decimals.{strip_most}
use Rattle.text.proofs.Digits.{number_below}
use Rattle.text.proofs.Takes.{bit, fraction_takes, left, minus_takes, power_takes, whole_takes}
use Rattle.text.specs.Bytes.{Bytes, Source, value_from}
use Rattle.text.specs.Ceilings.{house, max_digits, max_power_digits}
use Rattle.text.specs.Decimal.{Decimal, normal, scaled, strip, zeros}
use Rattle.text.specs.Numbers.{Number}
use borrow.Author.Tests.{ltb-false}
use lib.Dec.{eqb, leb, ltb}
use lib.ListN.{length, length-append}
use mathlib.Core.Bool.{Bool, cond, false, true}
use mathlib.Core.List.{[], ◌++◌, ◌∷◌}
use mathlib.Core.Path.{◌∙◌, ◌≡◌, ap, refl}
use native.Mathlib.Omega.{arith}

-- A sign is written as a byte if it is minus.
bit_most : (s : Bool) → bit s ≤ 1
unfolding bit
bit_most true = omega arith
bit_most false = omega arith

sign_length : (s : Bool) (o : Bytes) → length (put_sign s o) ≡ bit s + length o
unfolding put_sign bit
sign_length true o = omega arith
sign_length false o = omega arith

-- The length of a number does not depend on what stands behind it.
pub number_alone : (x : Decimal) (o : Bytes) → length (put_number x o) ≡ length (put_number x []) + length o
number_alone x o = ap length (number_append x [] o) ∙ length-append (put_number x []) o

-- A number below ten to the `m`, where `m` isn't 0, takes at most `m` digits, and never more than `n` are written.
digits_length : (n c m : ℕ) (o : Bytes) → c < 10 ^ suc m → length (put_digits n c o) ≤ suc m + length o
unfolding put_digits
digits_length zero c m o l = omega arith
digits_length (suc n) c m o l = by (ltb c 10) refl m l (λ m h. digits_length n (c / 10) m ((code "0" + c % 10) ∷ o) h)
  where
    by : (b : Bool) → ltb c 10 ≡ b → (m : ℕ) → c < 10 ^ suc m
        → ((m : ℕ) → c / 10 < 10 ^ suc m → length (put_digits n (c / 10) ((code "0" + c % 10) ∷ o)) ≤ suc m + suc (length o))
        → length {A = ℕ} (elim b as (λ _. Bytes) [ true ↦ (code "0" + c) ∷ o | false ↦ put_digits n (c / 10) ((code "0" + c % 10) ∷ o) ]) ≤ suc m + length o
    by true e m l f = omega arith
    by false e zero l f = let k : 10 ≤ c = ltb-false c 10 e in absurd (omega arith)
    by false e (suc m) l f = let h : c / 10 < 10 ^ suc m = omega arith in omega (arith, f m h)

pub digits_most : (n c : ℕ) (o : Bytes) → length (put_digits n c o) ≤ n + length o
unfolding put_digits
digits_most zero c o = omega arith
digits_most (suc n) c o = by (ltb c 10) (digits_most n (c / 10) ((code "0" + c % 10) ∷ o))
  where
    by : (b : Bool) → length (put_digits n (c / 10) ((code "0" + c % 10) ∷ o)) ≤ n + suc (length o)
        → length {A = ℕ} (elim b as (λ _. Bytes) [ true ↦ (code "0" + c) ∷ o | false ↦ put_digits n (c / 10) ((code "0" + c % 10) ∷ o) ]) ≤ suc n + length o
    by true h = omega arith
    by false h = omega arith

pub power_length : (down : Bool) (e : ℕ) (o : Bytes) → length (put_power down e o) ≤ 5 + length o
unfolding put_power
power_length down e o = by (eqb e 0)
  where
    by : (b : Bool) → length {A = ℕ} (elim b as (λ _. Bytes) [ true ↦ o | false ↦ code "e" ∷ put_sign down (put_digits max_power_digits e o) ]) ≤ 5 + length o
    by true = omega arith
    by false = omega (arith, sign_length down (put_digits max_power_digits e o), bit_most down, digits_most max_power_digits e o)

-- In how many bytes a number is written.
abbrev long : Decimal → ℕ
long x = length (put_number x [])

zero_length : long (Decimal.decimal false 0 false 0) ≡ 1
unfolding put_number put_sign put_digits put_power
zero_length = refl

decimal_length : (neg : Bool) (c : ℕ) (down : Bool) (e m : ℕ) → c < 10 ^ suc m → long (Decimal.decimal neg c down e) ≤ bit neg + suc m + 5
unfolding put_number
decimal_length neg c down e m l =
    omega (arith, sign_length neg (put_digits max_digits c (put_power down e [])), digits_length max_digits c m (put_power down e []) l, power_length down e [])

scaled_length : (neg : Bool) (c p q m : ℕ) → c < 10 ^ suc m → long (scaled neg c p q) ≤ bit neg + suc m + 5
unfolding scaled
scaled_length neg c p q m l = by (leb q p)
  where
    by : (b : Bool) → long (cond b (Decimal.decimal neg c false (p - q)) (Decimal.decimal neg c true (q - p))) ≤ bit neg + suc m + 5
    by true = decimal_length neg c false (p - q) m l
    by false = decimal_length neg c true (q - p) m l

normal_length : (neg : Bool) (c n f : ℕ) (down : Bool) (e : ℕ) → c < 10 ^ n → 1 ≤ n → long (normal neg c n f down e) ≤ bit neg + n + 5
unfolding normal
normal_length neg c zero f down e l h = absurd (omega arith)
normal_length neg c (suc m) f down e l h = by (eqb c 0) down
  where
    less : strip (suc m) c < 10 ^ suc m
    less = omega (arith, strip_most (suc m) c)

    by : (b down : Bool)
        → long (cond b (Decimal.decimal false 0 false 0) (cond down (scaled neg (strip (suc m) c) (zeros (suc m) c) (e + f)) (scaled neg (strip (suc m) c) (e + zeros (suc m) c) f)))
        ≤ bit neg + suc m + 5
    by true down = omega (arith, zero_length)
    by false true = scaled_length neg (strip (suc m) c) (zeros (suc m) c) (e + f) m less
    by false false = scaled_length neg (strip (suc m) c) (e + zeros (suc m) c) f m less

-- Its first digit leaves room for the exponent, and each other byte for itself.
pub number_length : {i o : Source} {x : Decimal} → Number house i o x → length (put_number x []) + 6 * left o ≤ 6 * left i
number_length (Number.number {neg = neg} {down = down} {ds = ds} {fs = fs} {es = es} m w f p a) =
    omega (
      arith,
      minus_takes m,
      whole_takes w,
      fraction_takes f,
      power_takes p,
      length-append ds fs,
      normal_length neg (value_from 0 (ds ++ fs)) (length (ds ++ fs)) (length fs) down (value_from 0 es) (number_below w f) (omega (arith, whole_takes w, length-append ds fs)),
    )
