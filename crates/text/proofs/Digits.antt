-- What digits come to, and how many they are: all at once, as the grammar says it, and one by one, as they are read.
use Prim.Native.Char.{code}
use Prim.Native.Nat.{◌*◌, ◌+◌, ◌-◌, ◌<◌, ◌^◌, suc, ℕ}
use Rattle.text.proofs.Tests.{digit_most, nonzero_most}
use Rattle.text.specs.Bytes.{Bytes, Source, value_from}
use Rattle.text.specs.Numbers.{Digits, Fraction, Whole}
use lib.ListN.{length, length-append}
use mathlib.Core.List.{[], ◌++◌, ◌∷◌}
use mathlib.Core.Path.{◌≡◌, refl}
use native.Mathlib.Omega.{arith}

-- One more digit behind `a`.
abbrev pub and_digit : ℕ → ℕ → ℕ
and_digit a b = 10 * a + (b - code "0")

-- How many digits there are behind `n` others.
unfoldable pub count_from : ℕ → Bytes → ℕ
count_from n [] = n
count_from n (d ∷ ds) = count_from (suc n) ds

pub value_append : (a : ℕ) (ds fs : Bytes) → value_from a (ds ++ fs) ≡ value_from (value_from a ds) fs
unfolding value_from
value_append a [] fs = refl
value_append a (d ∷ ds) fs = value_append (and_digit a d) ds fs

count_is : (n : ℕ) (ds : Bytes) → count_from n ds ≡ n + length ds
unfolding count_from
count_is n [] = omega arith
count_is n (d ∷ ds) = let h : count_from (suc n) ds ≡ suc n + length ds = count_is (suc n) ds in omega arith

pub count_all : (ds : Bytes) → count_from 0 ds ≡ length ds
count_all ds = omega (arith, count_is 0 ds)

pub count_append : (ds fs : Bytes) → count_from (count_from 0 ds) fs ≡ length (ds ++ fs)
count_append ds fs = omega (arith, count_is 0 ds, count_is (count_from 0 ds) fs, length-append ds fs)

-- Digits come to less than ten to their count, behind any number of which that holds.
digits_below : {i o : Source} {ds : Bytes} (c n : ℕ) → c < 10 ^ n → Digits i o ds → value_from c ds < 10 ^ count_from n ds
unfolding value_from count_from
digits_below c n h Digits.none = h
digits_below c n h (Digits.more {b = b} t ds) = digits_below (and_digit c b) (suc n) (omega (arith, digit_most b t)) ds

whole_below : {i o : Source} {ds : Bytes} → Whole i o ds → value_from 0 ds < 10 ^ count_from 0 ds
unfolding value_from count_from
whole_below Whole.zero = omega arith
whole_below (Whole.nonzero {b = b} t ds) = digits_below (and_digit 0 b) 1 (omega (arith, nonzero_most b t)) ds

fraction_below : {i o : Source} {fs : Bytes} (c n : ℕ) → c < 10 ^ n → Fraction i o fs → value_from c fs < 10 ^ count_from n fs
unfolding value_from count_from
fraction_below c n h Fraction.none = h
fraction_below c n h (Fraction.point {b = b} t fs) = digits_below (and_digit c b) (suc n) (omega (arith, digit_most b t)) fs

-- So do a number's digits, those before the point and those behind it taken together.
pub number_below : {i j k : Source} {ds fs : Bytes} → Whole i j ds → Fraction j k fs → value_from 0 (ds ++ fs) < 10 ^ length (ds ++ fs)
number_below {ds = ds} {fs = fs} w f =
    rw (value_append 0 ds fs, ← count_append ds fs) (fraction_below (value_from 0 ds) (count_from 0 ds) (whole_below w) f)
