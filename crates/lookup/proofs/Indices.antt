-- What the units of a token say of the index that it is.
use Prim.Native.Char.{code}
use Prim.Native.Nat.{ℕ, ◌*◌, ◌+◌, ◌-◌, ◌<◌, ◌≤◌}
use Rattle.lookup.specs.Reading.{DigitsFrom, TokenStep, digit_of}
use Rattle.lookup.specs.Tokens.{Capped, Index, token_units}
use Rattle.meaning.specs.Lookup.{all_digits, is_index}
use Rattle.members.specs.Records.{max_records}
use Rattle.names.specs.declared.unit.Unit.{Unit}
use Rattle.std.proofs.lemmas.Bool.Decides.{nat_tests}
use Rattle.std.specs.Prelude.{None, Option, Some}
use Rattle.text.specs.Bytes.{Bytes, Units, is_digit, is_nonzero, value_from}
use lib.ListN.{drop}
use mathlib.Core.Bool.{false, true}
use mathlib.Core.List.{[], ◌∷◌}
use mathlib.Core.Path.{◌≡◌, ap, refl, subst}
use native.Mathlib.Omega.{arith}

-- A digit other than `0`, a `0`, and what is no digit.
nonzero_is : (c : ℕ) → is_digit c ≡ true → (c ≡ code "0" → ⊥) → is_nonzero c ≡ true
nonzero_is c t f = grind (arith, nat_tests)

zero_is : (c : ℕ) → is_digit c ≡ true → c - code "0" ≡ 0 → c ≡ code "0"
zero_is c t z = grind (arith, nat_tests)

nonzero_not : (c : ℕ) → is_digit c ≡ false → is_nonzero c ≡ false
nonzero_not c d = grind (arith, nat_tests)

-- Digits behind a number make none that is smaller.
value_least : (a : ℕ) (us : Units) → a ≤ value_from a us
unfolding value_from
value_least a [] = omega arith
value_least a (d ∷ us) = let h = value_least (10 * a + (d - code "0")) us in omega arith

-- A unit that is a digit, and one that is none.
record Digit (c d : ℕ) : Type 0 where
  is : is_digit c ≡ true
  value : d ≡ c - code "0"

digit_some : (c : ℕ) {d : ℕ} → Some d ≡ digit_of c → Digit c d
digit_some c e = record { is = grind (arith, nat_tests); value = grind (arith, nat_tests) }

digit_none : (c : ℕ) → None ≡ digit_of c → is_digit c ≡ false
digit_none c e = grind (arith, nat_tests)

-- The digits behind the number `a`.
module _ (t : Bytes) (i a : ℕ) where
  pub digits_end : token_units (drop i t) ≡ [] → a < max_records → DigitsFrom t i a (Some a)
  unfolding all_digits value_from
  digits_end e h = rw e (Capped.some refl h)

  module _ (u : Unit) (s : TokenStep t i (Some u)) where
    pub digits_none : None ≡ digit_of u.code → DigitsFrom t i a None
    unfolding all_digits
    digits_none e = Capped.none (rw (s.0, digit_none u.code e))

    module _ {d : ℕ} (e : Some d ≡ digit_of u.code) where
      pub digits_more : (r : Option ℕ) → DigitsFrom t u.next (10 * a + d) r → DigitsFrom t i a r
      unfolding all_digits value_from
      digits_more r x =
          let f = digit_some u.code e in
          rw (s.0, f.is) (subst (λ d. Capped (all_digits (token_units (drop u.next t))) (value_from (10 * a + d) (token_units (drop u.next t))) r) f.value x)

      pub digits_great : max_records ≤ 10 * a + d → DigitsFrom t i a None
      unfolding value_from
      digits_great h =
          let f = digit_some u.code e in
          let l = value_least (10 * a + (u.code - code "0")) (token_units (drop u.next t)) in
          Capped.great (rw s.0 (omega (arith, f.value)))

-- The index of a whole token, by its first unit.
index_digits : (c : ℕ) (us : Units) → is_digit c ≡ true → (c ≡ code "0" → us ≡ []) → is_index (c ∷ us) ≡ all_digits us
unfolding is_index all_digits
index_digits c [] d f = d
index_digits c (u ∷ us) d f = rw (nonzero_is c d (λ e. absurd (cc (f e))))

value_first : (c : ℕ) (us : Units) → value_from 0 (c ∷ us) ≡ value_from (c - code "0") us
unfolding value_from
value_first c us = ap (λ n. value_from n us) (let e : 10 * 0 + (c - code "0") ≡ c - code "0" = omega arith in e)

index_other : (c : ℕ) (us : Units) → is_digit c ≡ false → is_index (c ∷ us) ≡ false
unfolding is_index
index_other c [] d = d
index_other c (u ∷ us) d = rw (nonzero_not c d)

module _ (t : Bytes) where
  pub index_empty : token_units (drop 0 t) ≡ [] → Index (token_units t) None
  unfolding is_index
  index_empty e = Capped.none (rw e)

  module _ (u : Unit) (s : TokenStep t 0 (Some u)) where
    pub index_none : None ≡ digit_of u.code → Index (token_units t) None
    index_none e = Capped.none (rw s.0 (index_other u.code (token_units (drop u.next t)) (digit_none u.code e)))

    module _ {d : ℕ} (e : Some d ≡ digit_of u.code) where
      -- A `0` is an index by itself only.
      pub index_leading : d ≡ 0 → (v : Unit) → TokenStep t u.next (Some v) → Index (token_units t) None
      unfolding is_index
      index_leading z v r = let f = digit_some u.code e in Capped.none (rw (s.0, zero_is u.code f.is (omega (arith, f.value)), r.0) refl)

      pub index_first : (d ≡ 0 → TokenStep t u.next None) → (r : Option ℕ) → DigitsFrom t u.next d r → Index (token_units t) r
      index_first g r x =
          let f = digit_some u.code e in
          let us = token_units (drop u.next t) in
          rw (s.0, index_digits u.code us f.is (λ z. g (omega (arith, f.value, z))), value_first u.code us) (subst (λ d. Capped (all_digits us) (value_from d us) r) f.value x)

-- What a loop over the digits cites, and what the first unit is asked.
pub ruleset digits = (digits_end, digits_none, digits_great)

pub ruleset indices = (index_empty, index_none, index_leading, index_first)
