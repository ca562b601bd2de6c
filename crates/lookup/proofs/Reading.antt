-- What each byte does to the units of a token, and what first units say of whether two lists of units are the same.
use Prim.Native.Char.{code}
use Prim.Native.Nat.{ℕ, ◌+◌, ◌<◌, ◌≤◌}
use Rattle.lookup.specs.Reading.{pair_unit}
use Rattle.lookup.specs.Tokens.{behind_tilde, token_units}
use Rattle.std.proofs.lemmas.List.{drop_more}
use Rattle.text.specs.Bytes.{Bytes, Units}
use Rattle.text.specs.Ceilings.{same}
use borrow.Author.Tests.{eq-eqb, ne_eqb}
use lib.Dec.{eqb}
use lib.ListN.{drop, drop_of_length-le, get_or, length}
use mathlib.Core.Bool.{Bool, cond, false, true}
use mathlib.Core.List.{[], ◌∷◌}
use mathlib.Core.Path.{◌≡◌, refl}
use native.Mathlib.Omega.{arith}

-- The end of a token.
pub token_end : (t : Bytes) (i : ℕ) → length t ≤ i → token_units (drop i t) ≡ []
unfolding token_units
token_end t i h = rw (drop_of_length-le t h)

cond_first : (x : Bool) (a b : ℕ) (us : Units) → cond x (a ∷ us) (b ∷ us) ≡ cond x a b ∷ us
cond_first true a b us = refl
cond_first false a b us = refl

-- The byte that stands at `i`.
module _ (t : Bytes) (i : ℕ) (h : i < length t) where
  pub token_plain : (get_or t i 0 ≡ code "~" → ⊥) → token_units (drop i t) ≡ get_or t i 0 ∷ token_units (drop (i + 1) t)
  unfolding token_units
  token_plain f = rw (drop_more t i 0 h) (simp (ne_eqb _ _ f))

  pub token_bare : get_or t i 0 ≡ code "~" → length t ≤ i + 1 → token_units (drop i t) ≡ []
  unfolding token_units behind_tilde
  token_bare e l = rw (drop_more t i 0 h, e, drop_of_length-le t l)

  pub token_pair : get_or t i 0 ≡ code "~" → i + 1 < length t → token_units (drop i t) ≡ pair_unit (get_or t (i + 1) 0) ∷ token_units (drop (i + 2) t)
  unfolding token_units behind_tilde
  token_pair e l = let n : i + 1 + 1 ≡ i + 2 = omega arith in rw (drop_more t i 0 h, e, drop_more t (i + 1) 0 l, n) (cond_first (eqb (get_or t (i + 1) 0) (code "0")) _ _ _)

-- What the bytes do to the units of a token.
pub ruleset token_steps = (token_end, token_plain, token_bare, token_pair)

-- Equal first units decide nothing, others do, and where both end the two are the same.
module _ (x y : ℕ) (xs ys : Units) where
  pub same_next : x ≡ y → same (x ∷ xs) (y ∷ ys) ≡ same xs ys
  unfolding same
  same_next e = simp (eq-eqb x y e)

  pub same_other : (x ≡ y → ⊥) → same (x ∷ xs) (y ∷ ys) ≡ false
  unfolding same
  same_other f = simp (ne_eqb x y f)

pub same_none : same [] [] ≡ true
unfolding same
same_none = refl

pub same_first : (y : ℕ) (ys : Units) → same [] (y ∷ ys) ≡ false
unfolding same
same_first y ys = refl

pub same_second : (x : ℕ) (xs : Units) → same (x ∷ xs) [] ≡ false
unfolding same
same_second x xs = refl

-- What the comparison of a token with a name needs.
pub ruleset comparing = (same_none, same_first, same_second, same_next, same_other)
