-- What each byte does to the units of a name, and to where it closes.
use Prim.Native.Char.{code}
use Prim.Native.Nat.{ℕ, min, ◌+◌, ◌<◌, ◌≤◌}
use Rattle.names.specs.Steps.{StepAt}
use Rattle.names.specs.Units.{closing, escaped, hexed, skipping, units}
use Rattle.names.specs.declared.unit.Unit.{Unit}
use Rattle.std.proofs.lemmas.List.{drop-drop, drop_more, take_rest}
use Rattle.std.specs.Prelude.{None, Option, Some}
use Rattle.text.specs.Bytes.{Bytes, Units, escape_unit}
use Rattle.text.specs.Strings.{hex_unit}
use borrow.Author.Tests.{eq-eqb, ne_eqb}
use lib.ListN.{drop, drop_of_length-le, get_or, length, length-drop}
use mathlib.Core.List.{[], ◌∷◌}
use mathlib.Core.Path.{◌∙◌, ◌≡◌, ap, refl}
use native.Mathlib.Numerals.{add-one}
use native.Mathlib.Omega.{arith}

-- The end of the bytes.
module _ (t : Bytes) (i : ℕ) (h : length t ≤ i) where
  pub units_end : units (drop i t) ≡ []
  unfolding units
  units_end = rw (drop_of_length-le t h)

  pub escaped_end : escaped (drop i t) ≡ []
  unfolding escaped
  escaped_end = rw (drop_of_length-le t h)

  pub closing_end : (p : ℕ) → closing p (drop i t) ≡ p
  unfolding closing
  closing_end p = rw (drop_of_length-le t h)

-- The byte that stands at `i`.
module _ (t : Bytes) (i : ℕ) (h : i < length t) where
  pub units_quote : get_or t i 0 ≡ code "\"" → units (drop i t) ≡ []
  unfolding units
  units_quote e = rw (drop_more t i 0 h) (simp (eq-eqb _ _ e))

  pub units_slash : get_or t i 0 ≡ code "\\" → units (drop i t) ≡ escaped (drop (i + 1) t)
  unfolding units
  units_slash e = rw (drop_more t i 0 h, e)

  pub units_plain : (get_or t i 0 ≡ code "\"" → ⊥) → (get_or t i 0 ≡ code "\\" → ⊥) → units (drop i t) ≡ get_or t i 0 ∷ units (drop (i + 1) t)
  unfolding units
  units_plain q r = rw (drop_more t i 0 h) (simp (ne_eqb _ _ q, ne_eqb _ _ r))

  pub escaped_u : get_or t i 0 ≡ code "u" → escaped (drop i t) ≡ hexed (drop (i + 1) t)
  unfolding escaped
  escaped_u e = rw (drop_more t i 0 h, e)

  pub escaped_short : (get_or t i 0 ≡ code "u" → ⊥) → escaped (drop i t) ≡ escape_unit (get_or t i 0) ∷ units (drop (i + 1) t)
  unfolding escaped
  escaped_short f = rw (drop_more t i 0 h) (simp (ne_eqb _ _ f))

  pub closing_quote : (p : ℕ) → get_or t i 0 ≡ code "\"" → closing p (drop i t) ≡ p
  unfolding closing
  closing_quote p e = rw (drop_more t i 0 h, e)

  pub closing_plain : (p : ℕ) → (get_or t i 0 ≡ code "\"" → ⊥) → (get_or t i 0 ≡ code "\\" → ⊥) → closing p (drop i t) ≡ closing (p + 1) (drop (i + 1) t)
  unfolding closing
  closing_plain p q r = rw (drop_more t i 0 h) (simp (ne_eqb _ _ q, ne_eqb _ _ r, add-one))

  -- A backslash and the byte behind it, or the end.
  closing_pair : i + 1 < length t → get_or t i 0 ≡ code "\\" → closing i (drop i t) ≡ closing (i + 1 + 1) (drop (i + 1 + 1) t)
  unfolding closing skipping
  closing_pair l e = rw (drop_more t i 0 h, e, drop_more t (i + 1) 0 l) (ap (λ p. closing p (drop (i + 1 + 1) t)) (omega arith))

  closing_last : length t ≤ i + 1 → get_or t i 0 ≡ code "\\" → closing i (drop i t) ≡ closing (i + 1) (drop (i + 1) t)
  unfolding closing skipping
  closing_last l e = rw (drop_more t i 0 h, e, drop_of_length-le t l, add-one)

  pub closing_slash : get_or t i 0 ≡ code "\\" → let j = min (length t) (i + 2) in closing i (drop i t) ≡ closing j (drop j t)
  closing_slash e = grind (arith, closing_pair, closing_last)

-- Behind `\u`: four digits or fewer.
pub few : (s : Bytes) → length s < 4 → hexed s ≡ []
unfolding hexed
few [] l = refl
few (a ∷ []) l = refl
few (a ∷ b ∷ []) l = refl
few (a ∷ b ∷ c ∷ []) l = refl
few (a ∷ b ∷ c ∷ d ∷ s) l = absurd (omega arith)

four : (s : Bytes) → 4 ≤ length s → hexed s ≡ hex_unit (get_or s 0 0) (get_or s 1 0) (get_or s 2 0) (get_or s 3 0) ∷ units (drop 4 s)
unfolding hexed
four [] l = absurd (omega arith)
four (a ∷ []) l = absurd (omega arith)
four (a ∷ b ∷ []) l = absurd (omega arith)
four (a ∷ b ∷ c ∷ []) l = absurd (omega arith)
four (a ∷ b ∷ c ∷ d ∷ s) l = refl

pub hexed_four : (t : Bytes) (i : ℕ) → i + 4 ≤ length t → let s = drop i t in hexed s ≡ hex_unit (get_or s 0 0) (get_or s 1 0) (get_or s 2 0) (get_or s 3 0) ∷ units (drop (i + 4) t)
hexed_four t i l = rw (← drop-drop 4 i t) (four (drop i t) (rw (length-drop i t) (omega arith)))

-- What stands behind a byte that stands for no unit.
pub step_on : (f g : Bytes → Units) (t : Bytes) (i : ℕ) (o : Option Unit) → f (drop i t) ≡ g (drop (i + 1) t) → StepAt g t (i + 1) o → StepAt f t i o
step_on f g t i None e s = e ∙ s
step_on f g t i (Some u) e s = (e ∙ s.0, omega (arith, s.1), s.2, s.3)

-- What the reading of a unit needs.
pub ruleset reading = (units_end, units_quote, units_slash, units_plain, escaped_end, escaped_u, escaped_short, few, hexed_four, step_on, take_rest, length-drop)

-- What the search for the closing quote needs.
pub ruleset closes = (closing_end, closing_quote, closing_plain, closing_slash)
