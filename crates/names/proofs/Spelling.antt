-- Of a string of the grammar the units are those that the grammar says, and it closes where the grammar says.
use Prim.Native.Char.{code}
use Prim.Native.Nat.{ℕ, suc}
use Rattle.names.specs.Units.{closing, escaped, hexed, skipping, units}
use Rattle.text.proofs.Takes.{place}
use Rattle.text.proofs.Tests.{not_byte}
use Rattle.text.specs.Bytes.{Bytes, Source, Units, from, is_escape, is_hex, is_high, is_plain}
use Rattle.text.specs.Ceilings.{Ceilings}
use Rattle.text.specs.Strings.{Chars, Escape, Is}
use lib.Dec.{T, eqb}
use mathlib.Core.Bool.{Bool, false, not}
use mathlib.Core.List.{◌∷◌}
use mathlib.Core.Path.{◌∙◌, ◌≡◌, ap, refl}

is_false : (x : Bool) → T (not x) → x ≡ false
is_false false t = refl
is_false mathlib.Core.Bool.true t = elim t [ ]

-- A byte of a class `P` without `k` is not `k`.
module _ (P : ℕ → Bool) (b : ℕ) (t : T (P b)) where
  other : (k : ℕ) → T (not (P k)) → eqb b k ≡ false
  other k q = is_false (eqb b k) (not_byte P b k t q)

  module _ (q : T (not (P (code "\"")))) (r : T (not (P (code "\\")))) where
    plain_units : (s : Bytes) → units (b ∷ s) ≡ b ∷ units s
    unfolding units
    plain_units s = simp (other (code "\"") q, other (code "\\") r)

    plain_closing : (p : ℕ) (s : Bytes) → closing p (b ∷ s) ≡ closing (suc p) s
    unfolding closing
    plain_closing p s = simp (other (code "\"") q, other (code "\\") r)

-- What is left at a source.
abbrev bytes : Source → Bytes
bytes (from p s) = s

module _ {C : Ceilings} where
  mutual
    unfolding units escaped hexed

    chars_units : {i o : Source} {us : Units} → Chars C i o us → units (bytes i) ≡ us
    chars_units Chars.close = refl
    chars_units (Chars.plain {b = b} {i = i} t c) = plain_units is_plain b t tt tt i ∙ ap (λ us. b ∷ us) (chars_units c)
    chars_units (Chars.high {b = b} {i = i} t g c) = plain_units is_high b t tt tt i ∙ ap (λ us. b ∷ us) (chars_units c)
    chars_units (Chars.escape e) = escape_units e

    escape_units : {i o : Source} {us : Units} → Escape C i o us → escaped (bytes i) ≡ us
    escape_units (Escape.short {b = b} {u = u} t Is.is c) = simp (other is_escape b t (code "u") tt) (ap (λ us. u ∷ us) (chars_units c))
    escape_units (Escape.unit {u = u} k l m n Is.is c) = ap (λ us. u ∷ us) (chars_units c)

  mutual
    unfolding closing skipping

    chars_closing : {i o : Source} {us : Units} → Chars C i o us → suc (closing (place i) (bytes i)) ≡ place o
    chars_closing Chars.close = refl
    chars_closing (Chars.plain {p = p} {b = b} {i = i} t c) = ap suc (plain_closing is_plain b t tt tt p i) ∙ chars_closing c
    chars_closing (Chars.high {p = p} {b = b} {i = i} t g c) = ap suc (plain_closing is_high b t tt tt p i) ∙ chars_closing c
    chars_closing (Chars.escape e) = escape_closing e

    escape_closing : {i o : Source} {us : Units} → Escape C i o us → suc (skipping (place i) (bytes i)) ≡ place o
    escape_closing (Escape.short t u c) = chars_closing c
    escape_closing (Escape.unit {p = p} {a = a} {b = b} {c = c} {d = d} {i = i} k l m n u x) =
        let e = plain_closing is_hex a k tt tt (suc p) (b ∷ c ∷ d ∷ i) in
        let f = plain_closing is_hex b l tt tt (suc (suc p)) (c ∷ d ∷ i) in
        let g = plain_closing is_hex c m tt tt (suc (suc (suc p))) (d ∷ i) in
        let h = plain_closing is_hex d n tt tt (suc (suc (suc (suc p)))) i in
        ap suc (e ∙ f ∙ g ∙ h) ∙ chars_closing x

  -- The two, of the bytes `s` from the offset `p` on.
  module _ {p j : ℕ} {s o : Bytes} {us : Units} (c : Chars C (from p s) (from j o) us) where
    pub spelt : units s ≡ us
    spelt = chars_units c

    pub closed : suc (closing p s) ≡ j
    closed = chars_closing c
