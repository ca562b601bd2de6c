-- Names and their first bytes.
use Prim.Native.Char.{code}
use Prim.Native.Nat.{◌<◌, suc, ℕ}
use Rattle.members.specs.Names.{Onward}
use Rattle.names.proofs.Reading.{units_plain}
use Rattle.names.specs.Units.{units}
use Rattle.text.specs.Bytes.{Bytes}
use borrow.Author.Tests.{eqb-true, ne_eqb}
use lib.Dec.{eqb}
use lib.ListN.{drop, get_or, length}
use lib.Seq.{drop-cons}
use mathlib.Core.Bool.{Bool, cond, false, true}
use mathlib.Core.List.{[], ◌∷◌, tail-eq_of_cons-eq}
use mathlib.Core.Path.{◌∙◌, ◌≡◌, refl, sym}
use native.Mathlib.Omega.{arith}

-- Names whose first bytes differ differ, if neither byte is a backslash.
module _ (x y : ℕ) (s t : Bytes) (n : x ≡ y → ⊥) (p : x ≡ code "\\" → ⊥) (q : y ≡ code "\\" → ⊥) where
  first_by : (a b : Bool) → eqb x (code "\"") ≡ a → eqb y (code "\"") ≡ b → cond a [] (x ∷ units s) ≡ cond b [] (y ∷ units t) → ⊥
  first_by true true e f h = n (eqb-true x _ e ∙ sym (eqb-true y _ f))
  first_by true false e f h = let z : ◌≡◌ {A = ℕ} 0 1 = cc in omega arith
  first_by false true e f h = let z : ◌≡◌ {A = ℕ} 0 1 = cc in omega arith
  first_by false false e f h = n (cc)

  first_differ : units (x ∷ s) ≡ units (y ∷ t) → ⊥
  unfolding units
  first_differ h =
      first_by (eqb x (code "\"")) (eqb y (code "\"")) refl refl (simp (ne_eqb x (code "\\") p, ne_eqb y (code "\\") q) at h)

-- What `get` says of the byte that it finds.
abbrev pub Read : Bytes → ℕ → ℕ → Type 0
Read t i x = (i < length t) × ((d : ℕ) → x ≡ get_or t i d)

-- The same of the names behind two quotes.
pub names_differ : (t : Bytes) (i j x y : ℕ) → Read t i x → Read t j y → (x ≡ y → ⊥) → (x ≡ code "\\" → ⊥) → (y ≡ code "\\" → ⊥)
    → units (drop i t) ≡ units (drop j t) → ⊥
names_differ t i j x y (h, e) (k, f) n p q =
    rw (drop-cons t i 0, drop-cons t j 0, ← e 0, ← f 0) (first_differ x y (drop (suc i) t) (drop (suc j) t) n p q)

-- Names that begin with the same plain byte differ if the rest of them does.
pub begin_alike : (t : Bytes) (i j x y : ℕ) → Read t i x → Read t j y → x ≡ y → (x ≡ code "\"" → ⊥) → (x ≡ code "\\" → ⊥) → Onward t i j
begin_alike t i j x y (h, e) (k, f) same quote slash g z =
    let a = units_plain t i h (rw (e 0) at quote) (rw (e 0) at slash) in
    let b = units_plain t j k (rw (same, f 0) at quote) (rw (same, f 0) at slash) in
    g (tail-eq_of_cons-eq (sym a ∙ z ∙ b))
