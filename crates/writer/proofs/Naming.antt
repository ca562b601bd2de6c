-- The name of a record as it is written.
use Prim.Native.Char.{code}
use Prim.Native.Nat.{◌+◌, ◌<◌, ◌≤◌, ℕ}
use Rattle.members.specs.Names.{name_at}
use Rattle.spell.proofs.Joining.{put_as}
use Rattle.spell.proofs.Putting.{put_byte}
use Rattle.spell.specs.Puts.{Puts}
use Rattle.spell.specs.Scalars.{quoted}
use Rattle.text.specs.Bytes.{Bytes}
use Rattle.text.specs.Table.{unnamed}
use Rattle.writer.specs.Writes.{named}
use Rattle.members.specs.Records.{quote_of}
use Rattle.std.specs.Prelude.{None, Some}
use borrow.Author.Tests.{eq-eqb, eqb-false, ne_eqb}
use lib.Dec.{eqb}
use lib.ListN.{length, length-append, set}
use mathlib.Core.Bool.{Bool, cond, false, true}
use mathlib.Core.List.{[], ◌++◌, ◌∷◌}
use mathlib.Core.Path.{◌∙◌, ◌≡◌, ap, refl, subst, sym}
use native.Mathlib.Omega.{arith}

-- What is written by whether there is a name.
abbrev pub case : Bytes → ℕ → Bool → Bytes
case t q b = elim b as (λ _. Bytes) [ true ↦ [] | false ↦ quoted (name_at t q) ++ (code ":" ∷ []) ]

module _ (t : Bytes) {q : ℕ} where
  pub named_none : q ≡ unnamed → named t q ≡ []
  unfolding named
  named_none f = ap (case t q) (eq-eqb q unnamed f)

  pub none_length : q ≡ unnamed → 0 ≡ length (named t q)
  none_length f = sym (ap length (named_none f))

  module _ (n : q ≡ unnamed → ⊥) where
    pub named_some : named t q ≡ quoted (name_at t q) ++ (code ":" ∷ [])
    unfolding named
    named_some = ap (case t q) (ne_eqb q unnamed n)

    pub some_length : length (named t q) ≡ length (quoted (name_at t q)) + 1
    some_length = ap length named_some ∙ length-append (quoted (name_at t q)) (code ":" ∷ [])

-- The quote that the code reads off word 2.
quote_some : (q z : ℕ) → Some z ≡ quote_of q → (z ≡ q) × (q ≡ unnamed → ⊥)
quote_some q z e = by (eqb q unnamed) refl e
  where
    by : (b : Bool) → eqb q unnamed ≡ b → Some z ≡ cond b None (Some q) → (z ≡ q) × (q ≡ unnamed → ⊥)
    by true f g = absurd (cc)
    by false f g = (cc, eqb-false q unnamed f)

-- The colon behind the name that begins there.
pub put_colon : (t : Bytes) (q z : ℕ) {m : ℕ} {o o₁ : Bytes} → Some z ≡ quote_of q → length (named t q) ≤ length o → Puts (quoted (name_at t z)) o m o₁ → Puts (named t q) o (m + 1) (set o₁ m (code ":"))
put_colon t q z {m} {o} {o₁} e h p =
    let (f, n) = quote_some q z e in
    let l : length (quoted (name_at t q)) < length o = omega (arith, some_length t n) in
    put_as (sym (named_some t n)) (put_byte (subst (λ q. Puts (quoted (name_at t q)) o m o₁) f p) (omega arith) (code ":") l)
