-- What a value that is held says of its record, and a scalar of its first byte.
use Prim.Native.Char.{code}
use Prim.Native.Nat.{◌%◌, ◌<◌, ◌≤◌, ℕ}
use Rattle.meaning.specs.Canonical.{spelling}
use Rattle.meaning.specs.Meaning.{Tree}
use Rattle.members.specs.Links.{low_part}
use Rattle.members.specs.Records.{Room, max_records, next_of, word}
use Rattle.scan.specs.Numbers.{opens_number}
use Rattle.spell.specs.Scalars.{Scalar}
use Rattle.text.specs.Bytes.{Bytes}
use Rattle.text.specs.Node.{Literal, Node}
use Rattle.text.specs.Table.{Words}
use Rattle.values.specs.Held.{Held}
use lib.Dec.{eqb}
use lib.ListN.{get_or, length}
use mathlib.Core.Bool.{Bool, ◌||◌, false, true, true≢false}
use mathlib.Core.Path.{◌∙◌, ◌≡◌, ap, sym}
use native.Mathlib.Omega.{arith}

-- The record of a value is in the table, and the value in the text.
module _ {t : Bytes} {w : Words} {r : ℕ} {v : Node} (h : Held t w r v) where
  pub held_room : Room w r
  held_room = elim h [ Held.held x i y ↦ omega (arith, x.onward, x.long) ]

  pub held_start : word w r 0 % low_part < length t
  held_start = elim h [ Held.held x i y ↦ omega (arith, x.first) ]

  pub held_few : next_of w r ≤ max_records
  unfolding next_of
  held_few = elim h [ Held.held x i y ↦ omega (arith, x.next, x.few) ]

  pub held_onward : r < next_of w r
  unfolding next_of
  held_onward = elim h [ Held.held x i y ↦ omega (arith, x.next, x.onward) ]

-- The bytes that a scalar can begin with: no bracket is among them.
abbrev pub opens_scalar : ℕ → Bool
opens_scalar b = opens_number b || (eqb b (code "\"") || (eqb b (code "n") || (eqb b (code "t") || eqb b (code "f"))))

scalar_first : {t : Bytes} {p q : ℕ} {x : Tree} → Scalar t p q x → opens_scalar (get_or t p 0) ≡ true
unfolding spelling
scalar_first (Scalar.word {l = Literal.null} e) = ap opens_scalar e
scalar_first (Scalar.word {l = Literal.true} e) = ap opens_scalar e
scalar_first (Scalar.word {l = Literal.false} e) = ap opens_scalar e
scalar_first (Scalar.string e f) = ap opens_scalar e
scalar_first {t} {p} (Scalar.number e l m n) =
    let b = get_or t p 0 in ap (λ o. o || (eqb b (code "\"") || (eqb b (code "n") || (eqb b (code "t") || eqb b (code "f"))))) e

pub not_first : {t : Bytes} {p q : ℕ} {x : Tree} → Scalar t p q x → (k : ℕ) → opens_scalar k ≡ false → get_or t p 0 ≡ k → ⊥
not_first s k f e = true≢false (sym (scalar_first s) ∙ ap opens_scalar e ∙ f)
