-- The first byte of a value says whether it is an object, and whether it is null.
use Prim.Native.Char.{code}
use Prim.Native.Nat.{◌%◌, ℕ}
use Rattle.meaning.proofs.SideBySide.{is_object}
use Rattle.meaning.proofs.Sorting.{canon}
use Rattle.meaning.specs.Canonical.{spelling}
use Rattle.meaning.specs.Meaning.{Pairs, Tree, tree}
use Rattle.meaning.specs.Merge.{is_null}
use Rattle.members.specs.Links.{low_part}
use Rattle.members.specs.Records.{word}
use Rattle.patch.specs.Stands.{Stands}
use Rattle.reader.specs.Tokens.{brace}
use Rattle.scan.specs.Numbers.{opens_number}
use Rattle.spell.specs.Scalars.{Scalar}
use Rattle.text.proofs.Offsets.{start}
use Rattle.text.specs.Bytes.{Bytes}
use Rattle.text.specs.Node.{Literal, Node}
use Rattle.text.specs.Table.{Words}
use Rattle.values.proofs.Records.{not_first}
use Rattle.values.specs.Held.{Held, Holds}
use Rattle.writer.specs.Entering.{Opened}
use borrow.Author.Tests.{eq-eqb, eqb-true, ne_eqb}
use lib.Dec.{eqb}
use lib.ListN.{get_or}
use mathlib.Core.Bool.{true≢false}
use mathlib.Core.Path.{◌∙◌, ◌≡◌, ap, refl, sym}
use native.Mathlib.Omega.{arith}

-- Sorting keeps the kind, and only objects begin with a brace, only null with its first letter.
module _ {t : Bytes} {w : Words} {k : ℕ} where
  holds_object : {n : Node} → Holds t w k n → eqb (get_or t (start n) 0) brace ≡ is_object (canon (tree n))
  unfolding start tree canon is_object
  holds_object (Holds.literal {p = p} s) = ne_eqb (get_or t p 0) brace (not_first s brace refl)
  holds_object (Holds.string {p = p} s) = ne_eqb (get_or t p 0) brace (not_first s brace refl)
  holds_object (Holds.number {p = p} s) = ne_eqb (get_or t p 0) brace (not_first s brace refl)
  holds_object (Holds.array {p = p} e h) = ne_eqb (get_or t p 0) brace (λ f. omega (arith, e, f))
  holds_object (Holds.object {p = p} e s h) = eq-eqb (get_or t p 0) brace e

  holds_null : {n : Node} → Holds t w k n → eqb (get_or t (start n) 0) (code "n") ≡ is_null (canon (tree n))
  unfolding start tree canon is_null spelling
  holds_null (Holds.literal {p = p} {l = Literal.null} (Scalar.word e)) = eq-eqb (get_or t p 0) (code "n") e
  holds_null (Holds.literal {p = p} {l = Literal.true} (Scalar.word e)) = ne_eqb (get_or t p 0) (code "n") (λ f. omega (arith, e, f))
  holds_null (Holds.literal {p = p} {l = Literal.false} (Scalar.word e)) = ne_eqb (get_or t p 0) (code "n") (λ f. omega (arith, e, f))
  holds_null (Holds.string {p = p} (Scalar.string e f)) = ne_eqb (get_or t p 0) (code "n") (λ g. omega (arith, e, g))
  holds_null (Holds.number {p = p} (Scalar.number e l m n)) = ne_eqb (get_or t p 0) (code "n") (λ f. true≢false (sym e ∙ ap opens_number f))
  holds_null (Holds.array {p = p} e h) = ne_eqb (get_or t p 0) (code "n") (λ f. omega (arith, e, f))
  holds_null (Holds.object {p = p} e s h) = ne_eqb (get_or t p 0) (code "n") (λ f. omega (arith, e, f))

-- So the byte that a record points at tells.
module _ {t : Bytes} {w : Words} {r d : ℕ} where
  pub object_first : {v : Tree} (i : ℕ) → i ≡ word w r 0 % low_part → Stands t w r d v → eqb (get_or t i 0) brace ≡ is_object v
  object_first i e (Stands.stands l (Held.held x s y) k f) = ap (λ i. eqb (get_or t i 0) brace) (e ∙ x.first) ∙ holds_object y ∙ ap is_object f

  pub null_first : {v : Tree} (i : ℕ) → i ≡ word w r 0 % low_part → Stands t w r d v → eqb (get_or t i 0) (code "n") ≡ is_null v
  null_first i e (Stands.stands l (Held.held x s y) k f) = ap (λ i. eqb (get_or t i 0) (code "n")) (e ∙ x.first) ∙ holds_null y ∙ ap is_null f

  -- An object is a container that a brace opens.
  pub object_opened : {ps : Pairs} → Stands t w r d (Tree.object ps) → Opened t w r brace
  unfolding is_object
  object_opened s = record { byte = eqb-true (get_or t (word w r 0 % low_part) 0) brace (object_first _ refl s); kind = refl }
