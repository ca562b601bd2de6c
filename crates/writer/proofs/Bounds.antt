-- What is written for a name or a scalar is some six times as long as the text at most, so that sums of lengths fit.
use Prim.Native.Char.{code}
use Prim.Native.Nat.{◌*◌, ◌+◌, ◌≤◌, ℕ}
use Rattle.meaning.proofs.Length.{units_length}
use Rattle.meaning.proofs.NumberLength.{number_length}
use Rattle.meaning.proofs.Weight.{own}
use Rattle.meaning.specs.Canonical.{put, spelling}
use Rattle.meaning.specs.Meaning.{Pairs, Tree, Trees, pairs, tree, trees}
use Rattle.members.specs.Names.{name_at}
use Rattle.names.specs.Units.{escaped, hexed, units}
use Rattle.spell.specs.Scalars.{Scalar, quoted}
use Rattle.text.specs.Bytes.{Bytes, Units, escape_unit}
use Rattle.text.specs.Node.{Literal, Node}
use Rattle.text.specs.Table.{Words, unnamed}
use Rattle.values.specs.Held.{Held, Holds}
use Rattle.writer.proofs.Naming.{case}
use Rattle.writer.specs.Writes.{named}
use lib.Dec.{eqb}
use lib.ListN.{drop, length, length-append, length-drop}
use mathlib.Core.Bool.{Bool, cond, false, true}
use mathlib.Core.List.{[], ◌∷◌}
use mathlib.Core.Path.{ap}
use native.Mathlib.Omega.{arith}

-- A string has no more units than bytes.
cond_most : (b : Bool) (x y : Units) {n : ℕ} → length x ≤ n → length y ≤ n → length (cond b x y) ≤ n
cond_most true x y h k = h
cond_most false x y h k = k

mutual
  unfolding units

  units_most : (s : Bytes) → length (units s) ≤ length s
  units_most [] = omega arith
  units_most (b ∷ s) =
      cond_most (eqb b (code "\"")) [] (cond (eqb b (code "\\")) (escaped s) (b ∷ units s)) (omega arith)
      (cond_most (eqb b (code "\\")) (escaped s) (b ∷ units s) (omega (arith, escaped_most s)) (omega (arith, units_most s)))

  escaped_most : (s : Bytes) → length (escaped s) ≤ length s
  escaped_most [] = omega arith
  escaped_most (b ∷ s) = cond_most (eqb b (code "u")) (hexed s) (escape_unit b ∷ units s) (omega (arith, hexed_most s)) (omega (arith, units_most s))

  hexed_most : (s : Bytes) → length (hexed s) ≤ length s
  hexed_most [] = omega arith
  hexed_most (a ∷ []) = omega arith
  hexed_most (a ∷ b ∷ []) = omega arith
  hexed_most (a ∷ b ∷ c ∷ []) = omega arith
  hexed_most (a ∷ b ∷ c ∷ d ∷ s) = omega (arith, units_most s)

pub quoted_most : (t : Bytes) (q : ℕ) → length (quoted (name_at t q)) ≤ 2 + 6 * length t
quoted_most t q = omega (arith, units_length (name_at t q) (code "\"" ∷ []), units_most (drop (q + 1) t), length-drop (q + 1) t)

pub named_most : (t : Bytes) (q : ℕ) → length (named t q) ≤ 3 + 6 * length t
unfolding named
named_most t q = by (eqb q unnamed)
  where
    by : (b : Bool) → length (case t q b) ≤ 3 + 6 * length t
    by true = omega arith
    by false = omega (arith, quoted_most t q, length-append (quoted (name_at t q)) (code ":" ∷ []))

spelling_most : (l : Literal) → length (spelling l) ≤ 5
unfolding spelling
spelling_most Literal.null = omega arith
spelling_most Literal.true = omega arith
spelling_most Literal.false = omega arith

scalar_most : {t : Bytes} {p q : ℕ} {x : Tree} → Scalar t p q x → length (put x []) ≤ 5 + 6 * length t
unfolding put
scalar_most (Scalar.word {l = l} e) = omega (arith, spelling_most l, length-append (spelling l) [])
scalar_most {t} {p} (Scalar.string e f) = omega (arith, quoted_most t p, ap (λ us. length (quoted us)) f)
scalar_most {t} {p} (Scalar.number e l m n) = omega (arith, number_length n, length-drop p t)

array_most : (ts : Trees) → own (Tree.array ts) ≤ 2
unfolding own
array_most Trees.nil = omega arith
array_most (Trees.cons t ts) = omega arith

object_most : (ps : Pairs) → own (Tree.object ps) ≤ 2
unfolding own
object_most Pairs.empty = omega arith
object_most (Pairs.pair k t ps) = omega arith

pub own_most : {t : Bytes} {w : Words} {k : ℕ} {v : Node} → Held t w k v → own (tree v) ≤ 5 + 6 * length t
unfolding own tree
own_most (Held.held r i (Holds.literal s)) = scalar_most s
own_most (Held.held r i (Holds.string s)) = scalar_most s
own_most (Held.held r i (Holds.number s)) = scalar_most s
own_most (Held.held r i (Holds.array {vs = vs} e h)) = omega (arith, array_most (trees vs))
own_most (Held.held r i (Holds.object {ms = ms} e s h)) = omega (arith, object_most (pairs ms))
