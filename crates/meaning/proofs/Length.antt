-- What is written for a tree fits in its width, and the width of a tree that was read is at most six times the
-- length of its text.
use Prim.Native.Char.{code}
use Prim.Native.Nat.{◌%◌, ◌*◌, ◌+◌, ◌/◌, ◌≤◌, ℕ}
use Rattle.meaning.proofs.NumberLength.{number_alone, number_length}
use Rattle.meaning.specs.Canonical.{hex_digit, is_bare, put, put_array, put_elements, put_number, put_object, put_rest, put_unit, put_units, spelling}
use Rattle.meaning.specs.Meaning.{Pairs, Tree, Trees, pairs, tree, trees}
use Rattle.text.proofs.Takes.{chars_take, left, word_takes}
use Rattle.text.specs.Bytes.{Bytes, Source, Units}
use Rattle.text.specs.Ceilings.{house}
use Rattle.text.specs.Grammar.{Array, Elements, Member, Named, Object, Rest, Text, Value}
use Rattle.text.specs.Node.{Members, Node, Nodes}
use lib.Dec.{eqb}
use lib.ListN.{length, length-append}
use mathlib.Core.Bool.{Bool, ◌||◌, false, true}
use mathlib.Core.List.{List, [], ◌∷◌}
use native.Mathlib.Omega.{arith}
use Rattle.text.specs.Grammar as rule

-- Room that is enough for a tree, whatever the order of its members.
unfoldable mutual
  pub width : Tree → ℕ
  width (Tree.literal w) = length (spelling w)
  width (Tree.string us) = 2 + 6 * length us
  width (Tree.number x) = length (put_number x [])
  width (Tree.array ts) = 2 + width_all ts
  width (Tree.object ps) = 2 + width_pairs ps

  pub width_all : Trees → ℕ
  width_all Trees.nil = 0
  width_all (Trees.cons t ts) = 1 + (width t + width_all ts)

  pub width_pairs : Pairs → ℕ
  width_pairs Pairs.empty = 0
  width_pairs (Pairs.pair k t ps) = 4 + (6 * length k + (width t + width_pairs ps))

-- The writing of a unit, and of a string.
unit_length : (u : ℕ) (o : Bytes) → length (put_unit u o) ≤ 6 + length o
unfolding put_unit
unit_length u o = by (is_bare u) (eqb u (code "\"") || eqb u (code "\\"))
  where
    by : (a b : Bool) → length {A = ℕ} (elim a as (λ _. Bytes) [
      | true ↦ u ∷ o
      | false ↦ elim b as (λ _. Bytes) [
        | true ↦ code "\\" ∷ u ∷ o
        | false ↦ code "\\" ∷ code "u" ∷ hex_digit (u / 4096 % 16) ∷ hex_digit (u / 256 % 16) ∷ hex_digit (u / 16 % 16) ∷ hex_digit (u % 16) ∷ o
      ]
    ]) ≤ 6 + length o
    by true b = omega arith
    by false true = omega arith
    by false false = omega arith

pub units_length : (us : Units) (o : Bytes) → length (put_units us o) ≤ 6 * length us + length o
unfolding put_units
units_length [] o = omega arith
units_length (u ∷ us) o = omega (arith, unit_length u (put_units us o), units_length us o)

-- What is written fits in that room.
mutual
  unfolding put width

  pub put_length : (t : Tree) (o : Bytes) → length (put t o) ≤ width t + length o
  put_length (Tree.literal w) o = omega (arith, length-append (spelling w) o)
  put_length (Tree.string us) o = omega (arith, units_length us (code "\"" ∷ o))
  put_length (Tree.number x) o = omega (arith, number_alone x o)
  put_length (Tree.array ts) o = omega (arith, array_length ts o)
  put_length (Tree.object ps) o = omega (arith, object_length ps o)

  array_length : (ts : Trees) (o : Bytes) → length (put_array ts o) ≤ 1 + width_all ts + length o
  array_length Trees.nil o = omega arith
  array_length (Trees.cons t ts) o = omega (arith, put_length t (put_elements ts o), elements_length ts o)

  elements_length : (ts : Trees) (o : Bytes) → length (put_elements ts o) ≤ 1 + width_all ts + length o
  elements_length Trees.nil o = omega arith
  elements_length (Trees.cons t ts) o = omega (arith, put_length t (put_elements ts o), elements_length ts o)

  object_length : (ps : Pairs) (o : Bytes) → length (put_object ps o) ≤ 1 + width_pairs ps + length o
  object_length Pairs.empty o = omega arith
  object_length (Pairs.pair k t ps) o = omega (arith, units_length k (code "\"" ∷ code ":" ∷ put t (put_rest ps o)), put_length t (put_rest ps o), rest_length ps o)

  rest_length : (ps : Pairs) (o : Bytes) → length (put_rest ps o) ≤ 1 + width_pairs ps + length o
  rest_length Pairs.empty o = omega arith
  rest_length (Pairs.pair k t ps) o = omega (arith, units_length k (code "\"" ∷ code ":" ∷ put t (put_rest ps o)), put_length t (put_rest ps o), rest_length ps o)

-- Six for each byte that was read are enough for that room.
mutual
  unfolding tree width spelling

  value_length : {d : ℕ} {i o : Source} {v : Node} → Value house d i o v → width (tree v) + 6 * left o ≤ 6 * left i
  value_length (rule.value_space w x) = omega (arith, value_length x)
  value_length (rule.null w) = omega (arith, word_takes w)
  value_length (rule.true w) = omega (arith, word_takes w)
  value_length (rule.false w) = omega (arith, word_takes w)
  value_length (rule.string x) = omega (arith, chars_take x)
  value_length (rule.number x) = number_length x
  value_length (rule.array t x) = omega (arith, array_takes x)
  value_length (rule.object t x) = omega (arith, object_takes x)

  array_takes : {d : ℕ} {i o : Source} {vs : Nodes} → Array house d i o vs → width_all (trees vs) + 5 + 6 * left o ≤ 6 * left i
  array_takes (rule.array_space w x) = omega (arith, array_takes x)
  array_takes rule.array_close = omega arith
  array_takes (rule.array_first x y) = omega (arith, value_length x, elements_take y)

  elements_take : {d : ℕ} {i o : Source} {vs : Nodes} → Elements house d i o vs → width_all (trees vs) + 6 + 6 * left o ≤ 6 * left i
  elements_take (rule.elements_space w x) = omega (arith, elements_take x)
  elements_take rule.elements_close = omega arith
  elements_take (rule.elements_comma x y) = omega (arith, value_length x, elements_take y)

  object_takes : {d : ℕ} {i o : Source} {ms : Members} → Object house d i o ms → width_pairs (pairs ms) + 6 + 6 * left o ≤ 6 * left i
  object_takes (rule.object_space w x) = omega (arith, object_takes x)
  object_takes rule.object_close = omega arith
  object_takes (rule.object_first x) = omega (arith, member_takes x)

  member_takes : {d : ℕ} {ns : List Units} {i o : Source} {ms : Members} → Member house d ns i o ms → width_pairs (pairs ms) + 6 + 6 * left o ≤ 6 * left i
  member_takes (rule.member_space w x) = omega (arith, member_takes x)
  member_takes (rule.member_name s t x) = omega (arith, chars_take s, named_takes x)

  named_takes : {d q : ℕ} {ns : List Units} {us : Units} {i o : Source} {ms : Members} → Named house d ns q us i o ms → width_pairs (pairs ms) + 6 * left o ≤ 6 * length us + 6 * left i
  named_takes (rule.named_space w x) = omega (arith, named_takes x)
  named_takes (rule.named_colon x y) = omega (arith, value_length x, rest_takes y)

  rest_takes : {d : ℕ} {ns : List Units} {i o : Source} {ms : Members} → Rest house d ns i o ms → width_pairs (pairs ms) + 6 + 6 * left o ≤ 6 * left i
  rest_takes (rule.rest_space w x) = omega (arith, rest_takes x)
  rest_takes rule.rest_close = omega arith
  rest_takes (rule.rest_comma x) = omega (arith, member_takes x)

pub text_length : {t : Bytes} {v : Node} → Text house t v → width (tree v) ≤ 6 * length t
text_length (Text.text x e) = omega (arith, value_length x)
