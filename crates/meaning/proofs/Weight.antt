-- The exact length of canonical text, whatever the order of members: a container counts one byte (two where it is
-- empty), and each entry of it a comma, its name and its value.
use Prim.Native.Char.{code}
use Prim.Native.Nat.{◌+◌, suc, ℕ}
use Rattle.meaning.proofs.Append.{put_alone, units_append}
use Rattle.meaning.proofs.Order.{before}
use Rattle.meaning.proofs.Sorting.{canon, canon_all, canon_pairs, insert}
use Rattle.meaning.specs.Canonical.{put, put_array, put_elements, put_object, put_rest, put_units}
use Rattle.meaning.specs.Meaning.{Pairs, Tree, Trees}
use Rattle.text.specs.Bytes.{Bytes, Units}
use lib.ListN.{length, length-append}
use mathlib.Core.Bool.{Bool, false, true}
use mathlib.Core.List.{[], ◌∷◌}
use mathlib.Core.Path.{◌∙◌, ◌≡◌, ap, ap₂, refl}
use native.Mathlib.Omega.{arith}

-- What a value counts apart from what is inside it.
unfoldable pub own : Tree → ℕ
own (Tree.literal w) = length (put (Tree.literal w) [])
own (Tree.string us) = length (put (Tree.string us) [])
own (Tree.number x) = length (put (Tree.number x) [])
own (Tree.array Trees.nil) = 2
own (Tree.array (Trees.cons t ts)) = 1
own (Tree.object Pairs.empty) = 2
own (Tree.object (Pairs.pair k t ps)) = 1

-- What a name counts, with its quotes and its colon.
unfoldable pub called : Units → ℕ
called k = 2 + length (put_units k (code "\"" ∷ []))

unfoldable mutual
  pub weigh : Tree → ℕ
  weigh (Tree.literal w) = own (Tree.literal w)
  weigh (Tree.string us) = own (Tree.string us)
  weigh (Tree.number x) = own (Tree.number x)
  weigh (Tree.array ts) = own (Tree.array ts) + weigh_all ts
  weigh (Tree.object ps) = own (Tree.object ps) + weigh_pairs ps

  pub weigh_all : Trees → ℕ
  weigh_all Trees.nil = 0
  weigh_all (Trees.cons t ts) = 1 + (weigh t + weigh_all ts)

  pub weigh_pairs : Pairs → ℕ
  weigh_pairs Pairs.empty = 0
  weigh_pairs (Pairs.pair k t ps) = 1 + (called k + (weigh t + weigh_pairs ps))

-- It is what is written for a tree, and for a name behind its opening quote.
alone_length : (t : Tree) (o : Bytes) → length (put t o) ≡ length (put t []) + length o
alone_length t o = ap length (put_alone t o) ∙ length-append (put t []) o

name_length : (k : Units) (o : Bytes) → 1 + length (put_units k (code "\"" ∷ code ":" ∷ o)) ≡ called k + length o
unfolding called
name_length k o =
    omega (arith, ap length (units_append k (code "\"" ∷ []) (code ":" ∷ o)), length-append (put_units k (code "\"" ∷ [])) (code ":" ∷ o))

mutual
  unfolding put own weigh

  pub put_weigh : (t : Tree) (o : Bytes) → length (put t o) ≡ weigh t + length o
  put_weigh (Tree.literal w) o = alone_length (Tree.literal w) o
  put_weigh (Tree.string us) o = alone_length (Tree.string us) o
  put_weigh (Tree.number x) o = alone_length (Tree.number x) o
  put_weigh (Tree.array ts) o = array_weigh ts o
  put_weigh (Tree.object ps) o = object_weigh ps o

  array_weigh : (ts : Trees) (o : Bytes) → suc (length (put_array ts o)) ≡ own (Tree.array ts) + weigh_all ts + length o
  array_weigh Trees.nil o = omega arith
  array_weigh (Trees.cons t ts) o = omega (arith, put_weigh t (put_elements ts o), elements_weigh ts o)

  elements_weigh : (ts : Trees) (o : Bytes) → length (put_elements ts o) ≡ 1 + weigh_all ts + length o
  elements_weigh Trees.nil o = omega arith
  elements_weigh (Trees.cons t ts) o = omega (arith, put_weigh t (put_elements ts o), elements_weigh ts o)

  object_weigh : (ps : Pairs) (o : Bytes) → suc (length (put_object ps o)) ≡ own (Tree.object ps) + weigh_pairs ps + length o
  object_weigh Pairs.empty o = omega arith
  object_weigh (Pairs.pair k t ps) o = omega (arith, name_length k (put t (put_rest ps o)), put_weigh t (put_rest ps o), rest_weigh ps o)

  rest_weigh : (ps : Pairs) (o : Bytes) → length (put_rest ps o) ≡ 1 + weigh_pairs ps + length o
  rest_weigh Pairs.empty o = omega arith
  rest_weigh (Pairs.pair k t ps) o = omega (arith, name_length k (put t (put_rest ps o)), put_weigh t (put_rest ps o), rest_weigh ps o)

-- Sorting does not change it.
insert_weigh : (k : Units) (t : Tree) (ps : Pairs) → weigh_pairs (insert k t ps) ≡ weigh_pairs (Pairs.pair k t ps)
unfolding insert weigh
insert_weigh k t Pairs.empty = refl
insert_weigh k t (Pairs.pair j s ps) = by (before k j) (insert_weigh k t ps)
  where
    by : (b : Bool) → weigh_pairs (insert k t ps) ≡ weigh_pairs (Pairs.pair k t ps)
        → weigh_pairs (elim b as (λ _. Pairs) [ true ↦ Pairs.pair k t (Pairs.pair j s ps) | false ↦ Pairs.pair j s (insert k t ps) ]) ≡ weigh_pairs (Pairs.pair k t (Pairs.pair j s ps))
    by true h = refl
    by false h = omega arith

insert_own : (k : Units) (t : Tree) (ps : Pairs) → own (Tree.object (insert k t ps)) ≡ 1
unfolding insert own
insert_own k t Pairs.empty = refl
insert_own k t (Pairs.pair j s ps) = by (before k j)
  where
    by : (b : Bool) → own (Tree.object (elim b as (λ _. Pairs) [ true ↦ Pairs.pair k t (Pairs.pair j s ps) | false ↦ Pairs.pair j s (insert k t ps) ])) ≡ 1
    by true = refl
    by false = refl

own_canon : (t : Tree) → own (canon t) ≡ own t
unfolding canon own
own_canon (Tree.literal w) = refl
own_canon (Tree.string us) = refl
own_canon (Tree.number x) = refl
own_canon (Tree.array Trees.nil) = refl
own_canon (Tree.array (Trees.cons t ts)) = refl
own_canon (Tree.object Pairs.empty) = refl
own_canon (Tree.object (Pairs.pair k t ps)) = insert_own k (canon t) (canon_pairs ps)

mutual
  unfolding canon weigh

  weigh_canon : (t : Tree) → weigh (canon t) ≡ weigh t
  weigh_canon (Tree.literal w) = refl
  weigh_canon (Tree.string us) = refl
  weigh_canon (Tree.number x) = refl
  weigh_canon (Tree.array ts) = ap₂ ◌+◌ (own_canon (Tree.array ts)) (weigh_canon_all ts)
  weigh_canon (Tree.object ps) = ap₂ ◌+◌ (own_canon (Tree.object ps)) (weigh_canon_pairs ps)

  weigh_canon_all : (ts : Trees) → weigh_all (canon_all ts) ≡ weigh_all ts
  weigh_canon_all Trees.nil = refl
  weigh_canon_all (Trees.cons t ts) = omega (arith, weigh_canon t, weigh_canon_all ts)

  weigh_canon_pairs : (ps : Pairs) → weigh_pairs (canon_pairs ps) ≡ weigh_pairs ps
  weigh_canon_pairs Pairs.empty = refl
  weigh_canon_pairs (Pairs.pair k t ps) = omega (arith, insert_weigh k (canon t) (canon_pairs ps), weigh_canon t, weigh_canon_pairs ps)

pub canon_weigh : (t : Tree) → length (put (canon t) []) ≡ weigh t
canon_weigh t = omega (arith, put_weigh (canon t) [], weigh_canon t)
