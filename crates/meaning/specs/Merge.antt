-- Merge patch, in the words of RFC 7396 section 2. 01 "Merge patch".
use Rattle.meaning.specs.Meaning.{Tree, Pairs}
use Rattle.text.specs.Bytes.{Units}
use Rattle.text.specs.Ceilings.{same}
use Rattle.text.specs.Node.{Literal}
use Rattle.std.specs.Prelude.{Bool, true, false}

-- The members of a target, none where it isn't an object.
unfoldable pub members_of : Tree → Pairs
members_of (Tree.literal w) = Pairs.empty
members_of (Tree.string us) = Pairs.empty
members_of (Tree.number x) = Pairs.empty
members_of (Tree.array ts) = Pairs.empty
members_of (Tree.object ps) = ps

unfoldable pub is_null : Tree → Bool
is_null (Tree.literal Literal.null) = true
is_null (Tree.literal Literal.true) = false
is_null (Tree.literal Literal.false) = false
is_null (Tree.string us) = false
is_null (Tree.number x) = false
is_null (Tree.array ts) = false
is_null (Tree.object ps) = false

-- The value of a name, `null` (which isn't an object) where there is none; the members without a name.
unfoldable pub find : Pairs → Units → Tree
find Pairs.empty k = Tree.literal Literal.null
find (Pairs.pair j t ps) k = elim (same k j) [ true ↦ t | false ↦ find ps k ]

unfoldable pub remove : Units → Pairs → Pairs
remove k Pairs.empty = Pairs.empty
remove k (Pairs.pair j t ps) = elim (same k j) [ true ↦ remove k ps | false ↦ Pairs.pair j t (remove k ps) ]

-- MergePatch(Target, Patch), and its loop over the patch's members.
unfoldable mutual
  unfolding find remove is_null members_of

  pub merge : Tree → Tree → Tree
  merge t (Tree.literal w) = Tree.literal w
  merge t (Tree.string us) = Tree.string us
  merge t (Tree.number x) = Tree.number x
  merge t (Tree.array ts) = Tree.array ts
  merge t (Tree.object ps) = Tree.object (merge_into (members_of t) ps)

  pub merge_into : Pairs → Pairs → Pairs
  merge_into ms Pairs.empty = ms
  merge_into ms (Pairs.pair k p ps) =
      merge_into (elim (is_null p) [ true ↦ remove k ms | false ↦ Pairs.pair k (merge (find ms k) p) (remove k ms) ]) ps
