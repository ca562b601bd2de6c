-- Target and patch walked side by side.
use Rattle.std.specs.Prelude.{ℕ, Bool, Option, [], ◌∷◌, ◌++◌, ◌≡◌}
use Rattle.meaning.proofs.SideBySide.{Merged, Side}
use Rattle.meaning.specs.Canonical.{put, put_rest}
use Rattle.meaning.specs.Meaning.{Pairs, Tree}
use Rattle.members.specs.declared.chain.Chain.{Chain}
use Rattle.patch.specs.Emits.{Emits}
use Rattle.patch.specs.Stands.{Chained, Old, Stands}
use Rattle.text.specs.Bytes.{Bytes}
use Rattle.text.specs.Table.{Words}

-- `c` is the canonical text of record `x` of the target, or of nothing, merged with record `y` of the patch.
pub data Merges (t p : Bytes) (w u : Words) (d : ℕ) (x : Option ℕ) (y : ℕ) (c : Bytes) : Type 0 where
  merges : {a b r : Tree} → Old t w d x a → Stands p u y d b → Merged a b r → put r [] ≡ c → Merges t p w u d x y c

-- `c` is the text of the object whose members are those of the chain `a` of the target, merged with those of the chain
-- `b` of the patch.
pub data Sides (t p : Bytes) (w u : Words) (d : ℕ) (a b : Chain) (c : Bytes) : Type 0 where
  sides : {ps qs rs : Pairs} → Chained t w d a.count a.head ps → Chained p u d b.count b.head qs → Side ps qs rs → put (Tree.object rs) [] ≡ c → Sides t p w u d a b c

-- What is left of an object's text behind `done`, with the members `rs` to come.
unfoldable pub left : Bytes → Pairs → Bytes
left [] rs = put (Tree.object rs) []
left (b ∷ done) rs = put_rest rs []

-- Of the text `c` the beginning is done, and the members of these chains are to come.
pub record Going (t p : Bytes) (w u : Words) (d : ℕ) (a b : Chain) (on : Bool) (o : Bytes) (at : ℕ) (o' c : Bytes) : Type 0 where
  pub olds : Pairs
  pub news : Pairs
  pub merged : Pairs
  pub target : Chained t w d a.count a.head olds
  pub patch : Chained p u d b.count b.head news
  pub side : Side olds news merged
  pub done : Bytes
  pub whole : c ≡ done ++ left done merged
  pub emitted : Emits on done o at o'
