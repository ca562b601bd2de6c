-- How long a merge can be: no longer than target and patch together.
use Prim.Native.Nat.{ℕ, ◌+◌, ◌≤◌}
use Rattle.meaning.proofs.SideBySide.{Merged, Side}
use Rattle.meaning.proofs.Weight.{own, weigh, weigh_pairs}
use Rattle.meaning.specs.Meaning.{Pairs, Tree}
use Rattle.meaning.specs.Merge.{members_of}
use native.Mathlib.Omega.{arith}

members_weigh : (t : Tree) → weigh_pairs (members_of t) ≤ weigh t
unfolding members_of weigh
members_weigh (Tree.literal w) = omega arith
members_weigh (Tree.string us) = omega arith
members_weigh (Tree.number x) = omega arith
members_weigh (Tree.array ts) = omega arith
members_weigh (Tree.object ps) = omega arith

-- An object counts a byte apart from its members, two if it has none.
shell : (n : ℕ) (rs qs : Pairs) → weigh_pairs rs ≤ n + weigh_pairs qs → own (Tree.object rs) + weigh_pairs rs ≤ n + (own (Tree.object qs) + weigh_pairs qs)
unfolding own weigh
shell n Pairs.empty Pairs.empty l = omega arith
shell n Pairs.empty (Pairs.pair k t qs) l = omega arith
shell n (Pairs.pair k t rs) Pairs.empty l = omega arith
shell n (Pairs.pair k t rs) (Pairs.pair j p qs) l = omega arith

-- A merge is no longer than the patch and the target's members.
mutual
  unfolding weigh members_of

  merged_weigh : {t p r : Tree} → Merged t p r → weigh r ≤ weigh_pairs (members_of t) + weigh p
  merged_weigh (Merged.plain e) = omega arith
  merged_weigh (Merged.object {t = t} {qs = qs} {rs = rs} s) = shell (weigh_pairs (members_of t)) rs qs (side_weigh s)

  side_weigh : {ps qs rs : Pairs} → Side ps qs rs → weigh_pairs rs ≤ weigh_pairs ps + weigh_pairs qs
  side_weigh Side.end = omega arith
  side_weigh (Side.keep _ _ s) = omega (arith, side_weigh s)
  side_weigh (Side.skip _ _ z s) = omega (arith, side_weigh s)
  side_weigh (Side.new _ _ z m s) = omega (arith, merged_weigh m, side_weigh s)
  side_weigh (Side.remove _ _ z s) = omega (arith, side_weigh s)
  side_weigh (Side.change {t = t} _ _ z m s) = omega (arith, merged_weigh m, members_weigh t, side_weigh s)

pub merge_weigh : {t p r : Tree} → Merged t p r → weigh r ≤ weigh t + weigh p
merge_weigh {t} m = omega (arith, merged_weigh m, members_weigh t)
