-- How deep a tree's containers lie in one another. 01 "Merge patch": the result's depth can't exceed the deeper
-- input's.
use Prim.Native.Nat.{◌+◌, ◌≤◌, max, suc, ℕ}
use Rattle.meaning.proofs.Keeps.{Keeps, KeepsAll, KeepsPairs}
use Rattle.meaning.proofs.Merging.{step}
use Rattle.meaning.specs.Meaning.{Pairs, Tree, Trees}
use Rattle.meaning.specs.Merge.{find, is_null, members_of, merge, merge_into, remove}
use Rattle.text.specs.Bytes.{Units}
use Rattle.text.specs.Ceilings.{max_depth, same}
use mathlib.Core.Bool.{Bool, false, true}
use native.Mathlib.Omega.{arith}

-- 0 for a scalar, and for a container one more than the greatest depth inside.
unfoldable mutual
  pub depth : Tree → ℕ
  depth (Tree.literal w) = 0
  depth (Tree.string us) = 0
  depth (Tree.number x) = 0
  depth (Tree.array ts) = suc (depth_all ts)
  depth (Tree.object ps) = suc (depth_pairs ps)

  pub depth_all : Trees → ℕ
  depth_all Trees.nil = 0
  depth_all (Trees.cons t ts) = max (depth t) (depth_all ts)

  pub depth_pairs : Pairs → ℕ
  depth_pairs Pairs.empty = 0
  depth_pairs (Pairs.pair k t ps) = max (depth t) (depth_pairs ps)

-- It is what the ceiling on depth bounds.
mutual
  unfolding depth

  pub keeps_depth : {d : ℕ} {t : Tree} → d ≤ max_depth → Keeps d t → d + depth t ≤ max_depth
  keeps_depth h Keeps.literal = omega arith
  keeps_depth h (Keeps.string u) = omega arith
  keeps_depth h (Keeps.number x) = omega arith
  keeps_depth {d} h (Keeps.array {ts = ts} l o) = let r : suc d + depth_all ts ≤ max_depth = keeps_depth_all (omega arith) o in omega arith
  keeps_depth {d} h (Keeps.object {ps = ps} l o) = let r : suc d + depth_pairs ps ≤ max_depth = keeps_depth_pairs (omega arith) o in omega arith

  keeps_depth_all : {d : ℕ} {ts : Trees} → d ≤ max_depth → KeepsAll d ts → d + depth_all ts ≤ max_depth
  keeps_depth_all h KeepsAll.nil = omega arith
  keeps_depth_all {d} h (KeepsAll.cons {t = t} {ts = ts} o os) =
      let a : d + depth t ≤ max_depth = keeps_depth h o in
      let b : d + depth_all ts ≤ max_depth = keeps_depth_all h os in
      omega arith

  keeps_depth_pairs : {d : ℕ} {ps : Pairs} → d ≤ max_depth → KeepsPairs d ps → d + depth_pairs ps ≤ max_depth
  keeps_depth_pairs h KeepsPairs.empty = omega arith
  keeps_depth_pairs {d} h (KeepsPairs.pair {t = t} {ps = ps} u f o os) =
      let a : d + depth t ≤ max_depth = keeps_depth h o in
      let b : d + depth_pairs ps ≤ max_depth = keeps_depth_pairs h os in
      omega arith

-- No part that the merge takes from the target is deeper than the target's members.
depth_remove : (k : Units) (ps : Pairs) → depth_pairs (remove k ps) ≤ depth_pairs ps
unfolding remove depth
depth_remove k Pairs.empty = omega arith
depth_remove k (Pairs.pair j t ps) = by (same k j) (depth_remove k ps)
  where
    by : (b : Bool) → depth_pairs (remove k ps) ≤ depth_pairs ps
        → depth_pairs (elim b as (λ _. Pairs) [ true ↦ remove k ps | false ↦ Pairs.pair j t (remove k ps) ]) ≤ max (depth t) (depth_pairs ps)
    by true h = omega arith
    by false h = omega arith

depth_find : (ps : Pairs) (k : Units) → depth (find ps k) ≤ depth_pairs ps
unfolding find depth
depth_find Pairs.empty k = omega arith
depth_find (Pairs.pair j t ps) k = by (same k j) (depth_find ps k)
  where
    by : (b : Bool) → depth (find ps k) ≤ depth_pairs ps → depth (elim b as (λ _. Tree) [ true ↦ t | false ↦ find ps k ]) ≤ max (depth t) (depth_pairs ps)
    by true h = omega arith
    by false h = omega arith

depth_members : (t : Tree) → suc (depth_pairs (members_of t)) ≤ max 1 (depth t)
unfolding members_of depth
depth_members (Tree.literal w) = omega arith
depth_members (Tree.string us) = omega arith
depth_members (Tree.number x) = omega arith
depth_members (Tree.array ts) = omega arith
depth_members (Tree.object ps) = omega arith

depth_step : (ms : Pairs) (k : Units) (p r : Tree) → depth_pairs (step ms k p r) ≤ max (depth r) (depth_pairs ms)
unfolding step depth
depth_step ms k p r = by (is_null p) (depth_remove k ms)
  where
    by : (b : Bool) → depth_pairs (remove k ms) ≤ depth_pairs ms
        → depth_pairs (elim b as (λ _. Pairs) [ true ↦ remove k ms | false ↦ Pairs.pair k r (remove k ms) ]) ≤ max (depth r) (depth_pairs ms)
    by true h = omega arith
    by false h = omega arith

-- The result's depth can't exceed the deeper input's.
mutual
  unfolding merge step depth

  pub depth_merge : (t p : Tree) → depth (merge t p) ≤ max (depth t) (depth p)
  depth_merge t (Tree.literal w) = omega arith
  depth_merge t (Tree.string us) = omega arith
  depth_merge t (Tree.number x) = omega arith
  depth_merge t (Tree.array ts) = omega arith
  depth_merge t (Tree.object ps) =
      let a : depth_pairs (merge_into (members_of t) ps) ≤ max (depth_pairs (members_of t)) (depth_pairs ps) = depth_into (members_of t) ps in
      let b : suc (depth_pairs (members_of t)) ≤ max 1 (depth t) = depth_members t in
      omega arith

  depth_into : (ms ps : Pairs) → depth_pairs (merge_into ms ps) ≤ max (depth_pairs ms) (depth_pairs ps)
  depth_into ms Pairs.empty = omega arith
  depth_into ms (Pairs.pair k p ps) = by (merge (find ms k) p) (depth_merge (find ms k) p) (depth_into (step ms k p (merge (find ms k) p)) ps)
    where
      by : (r : Tree) → depth r ≤ max (depth (find ms k)) (depth p) → depth_pairs (merge_into (step ms k p r) ps) ≤ max (depth_pairs (step ms k p r)) (depth_pairs ps)
          → depth_pairs (merge_into (step ms k p r) ps) ≤ max (depth_pairs ms) (max (depth p) (depth_pairs ps))
      by r a b =
          let c : depth_pairs (step ms k p r) ≤ max (depth r) (depth_pairs ms) = depth_step ms k p r in
          let e : depth (find ms k) ≤ depth_pairs ms = depth_find ms k in
          omega arith
