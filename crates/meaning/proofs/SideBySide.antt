-- The merge of two sorted trees, with the members of target and patch walked side by side in name order. What comes
-- out is the sorted tree of the merge.
use Prim.Native.Nat.{ℕ}
use Rattle.meaning.proofs.Keeps.{Keeps}
use Rattle.meaning.proofs.Members.{Which, at_it, at_other, which}
use Rattle.meaning.proofs.Merging.{keeps_merge, members_mean, merge_means, merge_object, merge_meaning, null_means, old, set}
use Rattle.meaning.proofs.Order.{Placed, place}
use Rattle.meaning.proofs.Sorting.{before_all_none, before_all_trans, canon, mean_canon, sorted_canon, sorted_one}
use Rattle.meaning.specs.Meaning.{Maybe, Meaning, Pairs, Tree, at, mean}
use Rattle.meaning.specs.Merge.{is_null, members_of, merge}
use Rattle.meaning.specs.Order.{BeforeAll, Sorted, SortedPairs}
use Rattle.text.specs.Bytes.{Units}
use Rattle.text.specs.Node.{Literal}
use mathlib.Core.Bool.{Bool, false, true, true≢false}
use mathlib.Core.Path.{◌∙◌, ◌≡◌, ap, ap₂, fun_ext, refl, subst, sym}

-- What a member that isn't there is merged as.
abbrev pub nothing : Tree
nothing = Tree.literal Literal.null

unfoldable pub is_object : Tree → Bool
is_object (Tree.literal w) = false
is_object (Tree.string us) = false
is_object (Tree.number x) = false
is_object (Tree.array ts) = false
is_object (Tree.object ps) = true

mutual
  -- `r` is the merge of the target `t` with the patch `p`.
  pub data Merged : Tree → Tree → Tree → Type 0 where
    plain : {t p : Tree} → is_object p ≡ false → Merged t p p
    object : {t : Tree} {qs rs : Pairs} → Side (members_of t) qs rs → Merged t (Tree.object qs) (Tree.object rs)

  -- The least name of both comes first: the target's alone, the patch's alone, or of both.
  pub data Side : Pairs → Pairs → Pairs → Type 0 where
    end : Side Pairs.empty Pairs.empty Pairs.empty
    keep : {k : Units} {t : Tree} {ps qs rs : Pairs} → BeforeAll k ps → BeforeAll k qs → Side ps qs rs → Side (Pairs.pair k t ps) qs (Pairs.pair k t rs)
    skip : {k : Units} {p : Tree} {ps qs rs : Pairs} → BeforeAll k ps → BeforeAll k qs → is_null p ≡ true → Side ps qs rs → Side ps (Pairs.pair k p qs) rs
    new : {k : Units} {p r : Tree} {ps qs rs : Pairs} → BeforeAll k ps → BeforeAll k qs → is_null p ≡ false → Merged nothing p r → Side ps qs rs → Side ps (Pairs.pair k p qs) (Pairs.pair k r rs)
    remove : {k : Units} {t p : Tree} {ps qs rs : Pairs} → BeforeAll k ps → BeforeAll k qs → is_null p ≡ true → Side ps qs rs → Side (Pairs.pair k t ps) (Pairs.pair k p qs) rs
    change : {k : Units} {t p r : Tree} {ps qs rs : Pairs} → BeforeAll k ps → BeforeAll k qs → is_null p ≡ false → Merged t p r → Side ps qs rs → Side (Pairs.pair k t ps) (Pairs.pair k p qs) (Pairs.pair k r rs)

-- What a name that neither of the rests has means behind them: nothing.
set_null : (o : Maybe) (p : Tree) → is_null p ≡ true → set o (Maybe.some (mean p)) ≡ Maybe.none
unfolding set
set_null o p e = ap (λ b. elim b as (λ _. Maybe) [ true ↦ Maybe.none | false ↦ Maybe.some (merge_meaning (old o) (mean p)) ]) (sym (null_means p) ∙ e)

set_some : (o : Maybe) (p : Tree) → is_null p ≡ false → set o (Maybe.some (mean p)) ≡ Maybe.some (merge_meaning (old o) (mean p))
unfolding set
set_some o p e = ap (λ b. elim b as (λ _. Maybe) [ true ↦ Maybe.none | false ↦ Maybe.some (merge_meaning (old o) (mean p)) ]) (sym (null_means p) ∙ e)

plain_means : (m : Meaning) (p : Tree) → is_object p ≡ false → mean p ≡ merge_meaning m (mean p)
unfolding is_object mean merge_meaning
plain_means m (Tree.literal w) e = refl
plain_means m (Tree.string us) e = refl
plain_means m (Tree.number x) e = refl
plain_means m (Tree.array ts) e = refl
plain_means m (Tree.object ps) e = absurd (true≢false e)

-- It means what the merge means.
mutual
  unfolding mean set old

  merged_means : {t p r : Tree} → Merged t p r → mean r ≡ merge_meaning (mean t) (mean p)
  merged_means {t} {p} (Merged.plain e) = plain_means (mean t) p e
  merged_means {t} (Merged.object {qs = qs} s) =
      ap Meaning.object (fun_ext (λ k. side_means s k ∙ ap (λ o. set o (at qs k)) (members_mean t k))) ∙ sym (merge_object (mean t) (λ k. at qs k))

  side_means : {ps qs rs : Pairs} → Side ps qs rs → (j : Units) → at rs j ≡ set (at ps j) (at qs j)
  side_means Side.end j = refl
  side_means (Side.keep {k} {t} {ps} {qs} {rs} a b s) j = by (which j k) (side_means s j)
    where
      by : Which j k → at rs j ≡ set (at ps j) (at qs j) → at (Pairs.pair k t rs) j ≡ set (at (Pairs.pair k t ps) j) (at qs j)
      by (Which.it e) h = at_it k t rs j e ∙ sym (ap₂ set (at_it k t ps j e) (ap (at qs) e ∙ before_all_none b))
      by (Which.other n) h = at_other k t rs j n ∙ h ∙ ap (λ o. set o (at qs j)) (sym (at_other k t ps j n))
  side_means (Side.skip {k} {p} {ps} {qs} {rs} a b z s) j = by (which j k) (side_means s j)
    where
      by : Which j k → at rs j ≡ set (at ps j) (at qs j) → at rs j ≡ set (at ps j) (at (Pairs.pair k p qs) j)
      by (Which.it e) h = h ∙ ap₂ set (ap (at ps) e ∙ before_all_none a) (ap (at qs) e ∙ before_all_none b) ∙ sym (ap (set (at ps j)) (at_it k p qs j e) ∙ set_null (at ps j) p z)
      by (Which.other n) h = h ∙ ap (set (at ps j)) (sym (at_other k p qs j n))
  side_means (Side.new {k} {p} {r} {ps} {qs} {rs} a b z m s) j = by (which j k) (side_means s j) (merged_means m)
    where
      by : Which j k → at rs j ≡ set (at ps j) (at qs j) → mean r ≡ merge_meaning (mean nothing) (mean p) → at (Pairs.pair k r rs) j ≡ set (at ps j) (at (Pairs.pair k p qs) j)
      by (Which.it e) h f =
          at_it k r rs j e ∙ ap Maybe.some f
          ∙ sym (ap₂ set (ap (at ps) e ∙ before_all_none a) (at_it k p qs j e) ∙ set_some Maybe.none p z)
      by (Which.other n) h f = at_other k r rs j n ∙ h ∙ ap (set (at ps j)) (sym (at_other k p qs j n))
  side_means (Side.remove {k} {t} {p} {ps} {qs} {rs} a b z s) j = by (which j k) (side_means s j)
    where
      by : Which j k → at rs j ≡ set (at ps j) (at qs j) → at rs j ≡ set (at (Pairs.pair k t ps) j) (at (Pairs.pair k p qs) j)
      by (Which.it e) h =
          h ∙ ap₂ set (ap (at ps) e ∙ before_all_none a) (ap (at qs) e ∙ before_all_none b)
          ∙ sym (ap (set (at (Pairs.pair k t ps) j)) (at_it k p qs j e) ∙ set_null (at (Pairs.pair k t ps) j) p z)
      by (Which.other n) h = h ∙ ap₂ set (sym (at_other k t ps j n)) (sym (at_other k p qs j n))
  side_means (Side.change {k} {t} {p} {r} {ps} {qs} {rs} a b z m s) j = by (which j k) (side_means s j) (merged_means m)
    where
      by : Which j k → at rs j ≡ set (at ps j) (at qs j) → mean r ≡ merge_meaning (mean t) (mean p) → at (Pairs.pair k r rs) j ≡ set (at (Pairs.pair k t ps) j) (at (Pairs.pair k p qs) j)
      by (Which.it e) h f =
          at_it k r rs j e ∙ ap Maybe.some f ∙ sym (ap₂ set (at_it k t ps j e) (at_it k p qs j e) ∙ set_some (Maybe.some (mean t)) p z)
      by (Which.other n) h f = at_other k r rs j n ∙ h ∙ ap₂ set (sym (at_other k t ps j n)) (sym (at_other k p qs j n))

-- It is sorted where both are.
side_before_all : {k : Units} {ps qs rs : Pairs} → BeforeAll k ps → BeforeAll k qs → Side ps qs rs → BeforeAll k rs
side_before_all a b Side.end = BeforeAll.none
side_before_all (BeforeAll.next x a) b (Side.keep _ _ s) = BeforeAll.next x (side_before_all a b s)
side_before_all a (BeforeAll.next x b) (Side.skip _ _ z s) = side_before_all a b s
side_before_all a (BeforeAll.next x b) (Side.new _ _ z m s) = BeforeAll.next x (side_before_all a b s)
side_before_all (BeforeAll.next x a) (BeforeAll.next y b) (Side.remove _ _ z s) = side_before_all a b s
side_before_all (BeforeAll.next x a) (BeforeAll.next y b) (Side.change _ _ z m s) = BeforeAll.next x (side_before_all a b s)

members_sorted : {t : Tree} → Sorted t → SortedPairs (members_of t)
unfolding members_of
members_sorted Sorted.literal = SortedPairs.empty
members_sorted Sorted.string = SortedPairs.empty
members_sorted Sorted.number = SortedPairs.empty
members_sorted (Sorted.array x) = SortedPairs.empty
members_sorted (Sorted.object x) = x

mutual
  merged_sorted : {t p r : Tree} → Merged t p r → Sorted t → Sorted p → Sorted r
  merged_sorted (Merged.plain e) x y = y
  merged_sorted (Merged.object s) x (Sorted.object y) = Sorted.object (side_sorted s (members_sorted x) y)

  side_sorted : {ps qs rs : Pairs} → Side ps qs rs → SortedPairs ps → SortedPairs qs → SortedPairs rs
  side_sorted Side.end x y = SortedPairs.empty
  side_sorted (Side.keep a b s) (SortedPairs.pair c t x) y = SortedPairs.pair (side_before_all a b s) t (side_sorted s x y)
  side_sorted (Side.skip a b z s) x (SortedPairs.pair c p y) = side_sorted s x y
  side_sorted (Side.new a b z m s) x (SortedPairs.pair c p y) = SortedPairs.pair (side_before_all a b s) (merged_sorted m Sorted.literal p) (side_sorted s x y)
  side_sorted (Side.remove a b z s) (SortedPairs.pair c t x) (SortedPairs.pair d p y) = side_sorted s x y
  side_sorted (Side.change a b z m s) (SortedPairs.pair c t x) (SortedPairs.pair d p y) = SortedPairs.pair (side_before_all a b s) (merged_sorted m t p) (side_sorted s x y)

-- One member of the patch among those of the target, where its value has a merge with any, and the others have.
module _ {j : Units} {p : Tree} {qs : Pairs} (b : BeforeAll j qs) (f : (t : Tree) → Sorted t → (r : Tree) × Merged t p r) (g : (ps : Pairs) → SortedPairs ps → (rs : Pairs) × Side ps qs rs) where
  alone : {ps : Pairs} → BeforeAll j ps → SortedPairs ps → (z : Bool) → is_null p ≡ z → (rs : Pairs) × Side ps (Pairs.pair j p qs) rs
  alone a x true e = let (rs, s) = g _ x in (rs, Side.skip a b e s)
  alone a x false e = let (rs, s) = g _ x in let (r, m) = f _ Sorted.literal in (Pairs.pair j r rs, Side.new a b e m s)

  both : {t : Tree} {ps : Pairs} → BeforeAll j ps → Sorted t → SortedPairs ps → (z : Bool) → is_null p ≡ z → (rs : Pairs) × Side (Pairs.pair j t ps) (Pairs.pair j p qs) rs
  both a y x true e = let (rs, s) = g _ x in (rs, Side.remove a b e s)
  both a y x false e = let (rs, s) = g _ x in let (r, m) = f _ y in (Pairs.pair j r rs, Side.change a b e m s)

  among : {ps : Pairs} → SortedPairs ps → (rs : Pairs) × Side ps (Pairs.pair j p qs) rs
  among SortedPairs.empty = alone BeforeAll.none SortedPairs.empty (is_null p) refl
  among (SortedPairs.pair {k = k} {t = t} {ps = ps} a y x) = by (place k j) (among x)
    where
      by : Placed k j → (rs : Pairs) × Side ps (Pairs.pair j p qs) rs → (rs : Pairs) × Side (Pairs.pair k t ps) (Pairs.pair j p qs) rs
      by (Placed.ahead l) (rs, s) = (Pairs.pair k t rs, Side.keep a (BeforeAll.next l (before_all_trans l b)) s)
      by (Placed.equal e) s = subst (λ i. (rs : Pairs) × Side (Pairs.pair i t ps) (Pairs.pair j p qs) rs) (sym e) (both (subst (λ i. BeforeAll i ps) e a) y x (is_null p) refl)
      by (Placed.behind l) s = alone (BeforeAll.next l (before_all_trans l a)) (SortedPairs.pair a y x) (is_null p) refl

-- Sorted trees have a merge.
mutual
  unfolding is_object members_of

  pub merged_some : {t p : Tree} → Sorted p → Sorted t → (r : Tree) × Merged t p r
  merged_some {p = p} Sorted.literal y = (p, Merged.plain refl)
  merged_some {p = p} Sorted.string y = (p, Merged.plain refl)
  merged_some {p = p} Sorted.number y = (p, Merged.plain refl)
  merged_some {p = p} (Sorted.array x) y = (p, Merged.plain refl)
  merged_some (Sorted.object x) Sorted.literal = let (rs, s) = side_some x SortedPairs.empty in (Tree.object rs, Merged.object s)
  merged_some (Sorted.object x) Sorted.string = let (rs, s) = side_some x SortedPairs.empty in (Tree.object rs, Merged.object s)
  merged_some (Sorted.object x) Sorted.number = let (rs, s) = side_some x SortedPairs.empty in (Tree.object rs, Merged.object s)
  merged_some (Sorted.object x) (Sorted.array z) = let (rs, s) = side_some x SortedPairs.empty in (Tree.object rs, Merged.object s)
  merged_some (Sorted.object x) (Sorted.object z) = let (rs, s) = side_some x z in (Tree.object rs, Merged.object s)

  side_some : {ps qs : Pairs} → SortedPairs qs → SortedPairs ps → (rs : Pairs) × Side ps qs rs
  side_some SortedPairs.empty x = rest x
    where
      rest : {ps : Pairs} → SortedPairs ps → (rs : Pairs) × Side ps Pairs.empty rs
      rest SortedPairs.empty = (Pairs.empty, Side.end)
      rest (SortedPairs.pair {k = k} {t = t} a y x) = let (rs, s) = rest x in (Pairs.pair k t rs, Side.keep a BeforeAll.none s)
  side_some (SortedPairs.pair b y z) x = among b (λ t s. merged_some y s) (λ ps s. side_some z s) x

-- And a merge of sorted trees is the sorted tree of the merge.
pub side_by_side : {d : ℕ} {t p r : Tree} → Keeps d t → Keeps d p → Merged (canon t) (canon p) r → r ≡ canon (merge t p)
side_by_side {t = t} {p} {r} k l m =
    let n = keeps_merge l k in
    sorted_one (merged_sorted m (sorted_canon k) (sorted_canon l)) (sorted_canon n)
    (merged_means m ∙ ap₂ merge_meaning (mean_canon k) (mean_canon l) ∙ sym (merge_means t l) ∙ sym (mean_canon n))
