-- What a walk along siblings yields, and what a search along it says.
use Prim.Native.Nat.{◌<◌, suc, zero, ℕ}
use Rattle.members.proofs.Lineage.{siblings_between, siblings_onward, siblings_shut}
use Rattle.members.proofs.Membership.{in_equal}
use Rattle.members.specs.Lists.{In}
use Rattle.members.specs.Records.{next_of}
use Rattle.members.specs.Siblings.{Siblings}
use Rattle.members.specs.Walking.{Gives}
use Rattle.members.specs.declared.walk.Walk.{Walk}
use Rattle.std.proofs.lemmas.Iterator.{YieldsList}
use Rattle.std.specs.Iterator.{AlwaysYields}
use Rattle.std.specs.List.{AllWithin, HoldsAt}
use Rattle.text.specs.Table.{Words}
use lib.ListN.{get_or, length}
use mathlib.Core.List.{List, [], ◌∷◌}
use mathlib.Core.Path.{◌∙◌, ◌≡◌}
use native.Mathlib.Omega.{arith}

yields : (s : Walk) (l : List ℕ) → Siblings s.table.now s.end s.at l → AlwaysYields Gives (λ x. x) s l
yields s [] p =
    λ x j g.
    let o = siblings_onward p (rw g.0 at g.1) in
    let e = o.split in cc
yields s (x ∷ l) p = (
  (λ j g. let e = siblings_shut p g.0 in cc),
  λ z j g.
      let o = siblings_onward p (rw g.0 at g.1) in
      let e = o.split in
      let h : z ≡ x = g.0 ∙ cc in
      let k : j ≡ record s { at = next_of s.table.now s.at } = rw g.0 at g.2 in
      let t : o.tail ≡ l = cc in
      (h, rw k (yields (record s { at = next_of s.table.now s.at }) l (rw t at o.siblings))),
)

pub walk_yields : {s t : Walk} {l : List ℕ} → s ≡ t → Siblings t.table.now t.end t.at l → YieldsList Gives (λ x. x) s l
walk_yields {t = t} {l} e p = record { runs = rw e (yields t l p) }

-- What stands at some place of a list is in it.
pub at_in : (l : List ℕ) (k x : ℕ) → k < length l → x ≡ get_or l k x → In x l
at_in [] k x h e = absurd (omega arith)
at_in (y ∷ l) zero x h e = in_equal l e
at_in (y ∷ l) (suc k) x h e = In.there (at_in l k x (omega arith) e)

module _ (P : ℕ → Type 0) where
  pub all_in : (l : List ℕ) → AllWithin P l 0 (length l) → (x : ℕ) → In x l → P x
  all_in (y ∷ l) f x In.here = f 0 0 (omega arith) (omega arith)
  all_in (y ∷ l) f x (In.there i) = all_in l (λ k d h g. f (suc k) d (omega arith) (omega arith)) x i
  all_in [] f x i = elim i [ ]

  pub all_before : {w : Words} {end r : ℕ} {l : List ℕ} → Siblings w end r l → (i z : ℕ) → HoldsAt (λ y. y ≡ z) l i → AllWithin P l 0 i → (x : ℕ) → In x l → x < z → P x
  all_before (Siblings.more q s) zero z e f x i h = absurd (omega (arith, e 0, (siblings_between (Siblings.more q s) i).0))
  all_before (Siblings.more q s) (suc k) z e f x In.here h = f 0 0 (omega arith) (omega arith)
  all_before (Siblings.more q s) (suc k) z e f x (In.there i) h = all_before s k z e (λ k d h g. f (suc k) d (omega arith) (omega arith)) x i h
  all_before Siblings.none k z e f x i h = elim i [ ]
