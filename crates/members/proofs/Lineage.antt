-- Siblings: where they stand, and how they are taken apart.
use Prim.Native.Nat.{◌+◌, ◌<◌, ◌≤◌, ℕ}
use Rattle.members.specs.Chains.{siblings_of, walk}
use Rattle.members.specs.Lists.{In, Sorted}
use Rattle.members.specs.Records.{next_of}
use Rattle.members.specs.Siblings.{Siblings}
use Rattle.text.specs.Table.{Words}
use borrow.Author.Tests.{lt-ltb}
use lib.Dec.{ltb}
use lib.ListN.{length}
use mathlib.Core.List.{List, [], ◌++◌, ◌∷◌}
use mathlib.Core.Path.{◌∙◌, ◌≡◌, ap, refl, sym}
use native.Mathlib.Omega.{arith}

-- The first of some siblings, and those behind it.
pub record Onward (w : Words) (end r : ℕ) (l : List ℕ) : Type 0 where
  pub tail : List ℕ
  pub split : l ≡ r ∷ tail
  pub up : r < next_of w r
  pub siblings : Siblings w end (next_of w r) tail

module _ {w : Words} {end : ℕ} where
  pub siblings_end : {r : ℕ} {l : List ℕ} → Siblings w end r l → r ≤ end
  siblings_end Siblings.none = omega arith
  siblings_end (Siblings.more h s) = omega (arith, h, siblings_end s)

  pub siblings_between : {r v : ℕ} {l : List ℕ} → Siblings w end r l → In v l → (r ≤ v) × (v < end)
  siblings_between (Siblings.more h s) In.here = (omega arith, omega (arith, h, siblings_end s))
  siblings_between (Siblings.more h s) (In.there i) =
      let b = siblings_between s i in (omega (arith, h, b.0), b.1)
  siblings_between Siblings.none x4 = elim x4 [ ]

  -- What follows one of them stands no farther than the end.
  pub siblings_near : {r v : ℕ} {l : List ℕ} → Siblings w end r l → In v l → next_of w v ≤ end
  unfolding next_of
  siblings_near (Siblings.more h s) In.here = siblings_end s
  siblings_near (Siblings.more h s) (In.there i) = siblings_near s i
  siblings_near Siblings.none x4 = elim x4 [ ]

  pub siblings_rising : {r : ℕ} {l : List ℕ} → Siblings w end r l → Sorted ltb l
  siblings_rising Siblings.none = Sorted.none
  siblings_rising (Siblings.more {r} h s) =
      Sorted.more (λ v i. lt-ltb r v (omega (arith, h, (siblings_between s i).0))) (siblings_rising s)

  pub siblings_few : {r : ℕ} {l : List ℕ} → Siblings w end r l → r + length l ≤ end
  siblings_few Siblings.none = omega arith
  siblings_few (Siblings.more h s) = omega (arith, h, siblings_few s)

  pub siblings_walk : {r : ℕ} {l : List ℕ} → Siblings w end r l → l ≡ siblings_of w (length l) r
  unfolding walk next_of
  siblings_walk Siblings.none = refl
  siblings_walk (Siblings.more {r} h s) = ap (λ (l : List ℕ). r ∷ l) (siblings_walk s)

  pub siblings_onward : {r : ℕ} {l : List ℕ} → Siblings w end r l → r < end → Onward w end r l
  unfolding next_of
  siblings_onward Siblings.none k = absurd (omega arith)
  siblings_onward (Siblings.more {l = l} h s) k = record { tail = l; split = refl; up = h; siblings = s }

  pub siblings_shut : {r : ℕ} {l : List ℕ} → Siblings w end r l → end ≤ r → l ≡ []
  siblings_shut Siblings.none k = refl
  siblings_shut (Siblings.more h s) k = absurd (omega (arith, h, k, siblings_end s))

  pub siblings_unique : {r : ℕ} {l m : List ℕ} → Siblings w end r l → Siblings w end r m → l ≡ m
  unfolding next_of
  siblings_unique Siblings.none q = sym (siblings_shut q (omega arith))
  siblings_unique (Siblings.more {r} {l} h s) q =
      let o = siblings_onward q (omega (arith, h, siblings_end s)) in
      ap (λ (k : List ℕ). r ∷ k) (siblings_unique s o.siblings) ∙ sym o.split

pub siblings_append : {w : Words} {middle first end : ℕ} {a b : List ℕ} → Siblings w middle first a → Siblings w end middle b
    → Siblings w end first (a ++ b)
siblings_append Siblings.none q = q
siblings_append (Siblings.more h s) q = Siblings.more h (siblings_append s q)
