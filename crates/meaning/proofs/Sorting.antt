-- Members put in the order of their names: of each meaning there is one sorted tree.
use Prim.Native.Nat.{ℕ}
use Rattle.meaning.proofs.Keeps.{Keeps, KeepsAll, KeepsPairs, Units16}
use Rattle.meaning.proofs.Members.{Which, at_it, at_other, at_under, fresh_first, fresh_rest, some_none, un_some, which}
use Rattle.meaning.proofs.Order.{Placed, before, before_else, before_is, before_not, before_trans, place}
use Rattle.meaning.specs.Meaning.{Maybe, Meaning, Meanings, Pairs, Tree, Trees, at, mean, means}
use Rattle.meaning.specs.Order.{Before, BeforeAll, Sorted, SortedAll, SortedPairs}
use Rattle.text.specs.Bytes.{Units}
use Rattle.text.specs.Decimal.{Decimal}
use Rattle.text.specs.Node.{Literal}
use mathlib.Core.Bool.{Bool, false, true}
use mathlib.Core.Logic.{◌↔◌}
use mathlib.Core.Path.{◌∙◌, ◌≡◌, ap, ap₂, fun_ext, refl, subst, sym}
use native.Mathlib.Omega.{arith}

unfoldable pub insert : Units → Tree → Pairs → Pairs
insert k t Pairs.empty = Pairs.pair k t Pairs.empty
insert k t (Pairs.pair j s ps) = elim (before k j) [ true ↦ Pairs.pair k t (Pairs.pair j s ps) | false ↦ Pairs.pair j s (insert k t ps) ]

-- The sorted tree of a tree.
unfoldable mutual
  pub canon : Tree → Tree
  canon (Tree.literal w) = Tree.literal w
  canon (Tree.string us) = Tree.string us
  canon (Tree.number x) = Tree.number x
  canon (Tree.array ts) = Tree.array (canon_all ts)
  canon (Tree.object ps) = Tree.object (canon_pairs ps)

  pub canon_all : Trees → Trees
  canon_all Trees.nil = Trees.nil
  canon_all (Trees.cons t ts) = Trees.cons (canon t) (canon_all ts)

  pub canon_pairs : Pairs → Pairs
  canon_pairs Pairs.empty = Pairs.empty
  canon_pairs (Pairs.pair k t ps) = insert k (canon t) (canon_pairs ps)

-- Two members of different names mean the same in either order.
swap : (i j : Units) (s t : Tree) (ps : Pairs) (k : Units) → (j ≡ i → ⊥) → at (Pairs.pair i s (Pairs.pair j t ps)) k ≡ at (Pairs.pair j t (Pairs.pair i s ps)) k
swap i j s t ps k n = by (which k i) (which k j)
  where
    by : Which k i → Which k j → at (Pairs.pair i s (Pairs.pair j t ps)) k ≡ at (Pairs.pair j t (Pairs.pair i s ps)) k
    by (Which.it p) (Which.it q) = absurd (n (sym q ∙ p))
    by (Which.it p) (Which.other q) = at_it i s (Pairs.pair j t ps) k p ∙ sym (at_it i s ps k p) ∙ sym (at_other j t (Pairs.pair i s ps) k q)
    by (Which.other p) (Which.it q) = at_other i s (Pairs.pair j t ps) k p ∙ at_it j t ps k q ∙ sym (at_it j t (Pairs.pair i s ps) k q)
    by (Which.other p) (Which.other q) =
        at_other i s (Pairs.pair j t ps) k p ∙ at_other j t ps k q ∙ sym (at_other i s ps k p) ∙ sym (at_other j t (Pairs.pair i s ps) k q)

-- A new member means the same wherever it is put.
at_insert : (j : Units) (t : Tree) (ps : Pairs) (k : Units) → at ps j ≡ Maybe.none → at (insert j t ps) k ≡ at (Pairs.pair j t ps) k
unfolding insert
at_insert j t Pairs.empty k f = refl
at_insert j t (Pairs.pair i s ps) k f = by (before j i) refl (at_insert j t ps k (fresh_rest i s ps j f))
  where
    by : (b : Bool) → before j i ≡ b → at (insert j t ps) k ≡ at (Pairs.pair j t ps) k
        → at (elim b as (λ _. Pairs) [ true ↦ Pairs.pair j t (Pairs.pair i s ps) | false ↦ Pairs.pair i s (insert j t ps) ]) k ≡ at (Pairs.pair j t (Pairs.pair i s ps)) k
    by true p h = refl
    by false p h = at_under i s s (insert j t ps) (Pairs.pair j t ps) k refl h ∙ swap i j s t ps k (fresh_first i s ps j f)

-- Sorting changes no meaning.
mutual
  unfolding canon mean insert

  pub mean_canon : {d : ℕ} {t : Tree} → Keeps d t → mean (canon t) ≡ mean t
  mean_canon Keeps.literal = refl
  mean_canon (Keeps.string u) = refl
  mean_canon (Keeps.number x) = refl
  mean_canon (Keeps.array l o) = ap Meaning.array (means_canon o)
  mean_canon (Keeps.object l o) = ap Meaning.object (fun_ext (λ k. at_canon o k))

  means_canon : {d : ℕ} {ts : Trees} → KeepsAll d ts → means (canon_all ts) ≡ means ts
  means_canon KeepsAll.nil = refl
  means_canon (KeepsAll.cons o os) = ap₂ Meanings.cons (mean_canon o) (means_canon os)

  at_canon : {d : ℕ} {ps : Pairs} → KeepsPairs d ps → (k : Units) → at (canon_pairs ps) k ≡ at ps k
  at_canon KeepsPairs.empty k = refl
  at_canon (KeepsPairs.pair {k = j} {t = t} {ps = ps} u f o os) k =
      at_insert j (canon t) (canon_pairs ps) k (at_canon os j ∙ f) ∙ at_under j (canon t) t (canon_pairs ps) ps k (mean_canon o) (at_canon os k)

-- Nor does it change what a tree keeps to.
keeps_insert : {d : ℕ} {k : Units} {t : Tree} {ps : Pairs} → Units16 k → at ps k ≡ Maybe.none → Keeps d t → KeepsPairs d ps → KeepsPairs d (insert k t ps)
unfolding insert
keeps_insert u f o KeepsPairs.empty = KeepsPairs.pair u f o KeepsPairs.empty
keeps_insert {d} {k} {t} u f o (KeepsPairs.pair {k = j} {t = s} {ps = ps} u' f' o' os) = by (before k j) refl (keeps_insert u (fresh_rest j s ps k f) o os)
  where
    by : (b : Bool) → before k j ≡ b → KeepsPairs d (insert k t ps)
        → KeepsPairs d (elim b as (λ _. Pairs) [ true ↦ Pairs.pair k t (Pairs.pair j s ps) | false ↦ Pairs.pair j s (insert k t ps) ])
    by true p r = KeepsPairs.pair u f o (KeepsPairs.pair u' f' o' os)
    by false p r =
        KeepsPairs.pair u'
        (at_insert k t ps j (fresh_rest j s ps k f) ∙ at_other k t ps j (λ e. fresh_first j s ps k f (sym e)) ∙ f') o' r

mutual
  unfolding canon

  pub keeps_canon : {d : ℕ} {t : Tree} → Keeps d t → Keeps d (canon t)
  keeps_canon Keeps.literal = Keeps.literal
  keeps_canon (Keeps.string u) = Keeps.string u
  keeps_canon (Keeps.number x) = Keeps.number x
  keeps_canon (Keeps.array l o) = Keeps.array l (keeps_canon_all o)
  keeps_canon (Keeps.object l o) = Keeps.object l (keeps_canon_pairs o)

  keeps_canon_all : {d : ℕ} {ts : Trees} → KeepsAll d ts → KeepsAll d (canon_all ts)
  keeps_canon_all KeepsAll.nil = KeepsAll.nil
  keeps_canon_all (KeepsAll.cons o os) = KeepsAll.cons (keeps_canon o) (keeps_canon_all os)

  keeps_canon_pairs : {d : ℕ} {ps : Pairs} → KeepsPairs d ps → KeepsPairs d (canon_pairs ps)
  keeps_canon_pairs KeepsPairs.empty = KeepsPairs.empty
  keeps_canon_pairs (KeepsPairs.pair {k = j} u f o os) = keeps_insert u (at_canon os j ∙ f) (keeps_canon o) (keeps_canon_pairs os)

-- The sorted tree is sorted.
pub before_all_trans : {j k : Units} {ps : Pairs} → Before j k → BeforeAll k ps → BeforeAll j ps
before_all_trans p BeforeAll.none = BeforeAll.none
before_all_trans p (BeforeAll.next q a) = BeforeAll.next (before_trans p q) (before_all_trans p a)

pub before_all_insert : (t : Tree) {j k : Units} {ps : Pairs} → Before j k → BeforeAll j ps → BeforeAll j (insert k t ps)
unfolding insert
before_all_insert t p BeforeAll.none = BeforeAll.next p BeforeAll.none
before_all_insert t {j} {k} p (BeforeAll.next {j = i} {t = s} {ps = ps} q a) = by (before k i) (before_all_insert t p a)
  where
    by : (b : Bool) → BeforeAll j (insert k t ps) → BeforeAll j (elim b as (λ _. Pairs) [ true ↦ Pairs.pair k t (Pairs.pair i s ps) | false ↦ Pairs.pair i s (insert k t ps) ])
    by true r = BeforeAll.next p (BeforeAll.next q a)
    by false r = BeforeAll.next q r

sorted_insert : (k : Units) {t : Tree} {ps : Pairs} → at ps k ≡ Maybe.none → Sorted t → SortedPairs ps → SortedPairs (insert k t ps)
unfolding insert
sorted_insert k f s SortedPairs.empty = SortedPairs.pair BeforeAll.none s SortedPairs.empty
sorted_insert k {t} f s (SortedPairs.pair {k = j} {t = r} {ps = ps} a s' ss) = by (before k j) refl (sorted_insert k (fresh_rest j r ps k f) s ss)
  where
    by : (b : Bool) → before k j ≡ b → SortedPairs (insert k t ps)
        → SortedPairs (elim b as (λ _. Pairs) [ true ↦ Pairs.pair k t (Pairs.pair j r ps) | false ↦ Pairs.pair j r (insert k t ps) ])
    by true p h = let q : Before k j = before_is k j p in SortedPairs.pair (BeforeAll.next q (before_all_trans q a)) s (SortedPairs.pair a s' ss)
    by false p h = SortedPairs.pair (before_all_insert t (before_else k j p (fresh_first j r ps k f)) a) s' h

mutual
  unfolding canon

  pub sorted_canon : {d : ℕ} {t : Tree} → Keeps d t → Sorted (canon t)
  sorted_canon Keeps.literal = Sorted.literal
  sorted_canon (Keeps.string u) = Sorted.string
  sorted_canon (Keeps.number x) = Sorted.number
  sorted_canon (Keeps.array l o) = Sorted.array (sorted_canon_all o)
  sorted_canon (Keeps.object l o) = Sorted.object (sorted_canon_pairs o)

  sorted_canon_all : {d : ℕ} {ts : Trees} → KeepsAll d ts → SortedAll (canon_all ts)
  sorted_canon_all KeepsAll.nil = SortedAll.nil
  sorted_canon_all (KeepsAll.cons o os) = SortedAll.cons (sorted_canon o) (sorted_canon_all os)

  sorted_canon_pairs : {d : ℕ} {ps : Pairs} → KeepsPairs d ps → SortedPairs (canon_pairs ps)
  sorted_canon_pairs KeepsPairs.empty = SortedPairs.empty
  sorted_canon_pairs (KeepsPairs.pair {k = j} u f o os) = sorted_insert j (at_canon os j ∙ f) (sorted_canon o) (sorted_canon_pairs os)

-- A name before all the names is none of them.
pub before_all_none : {k : Units} {ps : Pairs} → BeforeAll k ps → at ps k ≡ Maybe.none
unfolding at
before_all_none BeforeAll.none = refl
before_all_none {k} (BeforeAll.next {j = j} {t = t} {ps = ps} p a) = at_other j t ps k (before_not p) ∙ before_all_none a

-- `Shape m t`: `t` is built as its meaning `m` is, and means `m`.
data Shape : Meaning → Tree → Type 0 where
  literal : {w : Literal} → Shape (Meaning.literal w) (Tree.literal w)
  string : {us : Units} → Shape (Meaning.string us) (Tree.string us)
  number : {x : Decimal} → Shape (Meaning.number x) (Tree.number x)
  array : {ms : Meanings} {ts : Trees} → means ts ≡ ms → Shape (Meaning.array ms) (Tree.array ts)
  object : {f : Units → Maybe} {ps : Pairs} → ((k : Units) → at ps k ≡ f k) → Shape (Meaning.object f) (Tree.object ps)

shape : (t : Tree) → Shape (mean t) t
unfolding mean
shape (Tree.literal w) = Shape.literal
shape (Tree.string us) = Shape.string
shape (Tree.number x) = Shape.number
shape (Tree.array ts) = Shape.array refl
shape (Tree.object ps) = Shape.object (λ k. refl)

shape_of : {m : Meaning} (t : Tree) → mean t ≡ m → Shape m t
shape_of t e = subst (λ m. Shape m t) e (shape t)

-- Sorted members that mean the same are equal if their first values and the rest are: neither first name can stand
-- before the other.
module _ {j i : Units} {t s : Tree} {ps qs : Pairs} (a : BeforeAll j ps) (b : BeforeAll i qs)
    (h : (k : Units) → at (Pairs.pair i s qs) k ≡ at (Pairs.pair j t ps) k) (f : Shape (mean t) s → t ≡ s) (g : ((k : Units) → at qs k ≡ at ps k) → ps ≡ qs) where
  first_members : Pairs.pair j t ps ≡ Pairs.pair i s qs
  first_members = by (place j i)
    where
      rest : j ≡ i → (k : Units) → Which k j → at qs k ≡ at ps k
      rest e k (Which.it p) = ap (at qs) (p ∙ e) ∙ before_all_none b ∙ sym (ap (at ps) p ∙ before_all_none a)
      rest e k (Which.other p) = sym (at_other i s qs k (λ q. p (q ∙ sym e))) ∙ h k ∙ at_other j t ps k p

      by : Placed j i → Pairs.pair j t ps ≡ Pairs.pair i s qs
      by (Placed.ahead p) = absurd (some_none (sym (at_it j t ps j refl) ∙ sym (h j) ∙ before_all_none (BeforeAll.next p (before_all_trans p b))))
      by (Placed.equal e) =
          let x : t ≡ s = f (shape_of s (un_some (sym (at_it i s qs j e) ∙ h j ∙ at_it j t ps j refl))) in
          let y : ps ≡ qs = g (λ k. rest e k (which k j)) in
          cc
      by (Placed.behind p) = absurd (some_none (sym (at_it i s qs i refl) ∙ h i ∙ before_all_none (BeforeAll.next p (before_all_trans p a))))

mutual
  unfolding mean

  one : {a b : Tree} → Sorted a → Sorted b → Shape (mean a) b → a ≡ b
  one Sorted.literal s Shape.literal = refl
  one Sorted.string s Shape.string = refl
  one Sorted.number s Shape.number = refl
  one (Sorted.array x) (Sorted.array y) (Shape.array e) = ap Tree.array (one_all x y e)
  one (Sorted.object x) (Sorted.object y) (Shape.object e) = ap Tree.object (one_pairs x y e)
  one (Sorted.array x) (Sorted.literal) x13 = elim x13 [ ]
  one (Sorted.array x) (Sorted.string) x14 = elim x14 [ ]
  one (Sorted.array x) Sorted.number x16 = elim x16 [ ]
  one (Sorted.array x) (Sorted.object y) x17 = elim x17 [ ]
  one (Sorted.object x) (Sorted.literal) x14 = elim x14 [ ]
  one (Sorted.object x) (Sorted.string) x15 = elim x15 [ ]
  one (Sorted.object x) Sorted.number x17 = elim x17 [ ]
  one (Sorted.object x) (Sorted.array y) x18 = elim x18 [ ]

  one_all : {ts ss : Trees} → SortedAll ts → SortedAll ss → means ss ≡ means ts → ts ≡ ss
  one_all SortedAll.nil SortedAll.nil e = refl
  one_all SortedAll.nil (SortedAll.cons y ys) e = let z : ◌≡◌ {A = ℕ} 0 1 = cc in absurd (omega arith)
  one_all (SortedAll.cons x xs) SortedAll.nil e = let z : ◌≡◌ {A = ℕ} 0 1 = cc in absurd (omega arith)
  one_all (SortedAll.cons {t = t} {ts = ts} x xs) (SortedAll.cons {t = s} {ts = ss} y ys) e =
      ap₂ Trees.cons (one x y (shape_of s (let z : mean s ≡ mean t = cc in z))) (one_all xs ys (let z : means ss ≡ means ts = cc in z))

  one_pairs : {ps qs : Pairs} → SortedPairs ps → SortedPairs qs → ((k : Units) → at qs k ≡ at ps k) → ps ≡ qs
  one_pairs SortedPairs.empty SortedPairs.empty e = refl
  one_pairs SortedPairs.empty (SortedPairs.pair {k = k} {t = t} {ps = ps} b y ys) e = absurd (some_none (sym (at_it k t ps k refl) ∙ e k))
  one_pairs (SortedPairs.pair {k = k} {t = t} {ps = ps} a x xs) SortedPairs.empty e = absurd (some_none (sym (at_it k t ps k refl) ∙ sym (e k)))
  one_pairs (SortedPairs.pair a x xs) (SortedPairs.pair b y ys) e = first_members a b e (λ z. one x y z) (λ z. one_pairs xs ys z)

-- A sorted tree is the only one of its meaning.
pub sorted_one : {a b : Tree} → Sorted a → Sorted b → mean a ≡ mean b → a ≡ b
sorted_one {b = b} x y e = one x y (shape_of b (sym e))

-- Two trees mean the same exactly when they sort to the same.
pub canon_same : {d e : ℕ} {a b : Tree} → Keeps d a → Keeps e b → (canon a ≡ canon b) ↔ (mean a ≡ mean b)
canon_same x y = (
  (λ p. sym (mean_canon x) ∙ ap mean p ∙ mean_canon y),
  (λ p. sorted_one (sorted_canon x) (sorted_canon y) (mean_canon x ∙ p ∙ sym (mean_canon y))),
)
