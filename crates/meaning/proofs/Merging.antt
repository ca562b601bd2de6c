-- Merge patch over meanings: what the merge of two trees means depends on nothing but what the two mean, and it
-- keeps to the ceilings where they do.
use Prim.Native.Nat.{suc, ℕ}
use Rattle.meaning.proofs.Keeps.{Keeps, KeepsPairs, Units16}
use Rattle.meaning.proofs.Members.{Which, at_it, at_other, which}
use Rattle.meaning.specs.Meaning.{Maybe, Meaning, Meanings, Pairs, Tree, at, mean}
use Rattle.meaning.specs.Merge.{find, is_null, members_of, merge, merge_into, remove}
use Rattle.text.proofs.Names.{same_is, same_no}
use Rattle.text.specs.Bytes.{Units}
use Rattle.text.specs.Ceilings.{same}
use Rattle.text.specs.Node.{Literal}
use mathlib.Core.Bool.{Bool, false, true}
use mathlib.Core.Path.{◌∙◌, ◌≡◌, ap, ap₂, fun_ext, refl, sym}
use native.Mathlib.Omega.{arith}

-- What a meaning has at a name: nothing if it isn't an object.
unfoldable pub member_of : Meaning → Units → Maybe
member_of (Meaning.literal w) k = Maybe.none
member_of (Meaning.string us) k = Maybe.none
member_of (Meaning.number x) k = Maybe.none
member_of (Meaning.array ms) k = Maybe.none
member_of (Meaning.object f) k = f k

-- The value that a member has before the merge: `null`, which isn't an object, where there is no such member.
unfoldable pub old : Maybe → Meaning
old Maybe.none = Meaning.literal Literal.null
old (Maybe.some m) = m

unfoldable pub is_null_meaning : Meaning → Bool
is_null_meaning (Meaning.literal Literal.null) = true
is_null_meaning (Meaning.literal Literal.true) = false
is_null_meaning (Meaning.literal Literal.false) = false
is_null_meaning (Meaning.string us) = false
is_null_meaning (Meaning.number x) = false
is_null_meaning (Meaning.array ms) = false
is_null_meaning (Meaning.object f) = false

-- What the patch's member, if there is one, makes of the old member; the recursion goes through the object's function.
merged : Maybe → Maybe → Maybe
merged p =
    elim p as (λ _. Meaning → Meaning) (λ _. Unit {0}) (λ _. Maybe → Maybe) [
      | Meaning.literal w ↦ λ m. Meaning.literal w
      | Meaning.string us ↦ λ m. Meaning.string us
      | Meaning.number x ↦ λ m. Meaning.number x
      | Meaning.array ps ↦ λ m. Meaning.array ps
      | Meaning.object (f → h) ↦ λ m. Meaning.object (λ k. h k (member_of m k))
      | Meanings.nil ↦ tt
      | Meanings.cons p ps ↦ tt
      | Maybe.none ↦ λ o. o
      | Maybe.some (p → h) ↦ λ o. elim (is_null_meaning p) [ true ↦ Maybe.none | false ↦ Maybe.some (h (old o)) ]
    ]

unfoldable pub merge_meaning : Meaning → Meaning → Meaning
unfolding merged member_of
merge_meaning m (Meaning.literal w) = Meaning.literal w
merge_meaning m (Meaning.string us) = Meaning.string us
merge_meaning m (Meaning.number x) = Meaning.number x
merge_meaning m (Meaning.array ps) = Meaning.array ps
merge_meaning m (Meaning.object f) = Meaning.object (λ k. merged (f k) (member_of m k))

-- The same without the recursion in sight.
unfoldable pub set : Maybe → Maybe → Maybe
set o Maybe.none = o
set o (Maybe.some p) = elim (is_null_meaning p) [ true ↦ Maybe.none | false ↦ Maybe.some (merge_meaning (old o) p) ]

merged_set : (o p : Maybe) → merged p o ≡ set o p
unfolding merged set merge_meaning
merged_set o Maybe.none = refl
merged_set o (Maybe.some (Meaning.literal Literal.null)) = refl
merged_set o (Maybe.some (Meaning.literal Literal.true)) = refl
merged_set o (Maybe.some (Meaning.literal Literal.false)) = refl
merged_set o (Maybe.some (Meaning.string us)) = refl
merged_set o (Maybe.some (Meaning.number x)) = refl
merged_set o (Maybe.some (Meaning.array ms)) = refl
merged_set o (Maybe.some (Meaning.object f)) = refl

-- The rule for a patch that is an object.
pub merge_object : (m : Meaning) (f : Units → Maybe) → merge_meaning m (Meaning.object f) ≡ Meaning.object (λ k. set (member_of m k) (f k))
unfolding merge_meaning merged
merge_object m f = ap Meaning.object (fun_ext (λ k. merged_set (member_of m k) (f k)))

-- What a patch's member sets by whether it is null.
abbrev given : Maybe → Meaning → Bool → Maybe
given o p b = elim b as (λ _. Maybe) [ true ↦ Maybe.none | false ↦ Maybe.some (merge_meaning (old o) p) ]

-- The same patch again changes nothing.
object_again : (m : Meaning) (f : Units → Maybe) → ((k : Units) (o : Maybe) → set (set o (f k)) (f k) ≡ set o (f k))
    → merge_meaning (merge_meaning m (Meaning.object f)) (Meaning.object f) ≡ merge_meaning m (Meaning.object f)
unfolding member_of
object_again m f h =
    ap (λ n. merge_meaning n (Meaning.object f)) (merge_object m f) ∙ merge_object (Meaning.object (λ k. set (member_of m k) (f k))) f
    ∙ ap Meaning.object (fun_ext (λ k. h k (member_of m k))) ∙ sym (merge_object m f)

set_again : (p : Maybe) → (o : Maybe) → set (set o p) p ≡ set o p
unfolding merge_meaning member_of set old
set_again p =
    elim p as (λ p. (m : Meaning) → merge_meaning (merge_meaning m p) p ≡ merge_meaning m p) (λ _. Unit {0}) (λ p. (o : Maybe) → set (set o p) p ≡ set o p) [
      | Meaning.literal w ↦ λ m. refl
      | Meaning.string us ↦ λ m. refl
      | Meaning.number x ↦ λ m. refl
      | Meaning.array ps ↦ λ m. refl
      | Meaning.object (f → h) ↦ λ m. object_again m f h
      | Meanings.nil ↦ tt
      | Meanings.cons p ps ↦ tt
      | Maybe.none ↦ λ o. refl
      | Maybe.some (p → h) ↦ λ o. again p (is_null_meaning p) refl h o
    ]
  where
    again : (p : Meaning) (b : Bool) → is_null_meaning p ≡ b → ((m : Meaning) → merge_meaning (merge_meaning m p) p ≡ merge_meaning m p)
        → (o : Maybe) → set (set o (Maybe.some p)) (Maybe.some p) ≡ set o (Maybe.some p)
    again p true e h o = ap (given (set o (Maybe.some p)) p) e ∙ sym (ap (given o p) e)
    again p false e h o =
        ap (λ x. set x (Maybe.some p)) (ap (given o p) e) ∙ ap (given (Maybe.some (merge_meaning (old o) p)) p) e
        ∙ ap Maybe.some (h (old o)) ∙ sym (ap (given o p) e)

pub merge_again : (m p : Meaning) → merge_meaning (merge_meaning m p) p ≡ merge_meaning m p
unfolding merge_meaning
merge_again m (Meaning.literal w) = refl
merge_again m (Meaning.string us) = refl
merge_again m (Meaning.number x) = refl
merge_again m (Meaning.array ps) = refl
merge_again m (Meaning.object f) = object_again m f (λ k. set_again (f k))

-- The parts of the merge of trees mean those of the merge of meanings.
find_means : (ps : Pairs) (k : Units) → mean (find ps k) ≡ old (at ps k)
unfolding find at old
find_means Pairs.empty k = refl
find_means (Pairs.pair j t ps) k = by (same k j) (find_means ps k)
  where
    by : (b : Bool) → mean (find ps k) ≡ old (at ps k)
        → mean (elim b as (λ _. Tree) [ true ↦ t | false ↦ find ps k ]) ≡ old (elim b as (λ _. Maybe) [ true ↦ Maybe.some (mean t) | false ↦ at ps k ])
    by true h = refl
    by false h = h

pub members_mean : (t : Tree) (k : Units) → at (members_of t) k ≡ member_of (mean t) k
unfolding members_of at member_of
members_mean (Tree.literal w) k = refl
members_mean (Tree.string us) k = refl
members_mean (Tree.number x) k = refl
members_mean (Tree.array ts) k = refl
members_mean (Tree.object ps) k = refl

pub null_means : (t : Tree) → is_null t ≡ is_null_meaning (mean t)
unfolding is_null is_null_meaning mean
null_means (Tree.literal Literal.null) = refl
null_means (Tree.literal Literal.true) = refl
null_means (Tree.literal Literal.false) = refl
null_means (Tree.string us) = refl
null_means (Tree.number x) = refl
null_means (Tree.array ts) = refl
null_means (Tree.object ps) = refl

-- Removing a name's members leaves nothing there, and all that is elsewhere.
remove_it : (k : Units) (ps : Pairs) → at (remove k ps) k ≡ Maybe.none
unfolding remove at
remove_it k Pairs.empty = refl
remove_it k (Pairs.pair j t ps) = by (same k j) refl (remove_it k ps)
  where
    by : (b : Bool) → same k j ≡ b → at (remove k ps) k ≡ Maybe.none → at (elim b as (λ _. Pairs) [ true ↦ remove k ps | false ↦ Pairs.pair j t (remove k ps) ]) k ≡ Maybe.none
    by true e h = h
    by false e h = at_other j t (remove k ps) k (same_no k j e) ∙ h

remove_other : (k : Units) (ps : Pairs) (j : Units) → (j ≡ k → ⊥) → at (remove k ps) j ≡ at ps j
unfolding remove
remove_other k Pairs.empty j n = refl
remove_other k (Pairs.pair i t ps) j n = by (same k i) refl (remove_other k ps j n) (which j i)
  where
    by : (b : Bool) → same k i ≡ b → at (remove k ps) j ≡ at ps j → Which j i
        → at (elim b as (λ _. Pairs) [ true ↦ remove k ps | false ↦ Pairs.pair i t (remove k ps) ]) j ≡ at (Pairs.pair i t ps) j
    by true e h (Which.it p) = absurd (n (p ∙ sym (same_is k i e)))
    by true e h (Which.other p) = h ∙ sym (at_other i t ps j p)
    by false e h (Which.it p) = at_it i t (remove k ps) j p ∙ sym (at_it i t ps j p)
    by false e h (Which.other p) = at_other i t (remove k ps) j p ∙ h ∙ sym (at_other i t ps j p)

-- One turn of the loop: the target's members `ms` behind the patch's member `k`, `p`, which merges to `r`.
unfoldable pub step : Pairs → Units → Tree → Tree → Pairs
step ms k p r = elim (is_null p) [ true ↦ remove k ms | false ↦ Pairs.pair k r (remove k ms) ]

step_it : (ms : Pairs) (k : Units) (p r : Tree) → mean r ≡ merge_meaning (old (at ms k)) (mean p) → at (step ms k p r) k ≡ set (at ms k) (Maybe.some (mean p))
unfolding step set
step_it ms k p r e = by (is_null p) (is_null_meaning (mean p)) (null_means p)
  where
    by : (a b : Bool) → a ≡ b → at (elim a as (λ _. Pairs) [ true ↦ remove k ms | false ↦ Pairs.pair k r (remove k ms) ]) k
        ≡ (elim b as (λ _. Maybe) [ true ↦ Maybe.none | false ↦ Maybe.some (merge_meaning (old (at ms k)) (mean p)) ])
    by true true q = remove_it k ms
    by true false q = let z : ◌≡◌ {A = ℕ} 0 1 = cc in absurd (omega arith)
    by false true q = let z : ◌≡◌ {A = ℕ} 0 1 = cc in absurd (omega arith)
    by false false q = at_it k r (remove k ms) k refl ∙ ap Maybe.some e

step_other : (ms : Pairs) (k : Units) (p r : Tree) (j : Units) → (j ≡ k → ⊥) → at (step ms k p r) j ≡ at ms j
unfolding step
step_other ms k p r j n = by (is_null p)
  where
    by : (a : Bool) → at (elim a as (λ _. Pairs) [ true ↦ remove k ms | false ↦ Pairs.pair k r (remove k ms) ]) j ≡ at ms j
    by true = remove_other k ms j n
    by false = at_other k r (remove k ms) j n ∙ remove_other k ms j n

-- What the loop over the rest `ps` of the patch makes of a turn's outcome is what the whole patch makes of `ms`.
turn_means : (ms : Pairs) (j : Units) (p r : Tree) (ps : Pairs) {k : Units} → at ps j ≡ Maybe.none → mean r ≡ merge_meaning (old (at ms j)) (mean p)
    → at (merge_into (step ms j p r) ps) k ≡ set (at (step ms j p r) k) (at ps k) → Which k j → at (merge_into (step ms j p r) ps) k ≡ set (at ms k) (at (Pairs.pair j p ps) k)
unfolding set
turn_means ms j p r ps {k} f e h (Which.it q) =
    h ∙ ap (λ x. set (at (step ms j p r) k) x) (ap (at ps) q ∙ f) ∙ ap (at (step ms j p r)) q ∙ step_it ms j p r e
    ∙ ap (λ x. set (at ms x) (Maybe.some (mean p))) (sym q) ∙ ap (set (at ms k)) (sym (at_it j p ps k q))
turn_means ms j p r ps {k} f e h (Which.other q) = h ∙ ap₂ set (step_other ms j p r k q) (sym (at_other j p ps k q))

-- The merge of trees means the merge of their meanings.
mutual
  unfolding merge mean merge_meaning step set

  pub merge_means : {d : ℕ} (t : Tree) {p : Tree} → Keeps d p → mean (merge t p) ≡ merge_meaning (mean t) (mean p)
  merge_means t Keeps.literal = refl
  merge_means t (Keeps.string u) = refl
  merge_means t (Keeps.number x) = refl
  merge_means t (Keeps.array l o) = refl
  merge_means t (Keeps.object {ps = ps} l o) =
      ap Meaning.object (fun_ext (λ k. into_means (members_of t) o k ∙ ap (λ x. set x (at ps k)) (members_mean t k))) ∙ sym (merge_object (mean t) (λ k. at ps k))

  into_means : {d : ℕ} (ms : Pairs) {ps : Pairs} → KeepsPairs d ps → (k : Units) → at (merge_into ms ps) k ≡ set (at ms k) (at ps k)
  into_means ms KeepsPairs.empty k = refl
  into_means ms (KeepsPairs.pair {k = j} {t = p} {ps = ps} u f o os) k =
      turn_means ms j p (merge (find ms j) p) ps f (merge_means (find ms j) o ∙ ap (λ x. merge_meaning x (mean p)) (find_means ms j))
      (into_means (step ms j p (merge (find ms j) p)) os k) (which k j)

-- So trees that mean the same merge to the same.
pub merge_same : {d e : ℕ} (t t' : Tree) {p p' : Tree} → Keeps d p → Keeps e p' → mean t ≡ mean t' → mean p ≡ mean p' → mean (merge t p) ≡ mean (merge t' p')
merge_same t t' x y e f = merge_means t x ∙ ap₂ merge_meaning e f ∙ sym (merge_means t' y)

-- The merge keeps to the ceilings, depth included, where target and patch do.
keeps_remove : {d : ℕ} (k : Units) {ps : Pairs} → KeepsPairs d ps → KeepsPairs d (remove k ps)
unfolding remove
keeps_remove k KeepsPairs.empty = KeepsPairs.empty
keeps_remove {d} k (KeepsPairs.pair {k = j} {t = t} {ps = ps} u f o os) = by (same k j) refl (keeps_remove k os)
  where
    by : (b : Bool) → same k j ≡ b → KeepsPairs d (remove k ps) → KeepsPairs d (elim b as (λ _. Pairs) [ true ↦ remove k ps | false ↦ Pairs.pair j t (remove k ps) ])
    by true e r = r
    by false e r = KeepsPairs.pair u (remove_other k ps j (λ p. same_no k j e (sym p)) ∙ f) o r

keeps_find : {d : ℕ} {ps : Pairs} → KeepsPairs d ps → (k : Units) → Keeps d (find ps k)
unfolding find
keeps_find KeepsPairs.empty k = Keeps.literal
keeps_find {d} (KeepsPairs.pair {k = j} {t = t} {ps = ps} u f o os) k = by (same k j) (keeps_find os k)
  where
    by : (b : Bool) → Keeps d (find ps k) → Keeps d (elim b as (λ _. Tree) [ true ↦ t | false ↦ find ps k ])
    by true r = o
    by false r = r

keeps_step : {d : ℕ} {ms : Pairs} {k : Units} (p : Tree) {r : Tree} → KeepsPairs d ms → Units16 k → Keeps d r → KeepsPairs d (step ms k p r)
unfolding step
keeps_step {d} {ms} {k} p {r} os u o = by (is_null p)
  where
    by : (a : Bool) → KeepsPairs d (elim a as (λ _. Pairs) [ true ↦ remove k ms | false ↦ Pairs.pair k r (remove k ms) ])
    by true = keeps_remove k os
    by false = KeepsPairs.pair u (remove_it k ms) o (keeps_remove k os)

keeps_members : {d : ℕ} {t : Tree} → Keeps d t → KeepsPairs (suc d) (members_of t)
unfolding members_of
keeps_members Keeps.literal = KeepsPairs.empty
keeps_members (Keeps.string u) = KeepsPairs.empty
keeps_members (Keeps.number x) = KeepsPairs.empty
keeps_members (Keeps.array l o) = KeepsPairs.empty
keeps_members (Keeps.object l o) = o

mutual
  unfolding merge step

  pub keeps_merge : {d : ℕ} {t p : Tree} → Keeps d p → Keeps d t → Keeps d (merge t p)
  keeps_merge Keeps.literal o = Keeps.literal
  keeps_merge (Keeps.string u) o = Keeps.string u
  keeps_merge (Keeps.number x) o = Keeps.number x
  keeps_merge (Keeps.array l x) o = Keeps.array l x
  keeps_merge (Keeps.object l x) o = Keeps.object l (keeps_into x (keeps_members o))

  keeps_into : {d : ℕ} {ms ps : Pairs} → KeepsPairs d ps → KeepsPairs d ms → KeepsPairs d (merge_into ms ps)
  keeps_into KeepsPairs.empty os = os
  keeps_into (KeepsPairs.pair {k = k} {t = p} u f o ps) os = keeps_into ps (keeps_step p os u (keeps_merge o (keeps_find os k)))
