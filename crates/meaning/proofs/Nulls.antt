-- A patch's null members remove. 01 "Merge patch": a null member reached in the patch through objects only never
-- reaches the result.
use Rattle.meaning.proofs.Members.{some_none, un_some}
use Rattle.meaning.proofs.Merging.{is_null_meaning, member_of, merge_object, merge_meaning, old, set}
use Rattle.meaning.specs.Meaning.{Maybe, Meaning, Meanings}
use Rattle.text.specs.Bytes.{Units}
use Rattle.text.specs.Decimal.{Decimal}
use Rattle.text.specs.Node.{Literal}
use mathlib.Core.Bool.{Bool, false, true}
use mathlib.Core.List.{List, [], ◌∷◌}
use mathlib.Core.Path.{◌∙◌, ◌≡◌, ap, refl, subst⁻¹, sym}

-- No member reached through objects only is null. (The meaning itself may be, and so may what stands in arrays.)
mutual
  pub data NullFree : Meaning → Type 0 where
    literal : {w : Literal} → NullFree (Meaning.literal w)
    string : {us : Units} → NullFree (Meaning.string us)
    number : {x : Decimal} → NullFree (Meaning.number x)
    array : {ms : Meanings} → NullFree (Meaning.array ms)
    object : {f : Units → Maybe} → ((k : Units) → NullFreeMember (f k)) → NullFree (Meaning.object f)

  pub data NullFreeMember : Maybe → Type 0 where
    absent : NullFreeMember Maybe.none
    present : {m : Meaning} → is_null_meaning m ≡ false → NullFree m → NullFreeMember (Maybe.some m)

-- A merge is null exactly when its patch is.
null_merge : (m p : Meaning) → is_null_meaning (merge_meaning m p) ≡ is_null_meaning p
unfolding is_null_meaning merge_meaning
null_merge m (Meaning.literal w) = refl
null_merge m (Meaning.string us) = refl
null_merge m (Meaning.number x) = refl
null_merge m (Meaning.array ms) = refl
null_merge m (Meaning.object f) = refl

free_member : {m : Meaning} → NullFree m → (k : Units) → NullFreeMember (member_of m k)
unfolding member_of
free_member NullFree.literal k = NullFreeMember.absent
free_member NullFree.string k = NullFreeMember.absent
free_member NullFree.number k = NullFreeMember.absent
free_member NullFree.array k = NullFreeMember.absent
free_member (NullFree.object h) k = h k

free_old : {o : Maybe} → NullFreeMember o → NullFree (old o)
unfolding old
free_old NullFreeMember.absent = NullFree.literal
free_old (NullFreeMember.present e h) = h

free_set : (o : Maybe) (p : Meaning) → NullFree (merge_meaning (old o) p) → NullFreeMember (set o (Maybe.some p))
unfolding set
free_set o p h = by (is_null_meaning p) refl
  where
    by : (b : Bool) → is_null_meaning p ≡ b → NullFreeMember (elim b as (λ _. Maybe) [ true ↦ Maybe.none | false ↦ Maybe.some (merge_meaning (old o) p) ])
    by true e = NullFreeMember.absent
    by false e = NullFreeMember.present (null_merge (old o) p ∙ e) h

-- No patch brings a null member: where the target has none, the result has none.
free_merge : (p : Meaning) {m : Meaning} → NullFree m → NullFree (merge_meaning m p)
unfolding merge_meaning set
free_merge p {m} h =
    (elim p as (λ p. (m : Meaning) → NullFree m → NullFree (merge_meaning m p)) (λ _. Unit {0}) (λ q. (o : Maybe) → NullFreeMember o → NullFreeMember (set o q)) [
      | Meaning.literal w ↦ λ m h. NullFree.literal
      | Meaning.string us ↦ λ m h. NullFree.string
      | Meaning.number x ↦ λ m h. NullFree.number
      | Meaning.array ps ↦ λ m h. NullFree.array
      | Meaning.object (f → r) ↦ λ m h. subst⁻¹ NullFree (merge_object m f) (NullFree.object (λ k. r k (member_of m k) (free_member h k)))
      | Meanings.nil ↦ tt
      | Meanings.cons p ps ↦ tt
      | Maybe.none ↦ λ o h. h
      | Maybe.some (p → r) ↦ λ o h. free_set o p (r (old o) (free_old h))
    ]) m h

-- So a target without members, as one that isn't an object, gives a result without null members.
pub free_alone : (m p : Meaning) → ((k : Units) → member_of m k ≡ Maybe.none) → NullFree (merge_meaning m p)
unfolding member_of
free_alone m p n = free_merge p (by m n)
  where
    by : (m : Meaning) → ((k : Units) → member_of m k ≡ Maybe.none) → NullFree m
    by (Meaning.literal w) n = NullFree.literal
    by (Meaning.string us) n = NullFree.string
    by (Meaning.number x) n = NullFree.number
    by (Meaning.array ms) n = NullFree.array
    by (Meaning.object f) n = NullFree.object (λ k. subst⁻¹ NullFreeMember (n k) NullFreeMember.absent)

-- The member that the names lead to, through objects only.
unfoldable pub reach : Maybe → List Units → Maybe
reach o [] = o
reach Maybe.none (k ∷ ks) = Maybe.none
reach (Maybe.some m) (k ∷ ks) = reach (member_of m k) ks

reach_none : (ks : List Units) → reach Maybe.none ks ≡ Maybe.none
unfolding reach
reach_none [] = refl
reach_none (k ∷ ks) = refl

member_removes : (ks : List Units) → ((o q : Maybe) → reach q ks ≡ Maybe.some (Meaning.literal Literal.null) → reach (set o q) ks ≡ Maybe.none)
    → (m p : Meaning) (k : Units) → reach (member_of p k) ks ≡ Maybe.some (Meaning.literal Literal.null) → reach (member_of (merge_meaning m p) k) ks ≡ Maybe.none
unfolding member_of merge_meaning
member_removes ks h m (Meaning.literal w) k e = reach_none ks
member_removes ks h m (Meaning.string us) k e = reach_none ks
member_removes ks h m (Meaning.number x) k e = reach_none ks
member_removes ks h m (Meaning.array ms) k e = reach_none ks
member_removes ks h m (Meaning.object f) k e = ap (λ x. reach (member_of x k) ks) (merge_object m f) ∙ h (member_of m k) (f k) e

set_removes : (ks : List Units) (o q : Maybe) → reach q ks ≡ Maybe.some (Meaning.literal Literal.null) → reach (set o q) ks ≡ Maybe.none
unfolding reach set is_null_meaning
set_removes [] o Maybe.none e = absurd (some_none (sym e))
set_removes [] o (Maybe.some p) e = ap (λ x. set o (Maybe.some x)) (un_some e)
set_removes (k ∷ ks) o Maybe.none e = absurd (some_none (sym e))
set_removes (k ∷ ks) o (Maybe.some p) e = by (is_null_meaning p) (member_removes ks (set_removes ks) (old o) p k e)
  where
    by : (b : Bool) → reach (member_of (merge_meaning (old o) p) k) ks ≡ Maybe.none
        → reach (elim b as (λ _. Maybe) [ true ↦ Maybe.none | false ↦ Maybe.some (merge_meaning (old o) p) ]) (k ∷ ks) ≡ Maybe.none
    by true h = refl
    by false h = h

-- Where names lead to null in the patch, they lead to nothing in the result, whatever the target has there.
pub null_removes : (m p : Meaning) (k : Units) (ks : List Units) → reach (member_of p k) ks ≡ Maybe.some (Meaning.literal Literal.null)
    → reach (member_of (merge_meaning m p) k) ks ≡ Maybe.none
null_removes m p k ks e = member_removes ks (set_removes ks) m p k e
