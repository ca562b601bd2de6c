-- The values inside a container are siblings in the table.
use Prim.Native.Nat.{◌*◌, ◌+◌, ◌<◌, ◌≤◌, ℕ}
use Rattle.members.proofs.Lineage.{siblings_between}
use Rattle.members.specs.Lists.{In}
use Rattle.members.specs.Records.{max_records, word}
use Rattle.members.specs.Rows.{Row}
use Rattle.members.specs.Siblings.{Siblings}
use Rattle.text.proofs.Records.{size_some}
use Rattle.text.specs.Bytes.{Bytes}
use Rattle.text.specs.Node.{Members, Node, Nodes}
use Rattle.text.specs.Table.{Words, size, size_all, size_members, unnamed}
use Rattle.values.specs.Children.{Child, elements, members, places, sizes}
use Rattle.values.specs.Held.{Held, HeldAll, Spelt, Unlinked}
use lib.ListN.{length}
use mathlib.Core.List.{List, []}
use mathlib.Core.Path.{◌≡◌, ap, refl, subst, subst⁻¹}
use native.Mathlib.Omega.{arith}

pub elements_size : (vs : Nodes) → sizes (elements vs) ≡ size_all vs
unfolding sizes elements size
elements_size Nodes.nil = refl
elements_size (Nodes.cons v vs) = ap (λ n. size v + n) (elements_size vs)

pub members_size : (ms : Members) → sizes (members ms) ≡ size_members ms
unfolding sizes members size
members_size Members.empty = refl
members_size (Members.member q us v ms) = ap (λ n. size v + n) (members_size ms)

pub held_record : {t : Bytes} {w : Words} {k : ℕ} {v : Node} → Held t w k v → word w k 3 ≡ k + size v
held_record (Held.held r s x) = r.next

-- They stand from their first record on, up to the end of the container's.
pub held_siblings : {t : Bytes} {w : Words} {k : ℕ} {cs : List Child} → HeldAll t w k cs → Siblings w (k + sizes cs) k (places k cs)
unfolding sizes places
held_siblings {w = w} {k = k} HeldAll.none = subst (λ e. Siblings w e k []) (let e : k ≡ k + 0 = omega arith in e) Siblings.none
held_siblings {w = w} {k = k} (HeldAll.more {v = v} {cs = cs} x u e y) =
    let n : word w k 3 ≡ k + size v = held_record x in
    let z : k + size v + sizes cs ≡ k + (size v + sizes cs) = omega arith in
    Siblings.more {r = k} (omega (arith, n, size_some v))
    (subst⁻¹ (λ r. Siblings w (k + (size v + sizes cs)) r (places (k + size v) cs)) n (subst (λ e. Siblings w e (k + size v) (places (k + size v) cs)) z (held_siblings y)))

-- The child at a record.
pub record Placed (t : Bytes) (w : Words) (cs : List Child) (x : ℕ) : Type 0 where
  pub value : Node
  pub held : Held t w x value
  pub unlinked : Unlinked w x

pub place_of : {t : Bytes} {w : Words} {k x : ℕ} {cs : List Child} → HeldAll t w k cs → In x (places k cs) → Placed t w cs x
unfolding places
place_of (HeldAll.more {v = v} h u e y) In.here = record { value = v; held = h; unlinked = u }
place_of (HeldAll.more h u e y) (In.there i) = let p = place_of y i in record { value = p.value; held = p.held; unlinked = p.unlinked }
place_of (Rattle.values.specs.Held.none) x7 = elim x7 [ ]

-- Word 2 of a member is its name's opening quote, which rise.
quotes_from : {t : Bytes} {w : Words} {k b x : ℕ} {ms : Members} → Spelt t b ms → HeldAll t w k (members ms) → In x (places k (members ms)) → (b ≤ word w x 2) × (word w x 2 < length t) × (word w x 2 < unnamed)
unfolding places members
quotes_from (Spelt.more l m c n s) (HeldAll.more h u e y) In.here = (omega (arith, e), omega (arith, e), omega (arith, e))
quotes_from {k = k} (Spelt.more l m c n s) (HeldAll.more {v = v} h u e y) (In.there i) = let (a, b, c) = quotes_from {k = k + size v} s y i in (omega arith, b, c)
quotes_from (Rattle.values.specs.Held.none) _ x11 = elim x11 [ ]

quotes_rise : {t : Bytes} {w : Words} {k b x y : ℕ} {ms : Members} → Spelt t b ms → HeldAll t w k (members ms) → In x (places k (members ms)) → In y (places k (members ms)) → x < y → word w x 2 < word w y 2
unfolding places members
quotes_rise (Spelt.more l m c n s) (HeldAll.more h u e z) In.here In.here o = absurd (omega arith)
quotes_rise (Spelt.more l m c n s) (HeldAll.more h u e z) In.here (In.there j) o = omega (arith, e, quotes_from s z j)
quotes_rise (Spelt.more l m c n s) (HeldAll.more {v = v} h u e z) (In.there i) In.here o = absurd (omega (arith, siblings_between (held_siblings z) i, size_some v))
quotes_rise {k = k} (Spelt.more l m c n s) (HeldAll.more {v = v} h u e z) (In.there i) (In.there j) o = quotes_rise {k = k + size v} s z i j o
quotes_rise (Rattle.values.specs.Held.none) _ x17 _ o = elim x17 [ ]

pub quote_inside : {t : Bytes} {w : Words} {k x : ℕ} {ms : Members} → Spelt t 0 ms → HeldAll t w k (members ms) → In x (places k (members ms)) → (word w x 2 < length t) × (word w x 2 < unnamed)
quote_inside s y i = let (a, b, c) = quotes_from s y i in (b, c)

-- The members of an object can be put in order.
pub members_row : {t : Bytes} {w : Words} {k : ℕ} {ms : Members} (e : ℕ) → e ≡ k + size_members ms → Spelt t 0 ms → HeldAll t w k (members ms) → e ≤ max_records → 4 * e ≤ length w → Row t w k e
members_row {t} {w} {k} {ms} e f s y a b =
    let n : k + sizes (members ms) ≡ e = omega (arith, members_size ms) in
    record {
      few = a;
      long = b;
      members = places k (members ms);
      siblings = subst (λ e. Siblings w e k (places k (members ms))) n (held_siblings y);
      low = λ x i. (place_of y i).unlinked;
      inside = λ x i. (quotes_from s y i).1;
      rising = λ x z i j l. quotes_rise s y i j l;
    }
