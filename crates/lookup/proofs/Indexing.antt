-- What a token names in an array.
use Prim.Native.Nat.{◌+◌, ◌<◌, ◌≤◌, suc, zero, ℕ}
use Rattle.lookup.specs.Tokens.{Capped, Index}
use Rattle.meaning.specs.Lookup.{Seen, child, is_index, nth}
use Rattle.members.specs.Records.{max_records}
use Rattle.std.specs.Prelude.{None, Some}
use Rattle.text.proofs.Records.{size_some}
use Rattle.text.specs.Bytes.{Units, value_from}
use Rattle.text.specs.Node.{Node, Nodes}
use Rattle.text.specs.Table.{size, size_all}
use mathlib.Core.Bool.{Bool, false, true}
use mathlib.Core.Path.{◌≡◌, ap, refl}
use native.Mathlib.Omega.{arith}

-- An index past the last element names nothing.
nth_past : (p i n : ℕ) (vs : Nodes) → size_all vs ≤ i → nth p i n vs ≡ Seen.lost p
unfolding nth size
nth_past p i n Nodes.nil l = refl
nth_past p zero n (Nodes.cons v vs) l = absurd (omega (arith, l, size_some v))
nth_past p (suc i) n (Nodes.cons v vs) l = nth_past p i (n + size v) vs (omega (arith, l, size_some v))

-- So a token names the element of its index: no array has `maxRecords` elements.
array_child : (p : ℕ) (us : Units) (n a e : ℕ) (vs : Nodes) (b : Bool) → is_index us ≡ b
    → child p us n (Node.array a e vs) ≡ elim b as (λ _. Seen) [ true ↦ nth p (value_from 0 us) (suc n) vs | false ↦ Seen.lost p ]
unfolding child
array_child p us n a e vs b = ap (λ b. elim b as (λ _. Seen) [ true ↦ nth p (value_from 0 us) (suc n) vs | false ↦ Seen.lost p ])

module _ (p n a e : ℕ) (vs : Nodes) (us : Units) where
  pub by_index : {i : ℕ} → Index us (Some i) → child p us n (Node.array a e vs) ≡ nth p i (suc n) vs
  by_index (Capped.some f l) = array_child p us n a e vs true f

  pub by_none : Index us None → size_all vs < max_records → child p us n (Node.array a e vs) ≡ Seen.lost p
  by_none (Capped.great h) l = grind (arith, array_child, nth_past)
  by_none (Capped.none f) l = array_child p us n a e vs false f
