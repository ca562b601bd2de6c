-- What stands at a record: a value with nothing inside it, an array or an object. Its first byte tells which.
use Prim.Native.Char.{code}
use Prim.Native.Nat.{◌%◌, ◌*◌, ◌+◌, ◌≤◌, suc, ℕ}
use Rattle.lookup.proofs.Finding.{find_place, is_named, nth_place}
use Rattle.lookup.proofs.Indexing.{by_index, by_none}
use Rattle.lookup.specs.Steps.{Stepped}
use Rattle.lookup.specs.Tokens.{Index}
use Rattle.meaning.specs.Lookup.{Seen, by_name, child, nth}
use Rattle.members.specs.Links.{low_part}
use Rattle.members.specs.Names.{Named}
use Rattle.members.specs.Records.{next_of, word}
use Rattle.members.specs.Walking.{Goes}
use Rattle.members.specs.declared.walk.Walk.{Walk}
use Rattle.members.specs.Lists.{In}
use Rattle.members.specs.Siblings.{Siblings}
use Rattle.std.specs.List.{find, slice_get}
use Rattle.std.specs.Option.{option_map}
use Rattle.std.specs.Prelude.{None, Option, Some}
use Rattle.text.proofs.Offsets.{end, start}
use Rattle.text.specs.Bytes.{Bytes, Units}
use Rattle.text.specs.Node.{Members, Node, Nodes}
use Rattle.text.specs.Table.{Words, record_words, size}
use Rattle.values.proofs.Kin.{elements_size, held_siblings, members_size, place_of, quote_inside}
use Rattle.values.proofs.Records.{held_few, held_onward, held_room, held_start, not_first, opens_scalar}
use Rattle.values.specs.Children.{Child, elements, members, places, sizes}
use Rattle.values.specs.Held.{Held, HeldAll, Holds, Recorded, Spelt}
use lib.ListN.{get_or, length}
use mathlib.Core.List.{List}
use mathlib.Core.Bool.{false}
use mathlib.Core.Path.{◌∙◌, ◌≡◌, ap, refl, subst, sym}
use native.Mathlib.Numerals.{add-one}
use native.Mathlib.Omega.{arith}

-- The records from `k` up to `e` are those of the values `cs`.
pub record Inside (t : Bytes) (w : Words) (k e : ℕ) (cs : List Child) : Type 0 where
  pub held : HeldAll t w k cs
  pub siblings : Siblings w e k (places k cs)
  pub long : record_words * e ≤ length w

-- The value `v` of record `r` is an array, or an object, whose records end before `e`.
pub record Array (t : Bytes) (w : Words) (r e : ℕ) (v : Node) : Type 0 where
  pub values : Nodes
  pub inside : Inside t w (r + 1) e (elements values)
  pub names : (p : ℕ) (us : Units) {i : ℕ} → Index us (Some i) → child p us r v ≡ nth p i (r + 1) values
  pub none : (p : ℕ) (us : Units) → Index us None → child p us r v ≡ Seen.lost p

pub record Object (t : Bytes) (w : Words) (r e : ℕ) (v : Node) : Type 0 where
  pub values : Members
  pub spelt : Spelt t 0 values
  pub inside : Inside t w (r + 1) e (members values)
  pub names : (p : ℕ) (us : Units) → child p us r v ≡ by_name p us (r + 1) values

-- Its first byte `b` tells which it is.
pub record Shape (t : Bytes) (w : Words) (r e b : ℕ) (v : Node) : Type 0 where
  pub object : b ≡ code "{" → Object t w r e v
  pub array : b ≡ code "[" → Array t w r e v
  pub flat : (b ≡ code "{" → ⊥) → (b ≡ code "[" → ⊥) → (p : ℕ) (us : Units) → child p us r v ≡ Seen.lost p

module _ {t : Bytes} {w : Words} {r e : ℕ} where
  insides : {cs : List Child} → HeldAll t w (suc r) cs → suc r + sizes cs ≡ e → record_words * e ≤ length w → Inside t w (r + 1) e cs
  insides {cs = cs} y f l = rw add-one (record { held = y; siblings = subst (λ e. Siblings w e (suc r) (places (suc r) cs)) f (held_siblings y); long = l })

  scalar_shape : {b : ℕ} {v : Node} (a : ℕ) → ((k : ℕ) → opens_scalar k ≡ false → get_or t a 0 ≡ k → ⊥) → b ≡ get_or t a 0 → ((p : ℕ) (us : Units) → child p us r v ≡ Seen.lost p) → Shape t w r e b v
  scalar_shape a z f n = record { object = λ o. absurd (z (code "{") refl (sym f ∙ o)); array = λ o. absurd (z (code "[") refl (sym f ∙ o)); flat = λ x y. n }

  shape_at : {b : ℕ} {v : Node} → Recorded w r (start v) (end v) (r + size v) → Holds t w r v → b ≡ get_or t (start v) 0 → e ≡ next_of w r → Shape t w r e b v
  unfolding child size start end next_of
  shape_at x (Holds.literal {p = a} z) f n = scalar_shape a (not_first z) f (λ p us. refl)
  shape_at x (Holds.string {p = a} z) f n = scalar_shape a (not_first z) f (λ p us. refl)
  shape_at x (Holds.number {p = a} z) f n = scalar_shape a (not_first z) f (λ p us. refl)
  shape_at x (Holds.array {p = a} {q = b} {vs = vs} z y) f n =
      record {
        object = λ o. absurd (omega (arith, f, z, o));
        array = λ o.
            record {
              values = vs;
              inside = insides y (omega (arith, n, x.next, elements_size vs)) (omega (arith, n, x.next, x.long));
              names = λ p us {i} j. by_index p r a b vs us j ∙ ap (λ k. nth p i k vs) (sym (add-one r));
              none = λ p us j. by_none p r a b vs us j (omega (arith, x.few));
            };
        flat = λ o u. absurd (u (f ∙ z));
      }
  shape_at x (Holds.object {ms = ms} z s y) f n =
      record {
        object = λ o.
            record {
              values = ms;
              spelt = s;
              inside = insides y (omega (arith, n, x.next, members_size ms)) (omega (arith, n, x.next, x.long));
              names = λ p us. ap (λ k. by_name p us k ms) (sym (add-one r));
            };
        array = λ o. absurd (omega (arith, f, z, o));
        flat = λ o u. absurd (o (f ∙ z));
      }

  pub shape : {v : Node} (at : ℕ) → Held t w r v → at ≡ word w r 0 % low_part → e ≡ next_of w r → Shape t w r e (get_or t at 0) v
  shape at (Held.held x s y) f n = shape_at x y (ap (λ i. get_or t i 0) (f ∙ x.first)) n

option_same : (o : Option ℕ) → option_map (λ x. x) o ≡ o
option_same None = refl
option_same (Some x) = refl

-- A walk along its values may go on, and has their records.
pub inside_goes : {t : Bytes} {s u : Walk} {cs : List Child} → s ≡ u → Inside t u.table.now u.at u.end cs → Goes s
inside_goes e i = rw e (record { long = i.long; members = _; siblings = i.siblings })

-- Each member has a record, and its name stands in the text.
pub member_room : {t : Bytes} {w : Words} {r e x : ℕ} {v : Node} (o : Object t w r e v) → In x (places (r + 1) (members o.values)) → Named t w x
member_room o i = (held_room (place_of o.inside.held i).held, (quote_inside o.spelt o.inside.held i).0)

-- What is found among its values is what the token names.
module _ {t : Bytes} {w : Words} {r e : ℕ} {v : Node} (p : ℕ) (us : Units) where
  pub array_step : {i : ℕ} {z : Option ℕ} (a : Array t w r e v) → Index us (Some i) → option_map (λ x. x) z ≡ slice_get (places (r + 1) (elements a.values)) i → Stepped t w p z (child p us r v)
  array_step {i} {z} a j f = rw (← option_same z, f, a.names p us j) (nth_place p i a.values a.inside.held)

  pub array_none : Array t w r e v → Index us None → Stepped t w p None (child p us r v)
  array_none a j = rw (a.none p us j) Stepped.lost

  pub object_step : {z : Option ℕ} (o : Object t w r e v) → option_map (λ x. x) z ≡ find (is_named t w us) (places (r + 1) (members o.values)) → Stepped t w p z (child p us r v)
  object_step {z} o f = rw (← option_same z, f, o.names p us) (find_place p us o.values o.spelt o.inside.held)

-- What a record says of its value and of the next one.
pub ruleset held = (held_room, held_start, held_few, held_onward)
