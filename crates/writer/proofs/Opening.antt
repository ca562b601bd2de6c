-- What stands at a record: a value without values inside it, or a container and its entries.
use Prim.Native.Char.{code}
use Prim.Native.Nat.{◌%◌, ◌*◌, ◌+◌, ◌<◌, ◌≤◌, suc, ℕ}
use Rattle.meaning.proofs.Keeps.{Keeps}
use Rattle.meaning.proofs.Sorting.{canon}
use Rattle.meaning.specs.Canonical.{put}
use Rattle.meaning.specs.Meaning.{Tree, pairs, tree, trees}
use Rattle.members.specs.Links.{low_part}
use Rattle.members.specs.Records.{Room, max_records, next_of, word}
use Rattle.reader.specs.Tokens.{opens_container}
use Rattle.spell.specs.Scalars.{Scalar}
use Rattle.text.proofs.Offsets.{end, start}
use Rattle.text.specs.Bytes.{Bytes}
use Rattle.text.specs.Node.{Members, Nodes}
use Rattle.text.specs.Table.{Words, size}
use Rattle.values.proofs.Kin.{elements_size, members_size}
use Rattle.values.proofs.Records.{held_few, held_onward, held_room, held_start}
use Rattle.values.specs.Children.{elements, members, sizes}
use Rattle.values.specs.Held.{Held, HeldAll, Holds, Spelt}
use Rattle.writer.proofs.Owning.{leaf, not_scalar}
use Rattle.writer.specs.Entering.{Opened}
use Rattle.writer.specs.Writes.{Writes}
use lib.ListN.{get_or, length}
use mathlib.Core.Bool.{false}
use mathlib.Core.List.{[]}
use mathlib.Core.Path.{◌∙◌, ◌≡◌, ap, refl, sym}
use native.Mathlib.Omega.{arith}

module _ {t : Bytes} {w : Words} {r d : ℕ} {c : Bytes} where
  -- The table has its record.
  pub writes_room : Writes t w r d c → Room w r × (r < max_records)
  unfolding next_of
  writes_room (Writes.writes h k e) = (held_room h, omega (arith, held_few h, held_onward h))

  pub writes_inside : Writes t w r d c → word w r 0 % low_part < length t
  writes_inside (Writes.writes h k e) = held_start h

-- A value that doesn't open.
pub record Alone (t : Bytes) (w : Words) (r : ℕ) (c : Bytes) : Type 0 where
  pub value : Tree
  pub scalar : Scalar t (word w r 0 % low_part) (word w r 1 % low_part) value
  pub text : put value [] ≡ c

-- A container.
pub data Inside (t : Bytes) (w : Words) (r d b : ℕ) (c : Bytes) : Type 0 where
  array : (vs : Nodes) → b ≡ code "[" → HeldAll t w (suc r) (elements vs) → Keeps d (Tree.array (trees vs)) → put (canon (Tree.array (trees vs))) [] ≡ c
      → word w r 3 ≡ suc r + sizes (elements vs) → 4 * word w r 3 ≤ length w → word w r 3 ≤ max_records → Inside t w r d b c
  object : (ms : Members) → b ≡ code "{" → Spelt t 0 ms → HeldAll t w (suc r) (members ms) → Keeps d (Tree.object (pairs ms)) → put (canon (Tree.object (pairs ms))) [] ≡ c
      → word w r 3 ≡ suc r + sizes (members ms) → 4 * word w r 3 ≤ length w → word w r 3 ≤ max_records → Inside t w r d b c

module _ (t : Bytes) (w : Words) (r : ℕ) where
  -- A value without values inside it doesn't open.
  shut : {p q b : ℕ} {v : Tree} → word w r 0 % low_part ≡ p → Scalar t p q v → Opened t w r b → ⊥
  shut e z o = not_scalar z (ap (λ i. opens_container (get_or t i 0)) (sym e) ∙ ap opens_container o.byte ∙ o.kind)

  -- What opens a container is its first byte.
  first_byte : {p b k : ℕ} → word w r 0 % low_part ≡ p → get_or t p 0 ≡ k → Opened t w r b → b ≡ k
  first_byte e z o = sym o.byte ∙ ap (λ i. get_or t i 0) e ∙ z

module _ {t : Bytes} {w : Words} {r d : ℕ} {c : Bytes} where
  pub opened : {b : ℕ} → Writes t w r d c → Opened t w r b → Inside t w r d b c
  unfolding tree size start end
  opened (Writes.writes (Held.held x s (Holds.literal z)) k e) o = absurd (shut t w r x.first z o)
  opened (Writes.writes (Held.held x s (Holds.string z)) k e) o = absurd (shut t w r x.first z o)
  opened (Writes.writes (Held.held x s (Holds.number z)) k e) o = absurd (shut t w r x.first z o)
  opened (Writes.writes (Held.held x s (Holds.array {vs = vs} z y)) k e) o =
      Inside.array vs (first_byte t w r x.first z o) y k e (x.next ∙ omega (arith, elements_size vs)) (omega (arith, x.long, x.next)) (omega (arith, x.few, x.next))
  opened (Writes.writes (Held.held x s (Holds.object {ms = ms} z n y)) k e) o =
      Inside.object ms (first_byte t w r x.first z o) n y k e (x.next ∙ omega (arith, members_size ms)) (omega (arith, x.long, x.next)) (omega (arith, x.few, x.next))

  pub alone : Writes t w r d c → opens_container (get_or t (word w r 0 % low_part) 0) ≡ false → Alone t w r c
  alone (Writes.writes {v = v} h k e) o = let l = leaf h refl refl o in record { value = tree v; scalar = l.scalar; text = ap (λ z. put z []) (sym l.sorted) ∙ e }
