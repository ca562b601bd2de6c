-- What the writing of an entry and of a value asks and gives.
use Prim.Native.Nat.{◌%◌, ◌+◌, ◌-◌, ◌<◌, ◌≤◌, ℕ}
use Rattle.meaning.proofs.Keeps.{Keeps}
use Rattle.meaning.specs.Canonical.{put}
use Rattle.meaning.specs.Meaning.{Tree}
use Rattle.members.specs.Chains.{siblings_of}
use Rattle.members.specs.Links.{low_part}
use Rattle.members.specs.Lists.{In}
use Rattle.members.specs.Records.{Room, word}
use Rattle.reader.specs.Tokens.{opens_container}
use Rattle.reader.proofs.Tokens.{opens_low}
use Rattle.spell.proofs.Joining.{put_as}
use Rattle.spell.proofs.Putting.{lend, lend_fits, rest}
use Rattle.spell.specs.Puts.{Puts}
use Rattle.spell.specs.Scalars.{Scalar}
use Rattle.text.specs.Bytes.{Bytes}
use Rattle.text.specs.Ceilings.{max_depth}
use Rattle.text.specs.Table.{Words}
use Rattle.writer.proofs.Opening.{Alone, Inside, alone, opened, writes_inside, writes_room}
use Rattle.writer.specs.Entering.{Cleared, Kept, Opened, opens_object}
use Rattle.writer.specs.Writes.{Entry, Writes, named}
use lib.ListN.{drop, get_or, length, length-append, take}
use mathlib.Core.Bool.{Bool, false, true}
use mathlib.Core.List.{[], ◌++◌}
use mathlib.Core.Path.{◌∙◌, ◌≡◌, ap, subst, subst⁻¹, sym}
use native.Mathlib.Omega.{arith}

-- An entry: its name, and behind it its value.
module _ {t : Bytes} {w : Words} {x d : ℕ} {e : Bytes} where
  pub entry_room : Entry t w x d e → Room w x
  entry_room (Entry.entry n y f) = (writes_room y).0

  pub name_fits : (o : Bytes) → Entry t w x d e → length e ≤ length o → length (named t (word w x 2)) ≤ length o
  name_fits o (Entry.entry {c} n y f) l = omega (arith, l, ap length f, length-append (named t (word w x 2)) c)

  module _ {o o₁ : Bytes} {n : ℕ} (p : Puts (named t (word w x 2)) o n o₁) (m : length (named t (word w x 2)) ≤ length o) where
    pub value_fits : Entry t w x d e → length e ≤ length o → (c : Bytes) × Writes t w x d c × (length c ≤ length (rest n o₁))
    value_fits (Entry.entry {c} z y f) l = (c, y, lend_fits p m c (omega (arith, l, ap length f)))

    pub entry_puts : {k : ℕ} {ys : Bytes} → ((c : Bytes) → Writes t w x d c → Puts c (rest n o₁) k ys) → Entry t w x d e
        → Puts e o (n + k) (take n o₁ ++ (ys ++ drop (length o₁ - n) (drop n o₁)))
    entry_puts q (Entry.entry {c} z y f) = put_as f (lend p m (q c y))

-- A value without values inside it.
module _ {t : Bytes} {w : Words} {r d : ℕ} {c : Bytes} (y : Writes t w r d c) {p q : ℕ} (a : p ≡ word w r 0 % low_part) (b : q ≡ word w r 1 % low_part) {z : Bool} (n : z ≡ false) (e : z ≡ opens_container (get_or t p 0)) where
  single : Alone t w r c
  single = alone y (sym (ap (λ p. opens_container (get_or t p 0)) a) ∙ sym e ∙ n)

  scalar : Scalar t p q single.value
  scalar = subst⁻¹ (λ p. Scalar t p q single.value) a (subst⁻¹ (λ q. Scalar t (word w r 0 % low_part) q single.value) b single.scalar)

  pub scalar_fits : (o : Bytes) → length c ≤ length o → (p < length t) × ((v : Tree) × Scalar t p q v × (length (put v []) ≤ length o))
  scalar_fits o l = (omega (arith, a, writes_inside y), (single.value, scalar, omega (arith, l, ap length single.text)))

  pub scalar_puts : {o o' : Bytes} {k : ℕ} → ((v : Tree) → Scalar t p q v → Puts (put v []) o k o') → Puts c o k o'
  scalar_puts f = put_as single.text (f single.value scalar)

-- A container.
pub opened_at : {t : Bytes} {w : Words} {r p : ℕ} {z : Bool} → p ≡ word w r 0 % low_part → z ≡ true → z ≡ opens_container (get_or t p 0) → Opened t w r (get_or t p 0)
opened_at {t} {p = p} {z} a n e = record { byte = ap (λ p. get_or t p 0) (sym a); kind = sym e ∙ n }

pub opened_small : {t : Bytes} {w : Words} {r b : ℕ} → Opened t w r b → b + 2 < 256
opened_small {b = b} o = omega (arith, opens_low b o.kind)

pub opened_depth : {t : Bytes} {w : Words} {r d b : ℕ} {c : Bytes} → Writes t w r d c → Opened t w r b → d < max_depth
opened_depth {t} {w} {r} {d} {b} {c} y o = by (opened y o)
  where
    by : Inside t w r d b c → d < max_depth
    by (Inside.array vs _ _ (Keeps.array l k) _ _ _ _) = l
    by (Inside.object ms _ _ _ (Keeps.object l k) _ _ _ _) = l

-- Leaving it, where its entries left the table alone.
module _ {w u u' : Words} {b n first : ℕ} (k : Kept w u b n first) (e : u' ≡ u) where
  pub leaving : (v : ℕ) → In v (siblings_of u' n first) → Room u' v
  leaving = subst⁻¹ (λ u. (v : ℕ) → In v (siblings_of u n first) → Room u v) e k.room

  pub left : {x : Words} → Cleared (opens_object b) (siblings_of u' n first) u' x → x ≡ w
  left {x} c = k.back x (subst (λ u. Cleared (opens_object b) (siblings_of u n first) u x) e c)
