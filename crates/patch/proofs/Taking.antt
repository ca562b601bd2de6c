-- What the merge of a member asks and gives, turn by turn.
use Prim.Native.Nat.{◌+◌, ◌-◌, ◌≤◌, ℕ}
use Rattle.entries.specs.Answer.{max_text}
use Rattle.meaning.specs.Canonical.{put}
use Rattle.meaning.specs.Meaning.{Tree}
use Rattle.meaning.specs.Merge.{is_null}
use Rattle.members.specs.Names.{Named, name_of}
use Rattle.patch.proofs.Emitting.{both_emit, emit_as, emit_none, first_fits, second_fits}
use Rattle.patch.proofs.Seeing.{keyed, shown, told}
use Rattle.patch.proofs.Standing.{stands_short}
use Rattle.patch.specs.Emits.{Emits, Fits, most_bytes, rest_at}
use Rattle.patch.specs.Stands.{Stands}
use Rattle.patch.specs.Turns.{Takes, key, old_of}
use Rattle.patch.specs.Walks.{Merges}
use Rattle.std.specs.Ordering.{is_lt}
use Rattle.std.specs.Prelude.{Option}
use Rattle.std.specs.declared.cmp.Ordering.{Ordering}
use Rattle.spell.proofs.Putting.{rest}
use Rattle.text.specs.Bytes.{Bytes}
use Rattle.text.specs.Table.{Words}
use lib.ListN.{drop, length, take}
use mathlib.Core.Bool.{Bool, false, true, true≢false}
use mathlib.Core.List.{[], ◌++◌}
use mathlib.Core.Path.{◌∙◌, ◌≡◌, refl, subst⁻¹, sym}
use native.Mathlib.Omega.{arith}

-- A member that the patch sets: its value's merge behind its name.
record Sets (t p : Bytes) (w u : Words) (d x y : ℕ) (z : Ordering) (m : ℕ) (e : Bytes) : Type 0 where
  pub text : Bytes
  pub merges : Merges t p w u d (old_of z x) y text
  pub whole : key m (name_of p u y) ++ text ≡ e
  pub short : length p ≤ max_text
  pub named : Named p u y

module _ {t p : Bytes} {w u : Words} {d x y m : ℕ} {z : Ordering} where
  sets : {b : Bool} {e : Bytes} → is_lt z ≡ false → ((c : ℕ) (v : Tree) → Stands p u y c v → b ≡ is_null v) → b ≡ false → Takes t p w u d x y z m e → Sets t p w u d x y z m e
  sets n g f (Takes.keep i _ s e) = absurd (true≢false (sym i ∙ n))
  sets n g f (Takes.skip {v = v} _ s z e) = absurd (true≢false (sym z ∙ sym (g d v s) ∙ f))
  sets n g f (Takes.set {r = r} _ a i s z k e) = record { text = put r []; merges = Merges.merges i s k refl; whole = e; short = stands_short s; named = a }

  merges_old : {r : Option ℕ} {e : Bytes} → r ≡ old_of z x → (s : Sets t p w u d x y z m e) → Merges t p w u d r y s.text
  merges_old j s = subst⁻¹ (λ r. Merges t p w u d r y s.text) j s.merges

module _ {t p : Bytes} {w u : Words} {d x y m : ℕ} {z : Ordering} {on : Bool} {o : Bytes} where
  -- The target's member stays.
  pub keep_asks : is_lt z ≡ true → (e : Bytes) × Takes t p w u d x y z m e × Fits on e o
      → (length t ≤ max_text) × Named t w x × ((v : Tree) × Stands t w x d v × Fits on (key m (name_of t w x) ++ put v []) o)
  keep_asks i (_, Takes.keep {v = v} _ n s f, g) = (stands_short s, n, (v, s, subst⁻¹ (λ e. Fits on e o) f g))
  keep_asks i (_, Takes.skip n s z e, g) = absurd (true≢false (sym i ∙ n))
  keep_asks i (_, Takes.set n a o s z r e, g) = absurd (true≢false (sym i ∙ n))

  pub keep_gives : {k : ℕ} {o' : Bytes} → is_lt z ≡ true → ((v : Tree) → Stands t w x d v → Emits on (key m (name_of t w x) ++ put v []) o k o')
      → (e : Bytes) → Takes t p w u d x y z m e → Emits on e o k o'
  keep_gives i g _ (Takes.keep {v = v} _ n s f) = emit_as f (g v s)
  keep_gives i g _ (Takes.skip n s z e) = absurd (true≢false (sym i ∙ n))
  keep_gives i g _ (Takes.set n a o s z r e) = absurd (true≢false (sym i ∙ n))

  -- By a view of the patch, with the text `p'` and the words `u'`.
  module _ (n : is_lt z ≡ false) {p' : Bytes} {u' : Words} (seen : (p' ≡ p) × (u' ≡ u)) where
    -- The patch's member has a value.
    pub patch_stands : (e : Bytes) × Takes t p w u d x y z m e × Fits on e o → (c : ℕ) × (v : Tree) × Stands p' u' y c v
    patch_stands (_, Takes.keep i _ s e, f) = absurd (true≢false (sym i ∙ n))
    patch_stands (_, Takes.skip {v = v} _ s z e, f) = (d, v, shown seen s)
    patch_stands (_, Takes.set {v = v} _ a o s z r e, f) = (d, v, shown seen s)

    module _ {b : Bool} (g : (c : ℕ) (v : Tree) → Stands p' u' y c v → b ≡ is_null v) where
      -- A null of the patch writes nothing.
      pub null_gives : b ≡ true → (e : Bytes) → Takes t p w u d x y z m e → Emits on e o 0 o
      null_gives f _ (Takes.keep i _ s e) = absurd (true≢false (sym i ∙ n))
      null_gives f _ (Takes.skip _ s z e) = emit_as e (emit_none on o)
      null_gives f _ (Takes.set {v = v} _ a i s z r e) = absurd (true≢false (sym f ∙ told seen g d v s ∙ z))

      -- Anything else is merged, behind its name.
      module _ (f : b ≡ false) (a : (e : Bytes) × Takes t p w u d x y z m e × Fits on e o) where
        parts : Sets t p w u d x y z m a.0
        parts = sets n (told seen g) f a.1

        parts_fit : Fits on (key m (name_of p u y) ++ parts.text) o
        parts_fit = subst⁻¹ (λ e. Fits on e o) parts.whole a.2

        pub name_asks : (length p' ≤ max_text) × Named p' u' y × Fits on (key m (name_of p' u' y)) o
        name_asks = rw (seen.0, seen.1) (parts.short, parts.named, first_fits _ _ parts_fit)

        -- The value behind the name that was written, merged with record `r` of the target.
        module _ {o₁ : Bytes} {l k : ℕ} {r : Option ℕ} (q : Emits on (key m (name_of p' u' y)) o l o₁) (i : k ≡ rest_at on l) (j : r ≡ old_of z x) where
          pub value_asks : (c : Bytes) × Merges t p w u d r y c × Fits on c (rest k o₁)
          value_asks = (parts.text, merges_old j parts, second_fits _ _ parts_fit (keyed seen y q) i)

          module _ {v : ℕ} {ys : Bytes} (h : (c : Bytes) → Merges t p w u d r y c → Emits on c (rest k o₁) v ys) where
            pub value_gives : (e : Bytes) → Takes t p w u d x y z m e → Emits on e o (l + v) (take k o₁ ++ (ys ++ drop (length o₁ - k) (drop k o₁)))
            value_gives _ x = let s = sets n (told seen g) f x in emit_as s.whole (both_emit _ _ parts_fit (keyed seen y q) i (h s.text (merges_old j s)))

            pub value_few : l + v ≤ most_bytes
            value_few = omega (arith, a.2.few, (value_gives a.0 a.1).count)
