-- How a container is written: what opens it, each entry and what stands behind it.
use Prim.Native.Char.{code}
use Prim.Native.Nat.{◌+◌, ◌-◌, ◌<◌, ◌≤◌, suc, zero, ℕ}
use Rattle.members.specs.Chains.{walk}
use Rattle.members.specs.Lists.{In}
use Rattle.spell.proofs.Joining.{put_as}
use Rattle.spell.proofs.Putting.{lend, lend_fits, lend_start, put_byte, put_length, rest}
use Rattle.spell.specs.Puts.{Puts}
use Rattle.text.specs.Bytes.{Bytes}
use Rattle.text.specs.Table.{Words}
use Rattle.writer.specs.Containers.{closed, closing, container, each}
use Rattle.writer.specs.Walks.{Going, Ready, entries_of, mark, onward}
use Rattle.writer.specs.Writes.{Entry}
use borrow.Author.Tests.{ne_eqb}
use lib.ListN.{drop, length, length-append, length-set, set, take}
use mathlib.Core.Bool.{cond}
use mathlib.Core.List.{[], ◌++◌, ◌∷◌, append_assoc, append-nil}
use mathlib.Core.Path.{◌∙◌, ◌≡◌, ap, refl, subst⁻¹, sym}
use native.Mathlib.Omega.{arith}

-- An empty container is two bytes.
pub empty_length : (b : ℕ) → length (container b []) ≡ 2
unfolding container
empty_length b = refl

-- An entry, what stands behind it, and the entries behind that.
closed_step : (f : ℕ → Bytes) (g : ℕ → ℕ) (b i x : ℕ) → closed (closing b) (each f (walk g (suc i) x)) ≡ f x ++ (mark b i ∷ closed (closing b) (each f (walk g i (g x))))
unfolding closed each walk
closed_step f g b zero x = refl
closed_step f g b (suc i) x =
    ap (λ q. f x ++ (cond q (closing b) (code ",") ∷ closed (closing b) (each f (walk g (suc i) (g x))))) (sym (ne_eqb (suc i) 0 (λ e. omega arith)))

-- An empty container.
pub ready_empty : {t : Bytes} {w : Words} {d b h : ℕ} {c : Bytes} (n : ℕ) → n ≡ 0 → Ready t w d b n h c → container b [] ≡ c
unfolding container each walk
ready_empty zero e r = r.whole
ready_empty (suc n) e r = absurd (omega arith)

-- A container with entries begins with what opens it.
ready_split : {t : Bytes} {w : Words} {d b h : ℕ} {c : Bytes} (n : ℕ) → 0 < n → (r : Ready t w d b n h c) → c ≡ (b ∷ []) ++ closed (closing b) (each r.texts.text (entries_of w b n h))
unfolding container each walk
ready_split zero l r = absurd (omega arith)
ready_split (suc n) l r = sym r.whole

-- The output where the loop begins has that byte already.
pub going_start : {t : Bytes} {w : Words} {d b n h : ℕ} {c : Bytes} (o : Bytes) → 0 < n → 0 < length o → Ready t w d b n h c → Going t w d b n h (set o 0 b) 1 (set o 0 b) c
going_start {b = b} {n} [] l m r = absurd (omega arith)
going_start {b = b} {n} (x ∷ o) l m r = record { texts = r.texts; done = b ∷ []; split = ready_split n l r; count = refl; now = refl }

pub ready_long : {t : Bytes} {w : Words} {d b n h : ℕ} {c : Bytes} (o : Bytes) → 0 < n → Ready t w d b n h c → length c ≤ length o → 0 < length o
ready_long {n = n} o l r m = omega (arith, ap length (ready_split n l r))

-- A container's first byte may stand in the output before the rest is written.
first_puts : {b n : ℕ} {c r o' : Bytes} (o : Bytes) → c ≡ (b ∷ []) ++ r → Puts c (set o 0 b) n o' → Puts c o n o'
first_puts {b} {n} {c} {r} {o'} o e p = record { count = p.count; now = p.now ∙ ap (λ l. c ++ l) (by o ∙ sym (ap (λ c. drop (length c) o) e)) }
  where
    by : (o : Bytes) → drop (length c) (set o 0 b) ≡ drop (suc (length r)) o
    by [] = ap (λ c. drop (length c) (set [] 0 b)) e
    by (x ∷ o) = ap (λ c. drop (length c) (b ∷ o)) e

module _ {t : Bytes} {w : Words} {d b i x at : ℕ} {o o' c : Bytes} (g : Going t w d b i x o at o' c) where
  -- What is written so far.
  going_puts : Puts g.done o at o'
  going_puts = record { count = g.count; now = g.now }

  abbrev pub entry : Bytes
  entry = g.texts.text x

  -- All is written.
  pub going_end : i ≡ 0 → Puts c o at o'
  unfolding closed each walk
  going_end e = put_as (sym whole) going_puts
    where
      none : (i : ℕ) → i ≡ 0 → (f : ℕ → Bytes) → closed (closing b) (each f (entries_of w b i x)) ≡ []
      none zero e f = refl
      none (suc i) e f = absurd (omega arith)

      whole : c ≡ g.done
      whole = g.split ∙ ap (λ l. g.done ++ l) (none i e g.texts.text) ∙ append-nil g.done

  module _ (l : 0 < i) where
    one_more : i ≡ suc (i - 1)
    one_more = omega arith

    -- What is left begins with the next entry and what stands behind it.
    abbrev behind : Bytes
    behind = mark b (i - 1) ∷ closed (closing b) (each g.texts.text (entries_of w b (i - 1) (onward w b x)))

    split_next : c ≡ (g.done ++ entry) ++ behind
    split_next =
        g.split ∙ ap (λ i. g.done ++ closed (closing b) (each g.texts.text (entries_of w b i x))) one_more
        ∙ ap (λ l. g.done ++ l) (closed_step g.texts.text (onward w b) b (i - 1) x) ∙ sym (append_assoc g.done entry behind)

    pub next_entry : {u : Words} → u ≡ w → Entry t u x d entry
    unfolding walk
    next_entry e = subst⁻¹ (λ u. Entry t u x d entry) e (g.texts.entries x (subst⁻¹ (λ i. In x (entries_of w b i x)) one_more In.here))

    -- It fits, where the whole does.
    module _ (m : length c ≤ length o) where
      pub next_long : at + length entry < length o
      next_long = omega (arith, ap length split_next, length-append (g.done ++ entry) behind, length-append g.done entry, g.count)

      pub next_fits : length entry ≤ length (rest at o')
      next_fits = lend_fits going_puts (omega (arith, next_long, g.count)) entry (omega (arith, next_long, length-append g.done entry, g.count))

      pub next_start : at ≤ length o'
      next_start = lend_start going_puts (omega (arith, next_long, g.count))

    -- What is left behind it.
    module _ {y : ℕ} {ys : Bytes} (p : Puts entry (rest at o') y ys) (m : at + y < length o) where
      abbrev pub wrote : Bytes
      wrote = take at o' ++ (ys ++ drop (length o' - at) (drop at o'))

      both : Puts (g.done ++ entry) o (at + y) wrote
      both = lend going_puts (omega (arith, g.count)) p

      long : length (g.done ++ entry) < length o
      long = omega (arith, both.count)

      pub wrote_room : at + y < length wrote
      wrote_room = omega (arith, put_length both (omega (arith, long)))

      pub going_turn : {u : Words} {k z : ℕ} → u ≡ w → k ≡ mark b (i - 1) → z ≡ onward u b x → Going t w d b (i - 1) z o (at + y + 1) (set wrote (at + y) k) c
      unfolding walk
      going_turn {u} {k} {z} e f h =
          subst⁻¹ (λ z. Going t w d b (i - 1) z o (at + y + 1) (set wrote (at + y) k) c) (h ∙ ap (λ u. onward u b x) e)
          (subst⁻¹ (λ k. Going t w d b (i - 1) (onward w b x) o (at + y + 1) (set wrote (at + y) k) c) f turn)
        where
          turn : Going t w d b (i - 1) (onward w b x) o (at + y + 1) (set wrote (at + y) (mark b (i - 1))) c
          turn =
              let q = put_byte both (omega (arith, long)) (mark b (i - 1)) long in
              record {
                texts = record { text = g.texts.text; entries = λ a j. g.texts.entries a (subst⁻¹ (λ i. In a (entries_of w b i x)) one_more (In.there j)) };
                done = (g.done ++ entry) ++ (mark b (i - 1) ∷ []);
                split = split_next ∙ sym (append_assoc (g.done ++ entry) (mark b (i - 1) ∷ []) (closed (closing b) (each g.texts.text (entries_of w b (i - 1) (onward w b x)))));
                count = q.count;
                now = q.now;
              }

-- An entry that is written leaves room for what stands behind it.
pub added : {t : Bytes} {w : Words} {d b i x at y : ℕ} {o' ys c : Bytes} (o : Bytes) (g : Going t w d b i x (set o 0 b) at o' c) → 0 < i → length c ≤ length o → Puts (entry g) (rest at o') y ys → at + y < length o
added {b = b} o g l m p = omega (arith, next_long g l (omega (arith, length-set o 0 b)), p.count, length-set o 0 b)

-- The whole container.
pub ready_puts : {t : Bytes} {w : Words} {d b n h i x at : ℕ} {o' c : Bytes} (o : Bytes) → 0 < n → Ready t w d b n h c → Going t w d b i x (set o 0 b) at o' c → i ≡ 0 → Puts c o at o'
ready_puts {n = n} o l r g e = first_puts o (ready_split n l r) (going_end g e)
