-- The walk over two chains: what stands at the head of its loop, what a turn adds to that, and what it comes to.
use Prim.Native.Nat.{◌+◌, ◌-◌, ◌<◌, ◌≤◌, ℕ}
use Rattle.meaning.proofs.SideBySide.{Side}
use Rattle.meaning.specs.Meaning.{Pairs}
use Rattle.members.specs.Names.{Named, name_of}
use Rattle.members.specs.Records.{Room}
use Rattle.members.specs.declared.chain.Chain.{Chain}
use Rattle.patch.proofs.Emitting.{emit_as, emit_both, emit_none, fits_first, rest_fits, rest_start}
use Rattle.patch.proofs.Going.{Next, left_end, next, onward_if}
use Rattle.patch.specs.Emits.{Emits, Fits, end_at, mark_at, most_bytes, rest_at}
use Rattle.patch.specs.Side.{on_side, on_sides}
use Rattle.patch.specs.Stands.{Chained}
use Rattle.patch.specs.declared.side.Side as side
use Rattle.patch.specs.Turns.{Takes, turn_of}
use Rattle.patch.specs.Walks.{Going, Sides, left}
use Rattle.spell.proofs.Putting.{rest}
use Rattle.std.specs.Ordering.{is_ge, is_le, ordering_index}
use Rattle.std.specs.declared.cmp.Ordering.{Ordering}
use Rattle.text.specs.Bytes.{Bytes}
use Rattle.text.specs.Table.{Words}
use lib.ListN.{drop, length, take}
use mathlib.Core.Bool.{Bool, true}
use mathlib.Core.List.{[], ◌++◌, append_assoc}
use mathlib.Core.Path.{◌∙◌, ◌≡◌, ap, ap₂, refl, subst, subst⁻¹, sym}
use native.Mathlib.Omega.{arith}

-- The name of a chain's first member stands in the text.
first_named : {s s' : side.Side} {d i x : ℕ} {ps : Pairs} → s' ≡ s → on_side Chained s d i x ps → 0 < i → on_side Named s' x
first_named e Chained.none l = absurd (omega arith)
first_named {x = x} e (Chained.more n s c) l = subst⁻¹ (λ s. on_side Named s x) e n

-- Chains without members give none.
empty_sides : {t p : Bytes} {w u : Words} {d i j x y : ℕ} {ps qs rs : Pairs} → Chained t w d i x ps → Chained p u d j y qs → Side ps qs rs → i + j ≡ 0 → rs ≡ Pairs.empty
empty_sides Chained.none Chained.none Side.end e = refl
empty_sides (Chained.more _ _ _) q s e = absurd (omega arith)
empty_sides Chained.none (Chained.more _ _ _) s e = absurd (omega arith)

module _ {t p : Bytes} {w u : Words} {d : ℕ} {a b : Chain} {at : ℕ} {on : Bool} {o o' c : Bytes} (g : Going t p w u d a b on o at o' c) where
  -- What is done fits where all does.
  at_room : Fits on c o → on ≡ true → at ≤ length o
  at_room f e = omega (arith, (fits_first g.done (left g.done g.merged) (subst (λ c. Fits on c o) g.whole f)).room e, g.emitted.count)

  module _ (room : on ≡ true → at ≤ length o) {k : ℕ} (r : k ≡ rest_at on at) where
    done_room : on ≡ true → length g.done ≤ length o
    done_room e = omega (arith, room e, g.emitted.count)

    -- A turn.
    module _ {z : Ordering} {m : ℕ} (n : Next t p w u d a b z m g.done g.merged) where
      split : c ≡ (g.done ++ n.entry) ++ left (g.done ++ n.entry) n.merged
      split = g.whole ∙ ap (λ l. g.done ++ l) n.text ∙ sym (append_assoc g.done n.entry (left (g.done ++ n.entry) n.merged))

      both_fit : Fits on c o → Fits on (g.done ++ n.entry) o
      both_fit f = fits_first (g.done ++ n.entry) (left (g.done ++ n.entry) n.merged) (subst (λ c. Fits on c o) split f)

      going_turn : {l : ℕ} {a' b' : Chain} {ys : Bytes} → Emits on n.entry (rest k o') l ys
          → a' ≡ onward_if (is_le z) w a → b' ≡ onward_if (is_ge z) u b
          → Going t p w u d a' b' on o (at + l) (take k o' ++ (ys ++ drop (length o' - k) (drop k o'))) c
      going_turn q e f =
          record {
            olds = n.olds;
            news = n.news;
            merged = n.merged;
            target = subst⁻¹ (λ a. Chained t w d a.count a.head n.olds) e n.target;
            patch = subst⁻¹ (λ b. Chained p u d b.count b.head n.news) f n.patch;
            side = n.side;
            done = g.done ++ n.entry;
            whole = split;
            emitted = emit_both g.emitted done_room r q;
          }

    -- The end.
    module _ (l : a.count + b.count ≡ 0) where
      ended : c ≡ g.done ++ end_at at
      ended =
          g.whole ∙ ap (λ l. g.done ++ l) (ap (left g.done) (empty_sides g.target g.patch g.side l) ∙ left_end g.done ∙ ap end_at (sym g.emitted.count))

      going_end : {n : ℕ} {ys : Bytes} → Emits on (end_at at) (rest k o') n ys → Emits on c o (at + n) (take k o' ++ (ys ++ drop (length o' - k) (drop k o')))
      going_end q = emit_as (sym ended) (emit_both g.emitted done_room r q)

-- Of the chains `a` and `b` the chains `a'` and `b'` are to come, and the sides are as they were.
pub record Walked (t p t' p' : side.Side) (d : ℕ) (a b a' b' : Chain) (on : Bool) (o : Bytes) (at : ℕ) (o' : Bytes) : Type 0 where
  pub olds : t' ≡ t
  pub news : p' ≡ p
  pub going : (c : Bytes) → on_sides Sides t p d a b c → on_sides Going t p d a' b' on o at o' c

-- Where the walk begins, nothing is done.
pub walk_start : (t p : side.Side) (d : ℕ) (a b : Chain) (on : Bool) (o : Bytes) → Walked t p t p d a b a b on o 0 o
unfolding left
walk_start t p d a b on o =
    record { olds = refl; news = refl; going = begins }
  where
    begins : (c : Bytes) → on_sides Sides t p d a b c → on_sides Going t p d a b on o 0 o c
    begins _ (Sides.sides {ps = ps} {qs = qs} {rs = rs} a b s e) =
        record { olds = ps; news = qs; merged = rs; target = a; patch = b; side = s; done = []; whole = sym e; emitted = emit_none on o }

module _ {t p t' p' : side.Side} {d : ℕ} {a b a' b' : Chain} {on : Bool} {o : Bytes} {at : ℕ} {o' : Bytes} (v : Walked t p t' p' d a b a' b' on o at o')
    (x : (c : Bytes) × on_sides Sides t p d a b c × Fits on c o) where
  going : on_sides Going t p d a' b' on o at o' x.0
  going = v.going x.0 x.1

  room : on ≡ true → at ≤ length o
  room = at_room going x.2

  -- By views of both sides, with the texts `t₁` and `p₁`.
  pub turn_asks : {t₁ p₁ : Bytes} {w₁ u₁ : Words} → (t₁ ≡ t'.text.now) × (w₁ ≡ t'.table.now) → (p₁ ≡ p'.text.now) × (u₁ ≡ p'.table.now)
      → (0 < a'.count → Named t₁ w₁ a'.head) × (0 < b'.count → Named p₁ u₁ b'.head)
  turn_asks e f = (λ l. rw (e.0, e.1) (first_named v.olds going.target l), λ l. rw (f.0, f.1) (first_named v.news going.patch l))

  module _ {k : ℕ} (r : k ≡ rest_at on at) where
    pub rest_inside : k ≤ length o'
    rest_inside = rest_start going.emitted (done_room going room r) r

    -- A turn.
    module _ (z : Ordering) {t₁ p₁ : Bytes} {w₁ u₁ : Words} (e : (t₁ ≡ t'.text.now) × (w₁ ≡ t'.table.now)) (f : (p₁ ≡ p'.text.now) × (u₁ ≡ p'.table.now)) {m : ℕ}
        (l : 0 < a'.count + b'.count) (h : ordering_index z ≡ turn_of a'.count b'.count (name_of t₁ w₁ a'.head) (name_of p₁ u₁ b'.head)) (i : m ≡ mark_at at) where
      told : ordering_index z ≡ turn_of a'.count b'.count (on_side name_of t' a'.head) (on_side name_of p' b'.head)
      told = rw (e.0, e.1, f.0, f.1) at h

      turn : {c : Bytes} (g : on_sides Going t p d a' b' on o at o' c) → on_sides Next t p d a' b' z m g.done g.merged
      turn g =
          next (i ∙ ap mark_at g.emitted.count) g.target g.patch g.side l z
          (told ∙ ap₂ (λ t p. turn_of a'.count b'.count (on_side name_of t a'.head) (on_side name_of p b'.head)) v.olds v.news)

      -- The same in the sides as they are.
      takes : {c : Bytes} (g : on_sides Going t p d a' b' on o at o' c) → on_sides Takes t' p' d a'.head b'.head z m (turn g).entry
      takes g =
          subst⁻¹ (λ t. on_sides Takes t p' d a'.head b'.head z m (turn g).entry) v.olds
          (subst⁻¹ (λ p. on_sides Takes t p d a'.head b'.head z m (turn g).entry) v.news (turn g).takes)

      pub member_asks : (e : Bytes) × on_sides Takes t' p' d a'.head b'.head z m e × Fits on e (rest k o')
      member_asks = ((turn going).entry, takes going, rest_fits going.emitted (done_room going room r) r (turn going).entry (both_fit going room r (turn going) x.2))

      pub old_asks : {t'' : side.Side} {w' : Words} → w' ≡ t''.table.now → t'' ≡ t' → is_le z ≡ true → Room w' a'.head × (0 < a'.count)
      old_asks s e f = let n = (turn going).old_left f in (rw s (first_named (e ∙ v.olds) going.target n).0, n)

      pub new_asks : {p'' : side.Side} {u' : Words} → u' ≡ p''.table.now → p'' ≡ p' → is_ge z ≡ true → Room u' b'.head × (0 < b'.count)
      new_asks s e f = let n = (turn going).new_left f in (rw s (first_named (e ∙ v.news) going.patch n).0, n)

      module _ {n : ℕ} {ys : Bytes} (q : (e : Bytes) → on_sides Takes t' p' d a'.head b'.head z m e → Emits on e (rest k o') n ys) where
        pub turn_few : at + n ≤ most_bytes
        turn_few =
            omega (arith, (both_fit going room r (turn going) x.2).few, (emit_both going.emitted (done_room going room r) r (q (turn going).entry (takes going))).count)

        pub walked : {t'' p'' : side.Side} {a'' b'' : Chain} → (t'' ≡ t') × (p'' ≡ p') → a'' ≡ onward_if (is_le z) t.table.now a' → b'' ≡ onward_if (is_ge z) p.table.now b'
            → Walked t p t'' p'' d a b a'' b'' on o (at + n) (take k o' ++ (ys ++ drop (length o' - k) (drop k o')))
        walked s e f =
            record {
              olds = s.0 ∙ v.olds;
              news = s.1 ∙ v.news;
              going = λ c s. let g = v.going c s in going_turn g room r (turn g) (q (turn g).entry (takes g)) e f;
            }

    -- The end.
    module _ (l : a'.count + b'.count ≡ 0) where
      pub end_asks : Fits on (end_at at) (rest k o')
      end_asks = rest_fits going.emitted (done_room going room r) r (end_at at) (subst (λ c. Fits on c o) (ended going room r l) x.2)

      module _ {n : ℕ} {ys : Bytes} (q : Emits on (end_at at) (rest k o') n ys) where
        pub walk_gives : (c : Bytes) → on_sides Sides t p d a b c → Emits on c o (at + n) (take k o' ++ (ys ++ drop (length o' - k) (drop k o')))
        walk_gives c s = going_end (v.going c s) room r l q

        pub walk_few : at + n ≤ most_bytes
        walk_few = omega (arith, x.2.few, (walk_gives x.0 x.1).count)
