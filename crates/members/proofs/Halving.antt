-- A sort from the sorts of two halves.
use Prim.Native.Nat.{◌+◌, ◌-◌, ◌≤◌, suc, zero, ℕ}
use Rattle.members.proofs.Framing.{frame_more, frame_name, frame_next, frame_refl, frame_seats, frame_trans, frame_walk}
use Rattle.members.proofs.Membership.{in_either, in_left, in_right, same_refl}
use Rattle.members.proofs.Sorting.{sorted_across, sorted_left, sorted_one, sorted_right}
use Rattle.members.proofs.Walks.{after_add, walk_add}
use Rattle.members.specs.Chains.{Free, Linked, after, chain_of, siblings_of, walk}
use Rattle.members.specs.Links.{Frame}
use Rattle.members.specs.Lists.{In, Same}
use Rattle.members.specs.Merging.{Ready, turned}
use Rattle.members.specs.Names.{in_order, name_of}
use Rattle.members.specs.Records.{next_of}
use Rattle.text.specs.Bytes.{Bytes}
use Rattle.text.specs.Table.{Words}
use borrow.Author.Tests.{ltb-true}
use mathlib.Core.Bool.{Bool, not-not, not}
use mathlib.Core.List.{[], ◌++◌, ◌∷◌}
use mathlib.Core.Logic.{⊎_elim}
use mathlib.Core.Path.{◌∙◌, ◌≡◌, ap, sym}
use native.Mathlib.Omega.{arith}

-- One record.
module _ (f : ℕ → ℕ) (first : ℕ) where
  pub one_after : (n : ℕ) → n ≡ 1 → f first ≡ after f n first
  unfolding after
  one_after n e = rw e

  pub one_sorted : (lt : ℕ → ℕ → Bool) (w : Words) (g : ℕ → ℕ) (n : ℕ) → n ≡ 1 → Linked lt w (walk f n first) w (walk g n first)
  unfolding walk
  one_sorted lt w g n e = rw e record { same = same_refl (first ∷ []); sorted = sorted_one first; frame = frame_refl (first ∷ []) w }

  pub some_in : (n : ℕ) → 1 ≤ n → In first (walk f n first)
  unfolding walk
  some_in zero h = absurd (omega arith)
  some_in (suc n) h = In.here

module _ {t : Bytes} {w : Words} (first n m : ℕ) (fits : m ≤ n) (free : Free t w (siblings_of w n first)) where
  middle : ℕ
  middle = after (next_of w) m first

  split : siblings_of w n first ≡ siblings_of w m first ++ siblings_of w (n - m) middle
  unfolding middle
  split =
      let e : n ≡ m + (n - m) = omega arith in
      ap (λ (k : ℕ). siblings_of w k first) e ∙ walk_add (next_of w) m (n - m) first

  parts : Free t w (siblings_of w m first ++ siblings_of w (n - m) middle)
  parts = rw split at free

  pub left_free : Free t w (siblings_of w m first)
  left_free = record { rising = sorted_left _ _ parts.rising; seats = λ v i. parts.seats v (in_left _ i) }

  halves_apart : {v : ℕ} → In v (siblings_of w m first) → In v (siblings_of w (n - m) middle) → ⊥
  halves_apart {v} i j = omega (arith, ltb-true v v (sorted_across _ parts.rising i j))

  -- The first half is sorted.
  module _ {u : Words} (up : Bool) (a r : ℕ) (er : r ≡ after (next_of w) m first) (p : Linked (turned (not up) (in_order t w)) w (siblings_of w m first) u (chain_of u m a)) where
    second : siblings_of u (n - m) r ≡ siblings_of w (n - m) middle
    unfolding middle
    second = rw (er, frame_next p.frame)

    pub right_free : Free t u (siblings_of u (n - m) r)
    right_free =
        rw second record {
          rising = sorted_right (siblings_of w m first) _ parts.rising;
          seats = frame_seats p.frame t _ (λ v i. parts.seats v (in_right (siblings_of w m first) i));
        }

    -- The second half is sorted.
    module _ {v : Words} (b q : ℕ) (eq : q ≡ after (next_of u) (n - m) r) (s : Linked (turned (not up) (in_order t u)) u (siblings_of u (n - m) r) v (chain_of v (n - m) b)) where
      frame₂ : Frame (siblings_of w (n - m) middle) u v
      frame₂ = rw second at s.frame

      same₂ : Same (chain_of v (n - m) b) (siblings_of w (n - m) middle)
      same₂ = rw second at s.same

      first_stays : chain_of v m a ≡ chain_of u m a
      first_stays = frame_walk frame₂ m a (λ k i j. halves_apart (p.same.to k i) j)

      same₁ : Same (chain_of v m a) (siblings_of w m first)
      same₁ = rw first_stays p.same

      name₁ : name_of t u ≡ name_of t w
      name₁ = frame_name p.frame t

      name₂ : name_of t v ≡ name_of t w
      name₂ = frame_name frame₂ t ∙ name₁

      within : (k : ℕ) → In k (chain_of v m a ++ chain_of v (n - m) b) → In k (siblings_of w m first ++ siblings_of w (n - m) middle)
      within k i = ⊎_elim (λ z. in_left _ (same₁.to k z)) (λ z. in_right (siblings_of w m first) (same₂.to k z)) (in_either (chain_of v m a) i)

      without : (k : ℕ) → In k (siblings_of w m first ++ siblings_of w (n - m) middle) → In k (chain_of v m a ++ chain_of v (n - m) b)
      without k i = ⊎_elim (λ z. in_left _ (same₁.back k z)) (λ z. in_right (chain_of v m a) (same₂.back k z)) (in_either (siblings_of w m first) i)

      pub merge_ready : Ready (turned (not up) (in_order t v)) t v (chain_of v m a) (chain_of v (n - m) b)
      merge_ready =
          record {
            seats = frame_seats frame₂ t _ (frame_seats p.frame t _ (λ k i. parts.seats k (within k i)));
            apart = λ k i j. halves_apart (same₁.to k i) (same₂.to k j);
            left = rw (name₂, first_stays) p.sorted;
            right = rw (name₂, ← name₁) s.sorted;
          }

      module _ {z : Words} (d : ℕ) (g : Linked (turned (not (not up)) (in_order t v)) v (chain_of v m a ++ chain_of v (n - m) b) z (chain_of z (m + (n - m)) d)) where
        whole : chain_of z (m + (n - m)) d ≡ chain_of z n d
        whole = let e : m + (n - m) ≡ n = omega arith in rw e

        chained : Linked (turned up (in_order t w)) w (siblings_of w n first) z (chain_of z n d)
        chained =
            rw (split, ← whole) record {
              same = record { to = λ k i. within k (g.same.to k i); back = λ k i. g.same.back k (without k i) };
              sorted = rw (← name₂, ← not-not up) g.sorted;
              frame =
                  frame_trans (frame_more (λ k i. in_left _ i) p.frame)
                  (frame_trans (frame_more (λ k i. in_right (siblings_of w m first) i) frame₂) (frame_more within g.frame));
            }

        ends : q ≡ after (next_of w) n first
        ends =
            let e : m + (n - m) ≡ n = omega arith in
            eq ∙ rw (er, frame_next p.frame) (sym (after_add (next_of w) m (n - m) first) ∙ rw e)

        pub all_sorted : (q ≡ after (next_of w) n first) × Linked (turned up (in_order t w)) w (siblings_of w n first) z (chain_of z n d)
        all_sorted = (ends, chained)
