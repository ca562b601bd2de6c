-- What one store of a link does.
use Prim.Native.Nat.{◌%◌, ◌*◌, ◌+◌, ◌/◌, ◌<◌, ◌≤◌, ℕ}
use Rattle.members.specs.Links.{Frame, link_of, link_part, low_part, with_link}
use Rattle.members.specs.Lists.{In}
use Rattle.members.specs.Records.{Room, max_records, word}
use Rattle.text.specs.Table.{Words, record_words}
use borrow.Author.Tests.{eqb-false, eqb-true}
use lib.Dec.{eqb}
use lib.ListN.{get_or, length, length-set, set}
use lib.Seq.{get_or-set_other, get_or-set_same}
use mathlib.Core.Bool.{Bool, false, true}
use mathlib.Core.List.{List}
use mathlib.Core.Path.{◌∙◌, ◌≡◌, refl}
use native.Mathlib.Omega.{arith}

-- Two stores side by side.
module _ (w : Words) (p a b : ℕ) (room : p + 1 < length w) where
  pair_first : get_or (set (set w (p + 0) a) (p + 1) b) (p + 0) 0 ≡ a
  pair_first = get_or-set_other (set w (p + 0) a) (p + 1) (p + 0) b 0 (λ e. omega arith) ∙ get_or-set_same w (p + 0) a 0 (omega arith)

  pair_second : get_or (set (set w (p + 0) a) (p + 1) b) (p + 1) 0 ≡ b
  pair_second = get_or-set_same (set w (p + 0) a) (p + 1) b 0 (simp length-set (omega arith))

  pair_else : (i : ℕ) → (i ≡ p + 0 → ⊥) → (i ≡ p + 1 → ⊥) → get_or (set (set w (p + 0) a) (p + 1) b) i 0 ≡ get_or w i 0
  pair_else i e f = get_or-set_other (set w (p + 0) a) (p + 1) i b 0 f ∙ get_or-set_other w (p + 0) i a 0 e

module _ (w : Words) (r v : ℕ) (room : Room w r) where
  at_first : word (with_link w r v) r 0 ≡ word w r 0 % low_part + v % link_part * low_part
  unfolding with_link
  at_first = pair_first w (record_words * r) _ _ (omega arith)

  at_second : word (with_link w r v) r 1 ≡ word w r 1 % low_part + v / link_part * low_part
  unfolding with_link
  at_second = pair_second w (record_words * r) (word w r 0 % low_part + v % link_part * low_part) _ (omega arith)

  elsewhere : (i : ℕ) → (i ≡ record_words * r + 0 → ⊥) → (i ≡ record_words * r + 1 → ⊥) → get_or (with_link w r v) i 0 ≡ get_or w i 0
  unfolding with_link
  elsewhere i p q =
      pair_else w (record_words * r) (word w r 0 % low_part + v % link_part * low_part) (word w r 1 % low_part + v / link_part * low_part) (omega arith) i p q

  pub link_back : v ≤ max_records → link_of (with_link w r v) r ≡ v
  unfolding link_of
  link_back small = rw (at_first, at_second) (omega arith)

  others : (q : ℕ) → (q ≡ r → ⊥) → (word (with_link w r v) q 0 ≡ word w q 0) × (word (with_link w r v) q 1 ≡ word w q 1)
  others q n =
      (elsewhere (record_words * q + 0) (λ e. n (omega arith)) (λ e. omega arith), elsewhere (record_words * q + 1) (λ e. omega arith) (λ e. n (omega arith)))

  pub link_else : (q : ℕ) → (q ≡ r → ⊥) → link_of (with_link w r v) q ≡ link_of w q
  unfolding link_of
  link_else q n = rw ((others q n).0, (others q n).1)

  low_stays : (i : ℕ) (a b : Bool) → eqb i (record_words * r + 0) ≡ a → eqb i (record_words * r + 1) ≡ b
      → get_or (with_link w r v) i 0 % low_part ≡ get_or w i 0 % low_part
  low_stays i true b e f = rw (eqb-true i (record_words * r + 0) e) (rw at_first (omega arith))
  low_stays i false true e f = rw (eqb-true i (record_words * r + 1) f) (rw at_second (omega arith))
  low_stays i false false e f = rw (elsewhere i (eqb-false _ _ e) (eqb-false _ _ f))

  pub link_frame : (l : List ℕ) → In r l → Frame l w (with_link w r v)
  unfolding with_link
  link_frame l i =
      record {
        long = simp length-set;
        low = λ k. low_stays k (eqb k (record_words * r + 0)) (eqb k (record_words * r + 1)) refl refl;
        quote = λ q. elsewhere (record_words * q + 2) (λ e. omega arith) (λ e. omega arith);
        next = λ q. elsewhere (record_words * q + 3) (λ e. omega arith) (λ e. omega arith);
        out = λ q n. others q (λ e. n (rw e i));
      }
