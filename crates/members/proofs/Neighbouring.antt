-- The first repeat, found from the neighbours in a sorted chain.
use Prim.Native.Nat.{◌-◌, ◌<◌, ◌≤◌, min, suc, ℕ}
use Rattle.members.proofs.Earliness.{distinct_one, earliest_same}
use Rattle.members.proofs.Membership.{in_cases, in_equal, in_none, in_single}
use Rattle.members.proofs.Ordering.{before_less, before_trans, between, same_no, same_yes}
use Rattle.members.proofs.Sorting.{sorted_head, sorted_tail}
use Rattle.members.specs.Chains.{walk}
use Rattle.members.specs.Lists.{In, Sorted}
use Rattle.members.specs.Names.{before}
use Rattle.members.specs.Repeats.{Earliest, Repeated}
use Rattle.members.specs.Searches.{better}
use Rattle.names.specs.Order.{order}
use Rattle.std.specs.Option.{option_map_or}
use Rattle.std.specs.Prelude.{None, Option, Some}
use Rattle.text.specs.Bytes.{Units}
use borrow.Author.Tests.{ltb-false, ltb-true}
use lib.Dec.{eqb, ltb}
use mathlib.Core.Bool.{Bool, cond, false, true}
use mathlib.Core.List.{List, [], ◌∷◌}
use mathlib.Core.Logic.{◌⊎◌, inl, inr, ⊎_elim}
use mathlib.Core.Path.{◌∙◌, ◌≡◌, ap, refl, sym}
use native.Mathlib.Omega.{arith}

-- One record more, `q`, behind `p` and the records before it.
module _ (name : ℕ → Units) {done : List ℕ} (p q : ℕ) (behind : (v : ℕ) → In v done → before name v p ≡ true) (next : before name p q ≡ true) where
  all_behind : (v : ℕ) → In v (p ∷ done) → before name v q ≡ true
  all_behind v i = ⊎_elim (λ d. rw d next) (λ k. before_trans name v p q (behind v k) next) (in_cases i)

  -- If one of them has the name of `q`, then `p` has it.
  same_last : (v : ℕ) → In v (p ∷ done) → name v ≡ name q → name p ≡ name q
  same_last v i h =
      ⊎_elim (λ d. ap name (sym d) ∙ h) (λ k. sym (between name v p q (behind v k) next h) ∙ h) (in_cases i)

  -- What is so of each repeat among them, and of `q` if it is one, is so of each repeat.
  each_repeat : (m : ℕ → Type 0) → ((x y : ℕ) → In x (p ∷ done) → In y (p ∷ done) → x < y → name x ≡ name y → m y) → (name p ≡ name q → m q)
      → (x y : ℕ) → In x (q ∷ p ∷ done) → In y (q ∷ p ∷ done) → x < y → name x ≡ name y → m y
  each_repeat m f g x y i j h n =
      ⊎_elim
      (λ d. ⊎_elim (λ c. absurd (omega arith)) (λ k. rw d (g (same_last x k (n ∙ ap name d)))) (in_cases i))
      (λ k. ⊎_elim
      (λ c. absurd (omega (arith, c, h, before_less name y q (all_behind y k) (sym n ∙ ap name c))))
      (λ l. f x y l k h n)
      (in_cases i))
      (in_cases j)

  sooner : {z : ℕ} → Repeated name (p ∷ done) z → In z (q ∷ p ∷ done) × ((x : ℕ) × In x (q ∷ p ∷ done) × (x < z) × (name x ≡ name z))
  sooner r = let k = r.real in (In.there k.0, (k.1.0, In.there k.1.1, k.1.2, k.1.3))

  earliest_other : (name p ≡ name q → ⊥) → (best : Option ℕ) → Earliest name (p ∷ done) best → Earliest name (q ∷ p ∷ done) best
  earliest_other n None e = each_repeat (λ y. ⊥) e n
  earliest_other n (Some b) e = record { least = each_repeat (λ y. b ≤ y) e.least (λ h. absurd (n h)); real = sooner e }

  module _ (h : name p ≡ name q) where
    here : In q (q ∷ p ∷ done) × ((x : ℕ) × In x (q ∷ p ∷ done) × (x < q) × (name x ≡ name q))
    here = (In.here, (p, In.there In.here, before_less name p q next h, h))

    lesser : (b : ℕ) → Repeated name (p ∷ done) b → (d : Bool) → ltb b q ≡ d → Repeated name (q ∷ p ∷ done) (min b q)
    lesser b e true d =
        let m : min b q ≡ b = omega (arith, ltb-true b q d) in
        rw m record { least = each_repeat (λ y. b ≤ y) e.least (λ n. omega (arith, ltb-true b q d)); real = sooner e }
    lesser b e false d =
        let m : min b q ≡ q = omega (arith, ltb-false b q d) in
        rw m record { least = each_repeat (λ y. q ≤ y) (λ x y i j k n. omega (arith, ltb-false b q d, e.least x y i j k n)) (λ n. omega arith); real = here }

    earliest_same_name : (best : Option ℕ) → Earliest name (p ∷ done) best → Repeated name (q ∷ p ∷ done) (option_map_or (λ b. min b q) best q)
    earliest_same_name None e = record { least = each_repeat (λ y. q ≤ y) (λ x y i j k n. absurd (e x y i j k n)) (λ n. omega arith); real = here }
    earliest_same_name (Some b) e = lesser b e (ltb b q) refl

  earliest_more : (best : Option ℕ) (same : Bool) → same ≡ eqb (order (name p) (name q)) 1 → Earliest name (p ∷ done) best
      → Earliest name (q ∷ p ∷ done) (cond same (Some (option_map_or (λ b. min b q) best q)) best)
  earliest_more best true s e = earliest_same_name (same_yes _ _ true s refl) best e
  earliest_more best false s e = earliest_other (same_no _ _ false s refl) best e

-- `best` is the first repeat among `p` and the records of `c` before it; `i` are left behind `p`.
pub record Nearing (name : ℕ → Units) (f : ℕ → ℕ) (c : List ℕ) (best : Option ℕ) (p i : ℕ) : Type 0 where
  pub done : List ℕ
  pub sorted : Sorted (before name) (walk f (suc i) p)
  pub behind : (v : ℕ) → In v done → before name v p ≡ true
  pub earliest : Earliest name (p ∷ done) best
  pub only : (v : ℕ) → In v done ⊎ In v (walk f (suc i) p) → In v c
  pub all : (v : ℕ) → In v c → In v done ⊎ In v (walk f (suc i) p)

module _ {name : ℕ → Units} {f : ℕ → ℕ} where
  pub near_start : (n head : ℕ) → 1 ≤ n → Sorted (before name) (walk f n head) → Nearing name f (walk f n head) None head (n - 1)
  near_start n head h s =
      let e : suc (n - 1) ≡ n = omega arith in
      record {
        done = [];
        sorted = rw e s;
        behind = λ v i. absurd (in_none i);
        earliest = distinct_one name head;
        only = λ v. ⊎_elim (λ i. absurd (in_none i)) (λ i. rw e at i);
        all = λ v i. inr (rw e i);
      }

  module _ {c : List ℕ} {best : Option ℕ} {p i : ℕ} (s : Nearing name f c best p i) where
    pub near_in : In p c
    unfolding walk
    near_in = s.only p (inr In.here)

    pub near_next : 0 < i → In (f p) c
    unfolding walk
    near_next h = let e : i ≡ suc (i - 1) = omega arith in s.only (f p) (inr (rw e (In.there In.here)))

    pub near_turn : {j q : ℕ} {z : Option ℕ} → i ≡ suc j → q ≡ f p → z ≡ better name best p q → Nearing name f c z q j
    unfolding walk
    near_turn {j} e d b =
        let t = rw e at s in
        let next : before name p (f p) ≡ true = sorted_head t.sorted (f p) In.here in
        rw (b, d) record {
          done = p ∷ t.done;
          sorted = sorted_tail t.sorted;
          behind = all_behind name p (f p) t.behind next;
          earliest = earliest_more name p (f p) t.behind next best _ refl t.earliest;
          only = λ v. ⊎_elim (λ k. ⊎_elim (λ d. rw d (t.only p (inr In.here))) (λ m. t.only v (inl m)) (in_cases k)) (λ k. t.only v (inr (In.there k)));
          all = λ v k. ⊎_elim (λ m. inl (In.there m)) (λ m. ⊎_elim (λ d. inl (rw d In.here)) (λ r. inr r) (in_cases m)) (t.all v k);
        }

    pub near_end : i ≡ 0 → Earliest name c best
    unfolding walk
    near_end e =
        let t = rw e at s in
        earliest_same name best
        (record {
          to = λ v k. ⊎_elim (λ d. t.only v (inr (rw d In.here))) (λ m. t.only v (inl m)) (in_cases k);
          back = λ v k. ⊎_elim (λ m. In.there m) (λ m. in_equal t.done (in_single m)) (t.all v k);
        })
        t.earliest
