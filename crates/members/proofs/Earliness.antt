-- Lists in which no name is repeated, and lists with the same members.
use Prim.Native.Nat.{ℕ}
use Rattle.members.proofs.Membership.{in_cases, in_none, in_single}
use Rattle.members.proofs.Ordering.{ahead_apart}
use Rattle.members.specs.Lists.{In, Same, Sorted}
use Rattle.members.specs.Names.{ahead}
use Rattle.members.specs.Repeats.{Distinct, Earliest}
use Rattle.std.specs.Prelude.{None, Option, Some}
use Rattle.text.specs.Bytes.{Units}
use mathlib.Core.Bool.{true}
use mathlib.Core.List.{List, [], ◌∷◌}
use mathlib.Core.Logic.{◌⊎◌, inl, inr, ⊎_elim}
use mathlib.Core.Path.{◌∙◌, ◌≡◌, sym}
use native.Mathlib.Omega.{arith}

module _ (name : ℕ → Units) where
  pub distinct_one : (p : ℕ) → Distinct name (p ∷ [])
  distinct_one p x y i j h e = omega (arith, h, in_single i, in_single j)

  pub earliest_same : {a b : List ℕ} (z : Option ℕ) → Same a b → Earliest name a z → Earliest name b z
  earliest_same None s p = λ x y i j. p x y (s.back x i) (s.back y j)
  earliest_same (Some z) s p =
      let q = p.real in
      record {
        least = λ x y i j. p.least x y (s.back x i) (s.back y j);
        real = (s.to z q.0, (q.1.0, s.to q.1.0 q.1.1, q.1.2, q.1.3));
      }

  ascend_by : {l : List ℕ} → Sorted (ahead name) l → (x y : ℕ) → In x l → In y l → (x ≡ y) ⊎ ((ahead name x y ≡ true) ⊎ (ahead name y x ≡ true))
  ascend_by Sorted.none x y i j = absurd (in_none i)
  ascend_by (Sorted.more g s) x y i j =
      ⊎_elim
      (λ a. ⊎_elim (λ b. inl (a ∙ sym b)) (λ k. inr (inl (rw a (g y k)))) (in_cases j))
      (λ k. ⊎_elim (λ b. inr (inr (rw b (g x k)))) (λ m. ascend_by s x y k m) (in_cases j))
      (in_cases i)

  -- Where names ascend none is repeated.
  pub distinct_ascending : {l : List ℕ} → Sorted (ahead name) l → Distinct name l
  distinct_ascending s x y i j h e =
      ⊎_elim (λ d. omega arith) (⊎_elim (λ d. ahead_apart name x y d e) (λ d. ahead_apart name y x d (sym e))) (ascend_by s x y i j)
