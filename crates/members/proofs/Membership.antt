-- Membership in lists.
use Prim.Native.Nat.{ℕ}
use Rattle.members.specs.Lists.{In, Same}
use borrow.Author.Tests.{eqb-false, eqb-true}
use lib.Dec.{eqb}
use mathlib.Core.Bool.{Bool, false, true}
use mathlib.Core.List.{List, [], ◌++◌, ◌∷◌}
use mathlib.Core.Logic.{◌⊎◌, inl, inr, ⊎_elim}
use mathlib.Core.Path.{◌≡◌, refl}

pub in_none : {v : ℕ} → In v [] → ⊥
in_none = elim [ ]

pub in_equal : {v x : ℕ} (l : List ℕ) → v ≡ x → In v (x ∷ l)
in_equal {v} l e = rw (← e) In.here

pub in_cases : {v x : ℕ} {l : List ℕ} → In v (x ∷ l) → (v ≡ x) ⊎ In v l
in_cases In.here = inl refl
in_cases (In.there i) = inr i

pub in_single : {v x : ℕ} → In v (x ∷ []) → v ≡ x
in_single i = ⊎_elim (λ e. e) (λ k. absurd (in_none k)) (in_cases i)

pub in_left : {v : ℕ} {a : List ℕ} (b : List ℕ) → In v a → In v (a ++ b)
in_left b In.here = In.here
in_left b (In.there i) = In.there (in_left b i)

pub in_right : {v : ℕ} (a : List ℕ) {b : List ℕ} → In v b → In v (a ++ b)
in_right [] i = i
in_right (x ∷ a) i = In.there (in_right a i)

pub in_either : {v : ℕ} (a : List ℕ) {b : List ℕ} → In v (a ++ b) → In v a ⊎ In v b
in_either [] i = inr i
in_either (x ∷ a) In.here = inl In.here
in_either (x ∷ a) (In.there i) = ⊎_elim (λ k. inl (In.there k)) (λ k. inr k) (in_either a i)

-- A member is in a list or not.
in_more : {v x : ℕ} {l : List ℕ} (b : Bool) → eqb v x ≡ b → In v l ⊎ (In v l → ⊥) → In v (x ∷ l) ⊎ (In v (x ∷ l) → ⊥)
in_more {v} {x} {l} true e d = inl (in_equal l (eqb-true v x e))
in_more {v} {x} {l} false e d =
    ⊎_elim (λ i. inl (In.there i)) (λ n. inr (λ i. ⊎_elim (eqb-false v x e) n (in_cases i))) d

pub in_decided : (v : ℕ) (l : List ℕ) → In v l ⊎ (In v l → ⊥)
in_decided v [] = inr in_none
in_decided v (x ∷ l) = in_more (eqb v x) refl (in_decided v l)

pub same_refl : (l : List ℕ) → Same l l
same_refl l = record { to = λ v i. i; back = λ v i. i }
