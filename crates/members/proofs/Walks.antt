-- Walks along records.
use Prim.Native.Nat.{◌+◌, suc, zero, ℕ}
use Rattle.members.specs.Chains.{after, walk}
use Rattle.members.specs.Lists.{In}
use lib.ListN.{length}
use mathlib.Core.List.{List, ◌++◌, ◌∷◌}
use mathlib.Core.Path.{◌≡◌, ap, refl}
use native.Mathlib.Nat.{suc-add, zero-add}

pub walk_length : (f : ℕ → ℕ) (n h : ℕ) → length (walk f n h) ≡ n
unfolding walk
walk_length f zero h = refl
walk_length f (suc n) h = ap suc (walk_length f n (f h))

-- A walk depends on what is found from its members only.
pub walk_same : (f g : ℕ → ℕ) (n h : ℕ) → ((v : ℕ) → In v (walk f n h) → g v ≡ f v) → walk g n h ≡ walk f n h
unfolding walk
walk_same f g zero h e = refl
walk_same f g (suc n) h e = rw (e h In.here) (ap (λ (l : List ℕ). h ∷ l) (walk_same f g n (f h) (λ v i. e v (In.there i))))

pub walk_add : (f : ℕ → ℕ) (m n h : ℕ) → walk f (m + n) h ≡ walk f m h ++ walk f n (after f m h)
unfolding walk after
walk_add f zero n h = rw (zero-add n)
walk_add f (suc m) n h = rw (suc-add m n) (ap (λ (l : List ℕ). h ∷ l) (walk_add f m n (f h)))

pub after_add : (f : ℕ → ℕ) (m n h : ℕ) → after f (m + n) h ≡ after f n (after f m h)
unfolding after
after_add f zero n h = rw (zero-add n)
after_add f (suc m) n h = rw (suc-add m n) (after_add f m n (f h))
