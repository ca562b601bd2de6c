-- Stretches of words in a table.
use Prim.Native.Nat.{◌+◌, suc, ℕ}
use Rattle.text.specs.Table.{Words}
use lib.ListN.{get_or, length}
use mathlib.Core.List.{[], ◌++◌, ◌∷◌}
use mathlib.Core.Path.{◌≡◌, refl, subst}
use native.Mathlib.Omega.{arith}

-- From place `i` on `w` has the words `ws`.
unfoldable pub Has : Words → ℕ → Words → Type 0
Has w i [] = Unit {0}
Has w i (x ∷ ws) = (get_or w i 0 ≡ x) × Has w (suc i) ws

pub has_left : (w : Words) (i : ℕ) (a b : Words) → Has w i (a ++ b) → Has w i a
unfolding Has
has_left w i [] b h = tt
has_left w i (x ∷ a) b (e, h) = (e, has_left w (suc i) a b h)

pub has_right : (w : Words) (i : ℕ) (a b : Words) → Has w i (a ++ b) → Has w (i + length a) b
unfolding Has
has_right w i [] b h = subst (λ j. Has w j b) (let e : i ≡ i + 0 = omega arith in e) h
has_right w i (x ∷ a) b (e, h) = subst (λ j. Has w j b) (let e : suc i + length a ≡ i + suc (length a) = omega arith in e) (has_right w (suc i) a b h)

-- What stands at the front.
has_suc : (y : ℕ) (w : Words) (i : ℕ) (a : Words) → Has w i a → Has (y ∷ w) (suc i) a
unfolding Has
has_suc y w i [] h = tt
has_suc y w i (x ∷ a) (e, h) = (e, has_suc y w (suc i) a h)

pub has_front : (a b : Words) → Has (a ++ b) 0 a
unfolding Has
has_front [] b = tt
has_front (x ∷ a) b = (refl, has_suc x (a ++ b) 0 a (has_front a b))
