-- A statement about each of a list.
use mathlib.Core.List.{List, [], ◌++◌, ◌∷◌, map}
use mathlib.Core.Path.{◌≡◌}

unfoldable pub Every : {A : Type 0} → (A → Type 0) → List A → Type 0
Every P [] = Unit {0}
Every P (a ∷ l) = P a × Every P l

-- Proved by one computation: `f` and `g` agree along the list.
pub every : {A B : Type 0} (P : A → Type 0) (f g : A → B) → ((a : A) → f a ≡ g a → P a) → (l : List A) → map f l ≡ map g l → Every P l
unfolding Every
every P f g h [] e = tt
every P f g h (a ∷ l) e = (h a (let z : f a ≡ g a = cc in z), every P f g h l (let z : map f l ≡ map g l = cc in z))

-- About each of two lists, and by way of another statement.
pub every_append : {A : Type 0} (P : A → Type 0) (l m : List A) → Every P l → Every P m → Every P (l ++ m)
unfolding Every
every_append P [] m x y = y
every_append P (a ∷ l) m (p, x) y = (p, every_append P l m x y)

pub every_follows : {A : Type 0} (P Q : A → Type 0) → ((a : A) → P a → Q a) → (l : List A) → Every P l → Every Q l
unfolding Every
every_follows P Q f [] x = tt
every_follows P Q f (a ∷ l) (p, x) = (f a p, every_follows P Q f l x)
