-- The text of a container from those of its entries is what the canonical text says.
use Prim.Native.Char.{code}
use Prim.Native.Nat.{ℕ}
use Rattle.meaning.proofs.Append.{put_alone, units_append}
use Rattle.meaning.specs.Canonical.{put, put_array, put_elements, put_object, put_rest, put_units}
use Rattle.meaning.specs.Meaning.{Tree}
use Rattle.members.specs.Lists.{In}
use Rattle.spell.specs.Scalars.{quoted}
use Rattle.text.specs.Bytes.{Bytes, Units}
use Rattle.writer.proofs.Gathered.{pairs_of, trees_of}
use Rattle.writer.specs.Containers.{closed, container, each}
use mathlib.Core.List.{List, [], ◌++◌, ◌∷◌}
use mathlib.Core.Path.{◌∙◌, ◌≡◌, ap, ap₂, refl, sym}

-- Entries that agree give the same text.
pub each_same : (f g : ℕ → Bytes) (l : List ℕ) → ((x : ℕ) → In x l → f x ≡ g x) → each f l ≡ each g l
unfolding each
each_same f g [] h = refl
each_same f g (x ∷ l) h = ap₂ (λ (e : Bytes) (es : List Bytes). e ∷ es) (h x In.here) (each_same f g l (λ y i. h y (In.there i)))

-- An array's elements.
module _ (value : ℕ → Tree) where
  abbrev element : ℕ → Bytes
  element x = put (value x) []

  elements_text : (x : ℕ) (l : List ℕ) → closed (code "]") (each element (x ∷ l)) ≡ put_array (trees_of value (x ∷ l)) []
  unfolding closed each trees_of put
  elements_text x [] = sym (put_alone (value x) (code "]" ∷ []))
  elements_text x (y ∷ l) = ap (λ o. element x ++ (code "," ∷ o)) (elements_text y l) ∙ sym (put_alone (value x) (put_elements (trees_of value (y ∷ l)) []))

  pub array_text : (l : List ℕ) → container (code "[") (each element l) ≡ put (Tree.array (trees_of value l)) []
  unfolding container each trees_of put
  array_text [] = refl
  array_text (x ∷ l) = ap (λ o. code "[" ∷ o) (elements_text x l)

-- A member, whatever stands behind it.
pub member_text : (k : Units) (v : Tree) (o : Bytes) → ((quoted k ++ (code ":" ∷ [])) ++ put v []) ++ o ≡ code "\"" ∷ put_units k (code "\"" ∷ code ":" ∷ put v o)
member_text k v o =
    ap (λ u. code "\"" ∷ u)
    (ap (λ (u : Bytes). (u ++ put v []) ++ o) (sym (units_append k (code "\"" ∷ []) (code ":" ∷ [])))
    ∙ ap (λ (u : Bytes). u ++ o) (sym (units_append k (code "\"" ∷ code ":" ∷ []) (put v [])))
    ∙ sym (units_append k (code "\"" ∷ code ":" ∷ put v []) o)
    ∙ ap (λ u. put_units k (code "\"" ∷ code ":" ∷ u)) (sym (put_alone v o)))

-- An object's members.
module _ (name : ℕ → Units) (value : ℕ → Tree) where
  abbrev member : ℕ → Bytes
  member x = (quoted (name x) ++ (code ":" ∷ [])) ++ put (value x) []

  members_text : (x : ℕ) (l : List ℕ) → closed (code "}") (each member (x ∷ l)) ≡ put_object (pairs_of name value (x ∷ l)) []
  unfolding closed each pairs_of put
  members_text x [] = member_text (name x) (value x) (code "}" ∷ [])
  members_text x (y ∷ l) = ap (λ o. member x ++ (code "," ∷ o)) (members_text y l) ∙ member_text (name x) (value x) (put_rest (pairs_of name value (y ∷ l)) [])

  pub object_text : (l : List ℕ) → container (code "{") (each member l) ≡ put (Tree.object (pairs_of name value l)) []
  unfolding container each pairs_of put
  object_text [] = refl
  object_text (x ∷ l) = ap (λ o. code "{" ∷ o) (members_text x l)
