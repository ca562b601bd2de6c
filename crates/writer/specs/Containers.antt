-- The text of a container from those of its entries.
use Prim.Native.Char.{code}
use Rattle.std.specs.Prelude.{ℕ, ◌+◌, List, [], ◌∷◌, ◌++◌}
use Rattle.text.specs.Bytes.{Bytes}

-- What `f` gives for each record of a list.
unfoldable pub each : (ℕ → Bytes) → List ℕ → List Bytes
each f [] = []
each f (x ∷ l) = f x ∷ each f l

-- Texts one behind another, each with a comma behind it but the last, which has `z`.
unfoldable pub closed : ℕ → List Bytes → Bytes
closed z [] = []
closed z (e ∷ []) = e ++ (z ∷ [])
closed z (e ∷ d ∷ es) = e ++ (code "," ∷ closed z (d ∷ es))

-- What closes a container: in ASCII each bracket stands two behind the one that opens.
abbrev pub closing : ℕ → ℕ
closing b = b + 2

-- The container that `b` opens.
unfoldable pub container : ℕ → List Bytes → Bytes
unfolding closed
container b [] = b ∷ closing b ∷ []
container b (e ∷ es) = b ∷ closed (closing b) (e ∷ es)
