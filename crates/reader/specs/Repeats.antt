-- Which names repeat one before them in their object: the offsets of their opening quotes, in the order of the text.
use Rattle.std.specs.Prelude.{ℕ, suc, ◌<◌, ◌≤◌, drop, cond, List, [], ◌∷◌, ◌++◌, Option, Some, None}
use Rattle.members.specs.Lists.{In}
use Rattle.names.specs.Units.{closing}
use Rattle.text.proofs.Machine.{Frame, Stack, names_of}
use Rattle.text.specs.Bytes.{Bytes, Units}
use Rattle.text.specs.Ceilings.{among}
use Rattle.text.specs.Node.{Members, Node, Nodes}
use Rattle.text.specs.Verdict.{Outcome}

-- The name `us` at `q`, behind the names `ns`.
unfoldable pub again : Units → List Units → ℕ → List ℕ
again us ns q = cond (among us ns) (q ∷ []) []

-- In a value.
unfoldable mutual
  pub repeats : Node → List ℕ
  repeats (Node.literal p q w) = []
  repeats (Node.string p q us) = []
  repeats (Node.number p q x) = []
  repeats (Node.array p q vs) = repeats_all vs
  repeats (Node.object p q ms) = repeats_members [] ms

  pub repeats_all : Nodes → List ℕ
  repeats_all Nodes.nil = []
  repeats_all (Nodes.cons v vs) = repeats v ++ repeats_all vs

  pub repeats_members : List Units → Members → List ℕ
  repeats_members ns Members.empty = []
  repeats_members ns (Members.member q us v ms) = again us ns q ++ (repeats v ++ repeats_members (us ∷ ns) ms)

-- In what stands in an open container, last first: all, those of the values inside it, and its own names.
unfoldable pub inside_all : Nodes → List ℕ
inside_all Nodes.nil = []
inside_all (Nodes.cons v vs) = inside_all vs ++ repeats v

unfoldable pub inside_members : Members → List ℕ
inside_members Members.empty = []
inside_members (Members.member q us v ms) = inside_members ms ++ (again us (names_of ms) q ++ repeats v)

unfoldable pub deeper : Members → List ℕ
deeper Members.empty = []
deeper (Members.member q us v ms) = deeper ms ++ repeats v

unfoldable pub own : Members → List ℕ
own Members.empty = []
own (Members.member q us v ms) = own ms ++ again us (names_of ms) q

-- In all that is open: where nothing is due in the innermost container, where a value is, and without the own names of
-- open objects.
unfoldable mutual
  pub between : Stack → List ℕ
  between [] = []
  between (Frame.array a vs ∷ st) = before st ++ inside_all vs
  between (Frame.object a ms q us ∷ st) = before st ++ inside_members ms

  pub before : Stack → List ℕ
  before [] = []
  before (Frame.array a vs ∷ st) = before st ++ inside_all vs
  before (Frame.object a ms q us ∷ st) = before st ++ (inside_members ms ++ again us (names_of ms) q)

unfoldable pub closed : Stack → List ℕ
closed [] = []
closed (Frame.array a vs ∷ st) = closed st ++ inside_all vs
closed (Frame.object a ms q us ∷ st) = closed st ++ deeper ms

-- The outcome where these names repeat others: a refusal at the closing quote of the first, or `a` where there is none.
unfoldable pub first_or : Bytes → List ℕ → Outcome → Outcome
first_or t [] a = a
first_or t (q ∷ qs) a = Outcome.refused 8 (closing (suc q) (drop (suc q) t))

-- Offsets in rising order, all before `b`.
pub data Rising : List ℕ → ℕ → Type 0 where
  none : {b : ℕ} → Rising [] b
  more : {q b : ℕ} {qs : List ℕ} → q < b → ((x : ℕ) → In x qs → q < x) → Rising qs b → Rising (q ∷ qs) b

-- `q` is the least of `l`, or there is none.
abbrev pub Least : List ℕ → Option ℕ → Type 0
Least l None = (x : ℕ) → In x l → ⊥
Least l (Some q) = In q l × ((x : ℕ) → In x l → q ≤ x)
