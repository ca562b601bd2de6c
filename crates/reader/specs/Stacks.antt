-- What stands in the table for the containers that are open: how table, marks and the machine's stack belong together.
use Rattle.std.specs.Prelude.{ℕ, suc, ◌+◌, ◌<◌, ◌≤◌, get_or, length, [], ◌∷◌, ◌++◌, ◌≡◌, Option, Some, None}
use Rattle.members.specs.Names.{name_at}
use Rattle.members.specs.Records.{word_of}
use Rattle.reader.specs.Tokens.{brace, bracket}
use Rattle.text.proofs.Machine.{Frame, Stack, depth_of, onto_members, onto_nodes}
use Rattle.text.proofs.Offsets.{end, start}
use Rattle.text.specs.Bytes.{Bytes, Units}
use Rattle.text.specs.Node.{Members, Node, Nodes}
use Rattle.text.specs.Table.{Words, records, size_all, size_members, unnamed}

-- The mark of an open container is its bracket; the outermost comes first.
unfoldable pub kind : Frame → ℕ
kind (Frame.array a vs) = bracket
kind (Frame.object a ms q us) = brace

unfoldable pub Marked : Words → Stack → Type 0
Marked m [] = Unit {0}
Marked m (f ∷ st) = (get_or m (depth_of st) 0 ≡ kind f) × Marked m st

-- The name of the value that is due, if it has one.
unfoldable pub name_of : Stack → Option ℕ
name_of [] = None
name_of (Frame.array a vs ∷ st) = None
name_of (Frame.object a ms q us ∷ st) = Some q

-- How many records are begun, and which is that of the innermost open container.
unfoldable pub begun : Stack → ℕ
begun [] = 0
begun (Frame.array a vs ∷ st) = begun st + suc (size_all vs)
begun (Frame.object a ms q us ∷ st) = begun st + suc (size_members ms)

unfoldable pub open_of : Stack → ℕ
open_of [] = 0
open_of (f ∷ st) = begun st

-- The records of elements and members that are kept last first, the first of them being number `k`.
unfoldable pub back_all : Nodes → ℕ → Words
back_all Nodes.nil k = []
back_all (Nodes.cons v vs) k = back_all vs k ++ records v unnamed (k + size_all vs)

unfoldable pub back_members : Members → ℕ → Words
back_members Members.empty k = []
back_members (Members.member q us v ms) k = back_members ms k ++ records v q (k + size_members ms)

-- The words written. The record of an open container has 0 for its end, and the number of the record around it for its
-- next.
unfoldable pub words : Stack → Words
words [] = []
words (Frame.array a vs ∷ st) = words st ++ ((a ∷ 0 ∷ word_of (name_of st) ∷ open_of st ∷ []) ++ back_all vs (suc (begun st)))
words (Frame.object a ms q us ∷ st) = words st ++ ((a ∷ 0 ∷ word_of (name_of st) ∷ open_of st ∷ []) ++ back_members ms (suc (begun st)))

-- The opening quote of the name `us` stands at `q`, before `b`.
pub record Quote (t : Bytes) (q : ℕ) (us : Units) (b : ℕ) : Type 0 where
  pub before : q < b
  pub inside : q < length t
  pub means : name_at t q ≡ us

-- The members of an open object, last first: their names stand in the text in that order, before `b`, and their values
-- end at the end of the text or before.
pub data Spelt (t : Bytes) : Members → ℕ → Type 0 where
  empty : {b : ℕ} → Spelt t Members.empty b
  member : {q b : ℕ} {us : Units} {v : Node} {ms : Members} → Quote t q us b → start v ≤ length t → end v ≤ length t → Spelt t ms q → Spelt t (Members.member q us v ms) b

-- The same of all open objects, with the names whose values are due; and every container opens inside the text.
unfoldable pub Named : Bytes → Stack → ℕ → Type 0
Named t [] b = Unit {0}
Named t (Frame.array a vs ∷ st) b = (a < length t) × Named t st b
Named t (Frame.object a ms q us ∷ st) b = (a < length t) × Quote t q us b × Spelt t ms q × Named t st b

-- The node that an open container becomes, where it ends at `e`.
unfoldable pub shut_at : Frame → ℕ → Node
shut_at (Frame.array a vs) e = Node.array a e (onto_nodes vs Nodes.nil)
shut_at (Frame.object a ms q us) e = Node.object a e (onto_members ms Members.empty)
