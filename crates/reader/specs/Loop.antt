-- What the reader's loops keep: how table, marks, names and answer belong to the machine's stack, of which the code
-- knows nothing.
use Rattle.std.specs.Prelude.{ℕ, ◌+◌, ◌-◌, ◌*◌, ◌≤◌, ◌<◌, drop, length, Bool, false, not, true, List, [], ◌∷◌, ◌++◌, ◌≡◌, Option, Some, None, IsSome}
use Rattle.members.specs.Records.{word_of}
use Rattle.reader.specs.Repeats.{Least, Rising, before, between, closed, first_or, repeats}
use Rattle.reader.specs.Stacks.{Marked, Named, Spelt, begun, kind, name_of, open_of, shut_at, words}
use Rattle.reader.specs.Tokens.{brace, bracket, put_at}
use Rattle.scan.specs.Answers.{Judge, at}
use Rattle.scan.specs.Refusals.{number_of, place_of}
use Rattle.scan.specs.Space.{Dense}
use Rattle.scan.specs.declared.refusal.Refusal.{Refusal}
use Rattle.text.proofs.Machine.{Frame, Stack, State, depth_of}
use Rattle.text.proofs.Offsets.{end, start}
use Rattle.text.proofs.Way.{initial}
use Rattle.text.specs.Bytes.{Bytes, Units}
use Rattle.text.specs.Ceilings.{among, max_depth}
use Rattle.text.specs.Node.{Members, Node, Nodes}
use Rattle.text.specs.Table.{Words, record_words, records, size, table}
use Rattle.text.specs.Verdict.{Outcome}

-- How the house judges names, and its answer.
abbrev pub strict : Judge
strict us ns = not (among us ns)

abbrev pub answer : Bytes → Outcome
answer t = at t initial 0 strict

-- `w` was the table at entry; in `tab` the words `ws` of `n` records are written, those before `i`, and `m` marks the `d`
-- containers that are open, the innermost of which has the record `op`.
pub record Laid (t : Bytes) (w tab m : Words) (st : Stack) (ws : Words) (d i n op : ℕ) : Type 0 where
  pub deep : d ≡ depth_of st
  pub low : d ≤ max_depth
  pub marks : length m ≡ max_depth
  pub marked : Marked m st
  pub bound : i ≤ length t
  pub few : n ≤ i
  pub full : length ws ≡ record_words * n
  pub filled : tab ≡ ws ++ drop (record_words * n) w
  pub opened : op ≡ open_of st

-- A value is due. The names `es` repeat others, and of those in closed objects `first` is the first, if there is one.
pub record Wants (t : Bytes) (w tab m : Words) (st : Stack) (es : List ℕ) (d i n op : ℕ) (first : Option ℕ) : Type 0 where
  pub laid : Laid t w tab m st (words st) d i n op
  pub count : n ≡ begun st
  pub repeated : es ≡ before st
  pub least : Least (closed st) first
  pub names : Named t st i
  pub room : IsSome (name_of st) → n < i

-- The value `v` has been read.
pub record After (t : Bytes) (w tab m : Words) (st : Stack) (v : Node) (es : List ℕ) (d i n op : ℕ) (first : Option ℕ) : Type 0 where
  pub laid : Laid t w tab m st (words st ++ records v (word_of (name_of st)) (begun st)) d i n op
  pub count : n ≡ begun st + size v
  pub repeated : es ≡ before st ++ repeats v
  pub least : Least (closed st ++ repeats v) first
  pub names : Named t st i
  pub small : (start v ≤ length t) × (end v ≤ length t)

-- The names of the innermost open container, in which nothing is due yet, and of those around it.
unfoldable pub Said : Bytes → Stack → ℕ → Type 0
Said t [] b = Unit {0}
Said t (Frame.array a vs ∷ st) b = (a < length t) × Named t st b
Said t (Frame.object a ms q us ∷ st) b = (a < length t) × Spelt t ms b × Named t st b

-- Inside the innermost open container: an element or a name may come.
pub record Inside (t : Bytes) (w tab m : Words) (st : Stack) (es : List ℕ) (d i n op : ℕ) (first : Option ℕ) : Type 0 where
  pub laid : Laid t w tab m st (words st) d i n op
  pub count : n ≡ begun st
  pub repeated : es ≡ between st
  pub least : Least (closed st) first
  pub names : Said t st i

-- At the loop's head.
pub data Kept (t : Bytes) (w tab m : Words) (d i n op : ℕ) (nm first : Option ℕ) (due : Bool) : Type 0 where
  wants : due ≡ true → (st : Stack) (es : List ℕ) → Wants t w tab m st es d i n op first → Rising es i → Dense t i → nm ≡ name_of st
      → answer t ≡ first_or t es (at t (State.value st) i strict) → Kept t w tab m d i n op nm first due
  after : due ≡ false → (st : Stack) (v : Node) (es : List ℕ) → After t w tab m st v es d i n op first → Rising es i → Dense t i
      → answer t ≡ first_or t es (at t (State.after st v) i strict) → Kept t w tab m d i n op nm first due

-- Behind a bracket or a comma, in the container with the bracket `b`.
pub data Entering (t : Bytes) (w tab m : Words) (d i n op b : ℕ) (first : Option ℕ) : Type 0 where
  array : (a : ℕ) (vs : Nodes) (st : Stack) (es : List ℕ) → Inside t w tab m (Frame.array a vs ∷ st) es d i n op first → Rising es i → Dense t i → b ≡ bracket
      → answer t ≡ first_or t es (at t (State.value (Frame.array a vs ∷ st)) i strict) → Entering t w tab m d i n op b first
  object : (a : ℕ) (ms : Members) (q : ℕ) (us : Units) (st : Stack) (es : List ℕ) → Inside t w tab m (Frame.object a ms q us ∷ st) es d i n op first → Rising es i → Dense t i → b ≡ brace
      → answer t ≡ first_or t es (at t (State.member a ms st) i strict) → Entering t w tab m d i n op b first

-- The words behind the text's share of the table are as at entry.
abbrev pub Framed : Bytes → Words → Words → Type 0
Framed t w tab = (length tab ≡ length w) × (drop (record_words * length t) tab ≡ drop (record_words * length t) w)

-- The whole text is the value `v`, names apart, and its records stand.
pub record Read (t : Bytes) (w tab : Words) (v : Node) (es : List ℕ) (n : ℕ) (first : Option ℕ) : Type 0 where
  pub told : answer t ≡ first_or t es (Outcome.accepted v)
  pub rising : Rising es (length t)
  pub count : n ≡ size v
  pub few : n ≤ length t
  pub filled : tab ≡ table v ++ drop (record_words * n) w
  pub framed : Framed t w tab
  pub least : Least es first

-- It is refused as `e`, where no name is before.
pub record Broken (t : Bytes) (es : List ℕ) (e : Refusal) : Type 0 where
  pub told : answer t ≡ first_or t es (Outcome.refused (number_of e) (place_of e))
  pub rising : Rising es (length t)

-- Where the reading stops: at the end, or at a refusal outside all containers, inside the innermost one, or behind a
-- name whose value is due.
pub data Stopped (t : Bytes) (w tab m : Words) (d n op : ℕ) (first : Option ℕ) : Option Refusal → Option ℕ → Type 0 where
  read : d ≡ 0 → (v : Node) (es : List ℕ) → Read t w tab v es n first → Stopped t w tab m d n op first None None
  outside : {e : Refusal} (es : List ℕ) → Broken t es e → d ≡ 0 → n ≤ length t → Framed t w tab → Least es first → Stopped t w tab m d n op first (Some e) None
  inside : {e : Refusal} (f : Frame) (st : Stack) (es : List ℕ) (i : ℕ) → Broken t es e → Inside t w tab m (f ∷ st) es d i n op first → Stopped t w tab m d n op first (Some e) None
  named : {e : Refusal} {q : ℕ} (a : ℕ) (ms : Members) (us : Units) (st : Stack) (es : List ℕ) (i : ℕ) → Broken t es e → Wants t w tab m (Frame.object a ms q us ∷ st) es d i n op first
      → Stopped t w tab m d n op first (Some e) (Some q)

-- The same with all containers closed: `first` is the first name of all that repeats another, if one does.
pub data Settled (t : Bytes) (w tab : Words) (n : ℕ) (first : Option ℕ) : Option Refusal → Type 0 where
  read : (v : Node) (es : List ℕ) → Read t w tab v es n first → Settled t w tab n first None
  broken : {e : Refusal} (es : List ℕ) → Broken t es e → Framed t w tab → Least es first → Settled t w tab n first (Some e)

-- The container with the bracket `b` can be closed.
pub record Closable (t : Bytes) (tab : Words) (op n b : ℕ) (first : Option ℕ) : Type 0 where
  pub entry : Words
  pub marks : Words
  pub frame : Frame
  pub stack : Stack
  pub names : List ℕ
  pub depth : ℕ
  pub offset : ℕ
  pub inside : Inside t entry tab marks (frame ∷ stack) names depth offset n op first
  pub bracketed : b ≡ kind frame

-- It is closed, ending at `e`: the record around it is `up`, and `first'` the first repeated name of closed objects, if
-- there is one.
abbrev pub ClosedAt : Bytes → Words → Words → ℕ → ℕ → ℕ → ℕ → Option ℕ → ℕ → Option ℕ → Type 0
ClosedAt t tab tab' op e n b first up first' =
    (w m : Words) (f : Frame) (st : Stack) (es : List ℕ) (d i j : ℕ) → Inside t w tab m (f ∷ st) es d i n op first → b ≡ kind f → i ≤ j → j ≤ length t
    → After t w tab' m st (shut_at f e) es (d - 1) j n up first'

-- The record of a name whose value is due and may never come, where there is one.
abbrev pub Pended : Words → Words → Option ℕ → ℕ → ℕ → Type 0
Pended tab tab' None n n' = (n' ≡ n) × (tab' ≡ tab)
Pended tab tab' (Some q) n n' = (n' ≡ n + 1) × (tab' ≡ put_at tab n 0 0 q (n + 1))
