-- Names that stand twice in one object, said of texts and values alone. 01 "The answer and its numbers", consequences.
use Prim.Native.Nat.{suc, ℕ}
use Rattle.text.specs.Bytes.{Bytes, Units, from}
use Rattle.text.specs.Ceilings.{among, house, without}
use Rattle.text.specs.Grammar.{Text}
use Rattle.text.specs.Node.{Members, Node, Nodes}
use Rattle.text.specs.Strings.{Chars}
use Rattle.text.specs.Verdict.{Viable}
use lib.Dec.{T}
use lib.ListN.{drop, take}
use mathlib.Core.List.{List, [], ◌++◌, ◌∷◌}

mutual
  -- Somewhere in a value the member whose name's opening quote stands at `q` has the name `us`, and a member before it
  -- in the same object has that name too.
  pub data Twice (q : ℕ) (us : Units) : Node → Type 0 where
    array : {a e : ℕ} {vs : Nodes} → TwiceAll q us vs → Twice q us (Node.array a e vs)
    object : {a e : ℕ} {ms : Members} → TwiceMembers q us [] ms → Twice q us (Node.object a e ms)

  -- In one of these values.
  pub data TwiceAll (q : ℕ) (us : Units) : Nodes → Type 0 where
    first : {v : Node} {vs : Nodes} → Twice q us v → TwiceAll q us (Nodes.cons v vs)
    next : {v : Node} {vs : Nodes} → TwiceAll q us vs → TwiceAll q us (Nodes.cons v vs)

  -- Among these members, where the names `ns` stand before them, or inside the value of one.
  pub data TwiceMembers (q : ℕ) (us : Units) : List Units → Members → Type 0 where
    here : {ns : List Units} {v : Node} {ms : Members} → T (among us ns) → TwiceMembers q us ns (Members.member q us v ms)
    inside : {ns : List Units} {k : ℕ} {n : Units} {v : Node} {ms : Members} → Twice q us v → TwiceMembers q us ns (Members.member k n v ms)
    later : {ns : List Units} {k : ℕ} {n : Units} {v : Node} {ms : Members} → TwiceMembers q us (n ∷ ns) ms → TwiceMembers q us ns (Members.member k n v ms)

-- In the text `t` the bytes behind the opening quote at `q` are characters that mean `us`, and the closing quote stands at
-- `P`. (That a quote stands at `q` follows below: `NamesTwice#opening-quote`.)
abbrev pub Closes : Bytes → ℕ → Units → ℕ → Type 0
Closes t q us P = Chars house (from (suc q) (drop (suc q) t)) (from (suc P) (drop (suc P) t)) us

-- At `P` a repeated name closes: some continuation makes a text of what stands before `P`; the string at `q` closes at
-- `P`; and where names are not judged, the bytes up to and with that quote go on to a text, in whose value the string is a
-- member's name that stood before.
pub record Repeated (t : Bytes) (P : ℕ) : Type 0 where
  pub q : ℕ
  pub us : Units
  pub w : Bytes
  pub v : Node
  pub viable : Viable house (take P t)
  pub closes : Closes t q us P
  pub text : Text (without 8 house) (take (suc P) t ++ w) v
  pub twice : Twice q us v
