-- What stands behind a value, and what the end of the text does to the answer.
use Prim.Native.Char.{code}
use Prim.Native.Nat.{ℕ, ◌+◌, ◌<◌, ◌≤◌}
use Rattle.reader.proofs.Tokens.{took_at}
use Rattle.reader.specs.Stacks.{kind, shut_at}
use Rattle.scan.proofs.Steps.{differs, fail, fails, finish, short}
use Rattle.scan.specs.Answers.{Judge, at, refused}
use Rattle.text.proofs.Machine.{Frame, Stack, State, after_move, move, onto_members, onto_nodes}
use Rattle.text.proofs.Run.{Done, Fault, Took, is_done}
use Rattle.text.specs.Bytes.{Bytes, is_space}
use Rattle.text.specs.Node.{Members, Node, Nodes}
use Rattle.text.specs.Verdict.{Outcome}
use lib.Dec.{T}
use lib.ListN.{get_or, length}
use mathlib.Core.Bool.{false, not}
use mathlib.Core.List.{[], ◌∷◌}
use mathlib.Core.Path.{◌≡◌, sym, refl}
use native.Mathlib.Numerals.{add-one}

-- The innermost open container with one value more.
unfoldable pub joined : Frame → Node → Frame
joined (Frame.array a vs) v = Frame.array a (Nodes.cons v vs)
joined (Frame.object a ms q us) v = Frame.object a (Members.member q us v ms) q us

-- What is due inside it.
unfoldable pub due_in : Frame → Stack → State
due_in (Frame.array a vs) st = State.value (Frame.array a vs ∷ st)
due_in (Frame.object a ms q us) st = State.member a ms st

module _ (t : Bytes) (i : ℕ) (h : i < length t) where
  abbrev here : ℕ
  here = get_or t i 0

  pub comma : (f : Frame) (st : Stack) (v : Node) → here ≡ code "," → at t (State.after (f ∷ st) v) i ≡ at t (due_in (joined f v) st) (i + 1)
  unfolding move after_move joined due_in
  comma (Frame.array a vs) st v e = took_at t i h (code ",") (State.after (Frame.array a vs ∷ st) v) (State.value (Frame.array a (Nodes.cons v vs) ∷ st)) e (Took.no tt (Took.no tt (Took.yes tt Took.go)))
  comma (Frame.object a ms q us) st v e =
      took_at t i h (code ",") (State.after (Frame.object a ms q us ∷ st) v) (State.member a (Members.member q us v ms) st) e (Took.no tt (Took.no tt (Took.yes tt Took.go)))

  pub closes : (f : Frame) (st : Stack) (v : Node) → here ≡ kind f + 2 → at t (State.after (f ∷ st) v) i ≡ at t (State.after st (shut_at (joined f v) (i + 1))) (i + 1)
  unfolding move after_move joined kind shut_at onto_nodes onto_members
  closes (Frame.array a vs) st v e =
      took_at t i h (code "]") (State.after (Frame.array a vs ∷ st) v) (State.after st (Node.array a (i + 1) (onto_nodes vs (Nodes.cons v Nodes.nil)))) e (rw (add-one i) (Took.no tt (Took.yes tt Took.go)))
  closes (Frame.object a ms q us) st v e =
      took_at t i h (code "}") (State.after (Frame.object a ms q us ∷ st) v) (State.after st (Node.object a (i + 1) (onto_members ms (Members.member q us v Members.empty)))) e (rw (add-one i) (Took.no tt (Took.yes tt Took.go)))

  module _ (w : is_space here ≡ false) where
    not_space : T (not (is_space here))
    not_space = fails false _ (sym w) refl

    pub wrong_inside : (f : Frame) (st : Stack) (v : Node) → (here ≡ code "," → ⊥) → (here ≡ kind f + 2 → ⊥) → at t (State.after (f ∷ st) v) i ≡ refused 4 i
    unfolding move after_move kind
    wrong_inside (Frame.array a vs) st v f g = fail t (State.after (Frame.array a vs ∷ st) v) i h (Fault.no not_space (Fault.no (differs _ _ g) (Fault.no (differs _ _ f) Fault.bad)))
    wrong_inside (Frame.object a ms q us) st v f g = fail t (State.after (Frame.object a ms q us ∷ st) v) i h (Fault.no not_space (Fault.no (differs _ _ g) (Fault.no (differs _ _ f) Fault.bad)))

    pub wrong_outside : (v : Node) → at t (State.after [] v) i ≡ refused 4 i
    unfolding move after_move
    wrong_outside v = fail t (State.after [] v) i h (Fault.no not_space Fault.bad)

-- At the end of the text.
module _ (t : Bytes) (i : ℕ) (h : length t ≤ i) where
  pub value_short : (st : Stack) → at t (State.value st) i ≡ refused 3 i
  unfolding is_done
  value_short st = short t (State.value st) i h tt

  pub after_short : (f : Frame) (st : Stack) (v : Node) → at t (State.after (f ∷ st) v) i ≡ refused 3 i
  unfolding is_done
  after_short f st v = short t (State.after (f ∷ st) v) i h tt

  pub all_read : (v : Node) → at t (State.after [] v) i ≡ (λ (f : Judge). Outcome.accepted v)
  all_read v = finish t (State.after [] v) i h Done.after
