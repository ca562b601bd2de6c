-- What a fixed word does to the answer.
use Rattle.std.specs.Prelude.{◌+◌, ℕ, drop, [], ◌∷◌, ◌≡◌, Result}
use Rattle.scan.specs.Answers.{Leaf, at, refused}
use Rattle.scan.specs.declared.refusal.Refusal.{Refusal}
use Rattle.text.proofs.Machine.{Stack, State}
use Rattle.text.specs.Bytes.{Bytes}
use Rattle.text.specs.Node.{Literal, Node}

-- The state at `q` where the bytes `ks` of the word `v` that began at `a` are still wanted.
unfoldable pub due : Bytes → Literal → ℕ → Stack → ℕ → State
due [] v a st q = State.after st (Node.literal a q v)
due (k ∷ ks) v a st q = State.literal k ks v a st

-- The first byte of `w` stands at `i`; behind it the others are wanted, and all are read, or the text is refused.
abbrev pub WordAt : Bytes → Bytes → ℕ → Result ℕ Refusal → Type 0
WordAt t w i =
    Leaf t i
    (λ j. (v : Literal) (a : ℕ) (st : Stack) → at t (due (drop 1 w) v a st (i + 1)) (i + 1) ≡ at t (State.after st (Node.literal a j v)) j)
    (λ k p. (v : Literal) (a : ℕ) (st : Stack) → at t (due (drop 1 w) v a st (i + 1)) (i + 1) ≡ refused k p)
