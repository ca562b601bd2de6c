-- What each byte of a fixed word does to the answer.
use Prim.Native.Nat.{◌+◌, ◌<◌, ◌≤◌, ℕ}
use Rattle.scan.proofs.Steps.{differs, fail, short, step}
use Rattle.scan.specs.Answers.{at, refused}
use Rattle.scan.specs.Words.{due}
use Rattle.text.proofs.Machine.{Stack, State, move, word_state}
use Rattle.text.proofs.Run.{Fault, Took, is_done}
use Rattle.text.specs.Bytes.{Bytes}
use Rattle.text.specs.Node.{Literal, Node}
use lib.Dec.{eqb_refl}
use lib.ListN.{drop, drop_of_length-le, get_or, length}
use lib.Seq.{drop-cons}
use mathlib.Core.List.{[], ◌∷◌}
use mathlib.Core.Path.{◌∙◌, ◌≡◌, ap, refl, sym}
use native.Mathlib.Numerals.{add-one}
use native.Mathlib.Omega.{arith}

due_word : (ks : Bytes) (v : Literal) (a : ℕ) (st : Stack) (i : ℕ) → word_state ks v a st i ≡ due ks v a st (i + 1)
unfolding word_state due
due_word [] v a st i = ap (λ n. State.after st (Node.literal a n v)) (sym (add-one i))
due_word (k ∷ ks) v a st i = refl

-- Behind the first `k` bytes of the word `w`, which stand from `i` on, its others are wanted.
abbrev pub Upto : Bytes → Bytes → ℕ → ℕ → Type 0
Upto t w i k = (v : Literal) (a : ℕ) (st : Stack) → at t (due (drop 1 w) v a st (i + 1)) (i + 1) ≡ at t (due (drop k w) v a st (i + k)) (i + k)

module _ (t w : Bytes) (i k : ℕ) (u : Upto t w i k) where
  wanted : k < length w → (v : Literal) (a : ℕ) (st : Stack) → at t (due (drop 1 w) v a st (i + 1)) (i + 1) ≡ at t (State.literal (get_or w k 0) (drop (k + 1) w) v a st) (i + k)
  unfolding due
  wanted h v a st = u v a st ∙ rw (add-one k, drop-cons w k 0 h)

  pub word_more : k < length w → i + k < length t → get_or t (i + k) 0 ≡ get_or w k 0 → Upto t w i (k + 1)
  unfolding move
  word_more h l e v a st =
      let j : i + (k + 1) ≡ i + k + 1 = omega arith in
      rw j (wanted h v a st ∙ step t _ (i + k) l (Took.yes (rw e (eqb_refl (get_or w k 0))) Took.go) ∙ ap (λ s. at t s (i + k + 1)) (due_word (drop (k + 1) w) v a st (i + k)))

  pub word_wrong : k < length w → i + k < length t → (get_or t (i + k) 0 ≡ get_or w k 0 → ⊥) → (v : Literal) (a : ℕ) (st : Stack) → at t (due (drop 1 w) v a st (i + 1)) (i + 1) ≡ refused 4 (i + k)
  unfolding move
  word_wrong h l f v a st = wanted h v a st ∙ fail t _ (i + k) l (Fault.no (differs _ _ f) Fault.bad)

  pub word_short : k < length w → length t ≤ i + k → (v : Literal) (a : ℕ) (st : Stack) → at t (due (drop 1 w) v a st (i + 1)) (i + 1) ≡ refused 3 (i + k)
  unfolding is_done
  word_short h l v a st = wanted h v a st ∙ short t _ (i + k) l tt

  pub word_end : length w ≤ k → (v : Literal) (a : ℕ) (st : Stack) → at t (due (drop 1 w) v a st (i + 1)) (i + 1) ≡ at t (State.after st (Node.literal a (i + k) v)) (i + k)
  unfolding due
  word_end h v a st = u v a st ∙ ap (λ l. at t (due l v a st (i + k)) (i + k)) (drop_of_length-le w h)
