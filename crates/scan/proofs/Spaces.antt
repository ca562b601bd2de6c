-- Whitespace leaves a spaced state as it is, and so the answer.
use Prim.Native.Char.{code}
use Prim.Native.Nat.{◌+◌, ◌<◌, ◌≤◌, ℕ}
use Rattle.scan.proofs.Steps.{step}
use Rattle.scan.specs.Answers.{shut}
use Rattle.scan.specs.Space.{Skipped, Spaced}
use Rattle.text.proofs.Machine.{Frame, State, after_move, member_move, move, other_move, value_move}
use Rattle.text.proofs.Run.{Took}
use Rattle.text.proofs.Tests.{space_not}
use Rattle.text.specs.Bytes.{Bytes, is_nonzero, is_space}
use lib.Dec.{T, eqb}
use lib.ListN.{get_or, length}
use mathlib.Core.List.{[], ◌∷◌}
use mathlib.Core.Path.{◌∙◌, refl}
use native.Mathlib.Omega.{arith}

stays : {s : State} → Spaced s → (n b : ℕ) → T (is_space b) → Took shut (move s n b) s
unfolding move value_move other_move member_move after_move
stays Spaced.value n b p =
    Took.no (space_not is_nonzero b p tt tt tt tt) (Took.no (space_not (λ b. eqb b (code "-")) b p tt tt tt tt) (Took.no (space_not (λ b. eqb b (code "0")) b p tt tt tt tt) (Took.yes p Took.go)))
stays Spaced.array n b p = Took.yes p Took.go
stays Spaced.object n b p = Took.yes p Took.go
stays (Spaced.after {st = []}) n b p = Took.yes p Took.go
stays (Spaced.after {st = Frame.array a vs ∷ st}) n b p = Took.yes p Took.go
stays (Spaced.after {st = Frame.object a ms q us ∷ st}) n b p = Took.yes p Took.go
stays Spaced.member n b p = Took.yes p Took.go
stays Spaced.named n b p = Took.yes p Took.go

pub skipped_none : (t : Bytes) (i : ℕ) → i ≤ length t → Skipped t i i
skipped_none t i h = record { onward = omega arith; inside = h; same = λ s q. refl }

pub skipped_more : (t : Bytes) (i r : ℕ) → Skipped t i r → r < length t → T (is_space (get_or t r 0)) → Skipped t i (r + 1)
skipped_more t i r k h p =
    record {
      onward = omega (arith, k.onward);
      inside = omega (arith, h);
      same = λ s q. k.same s q ∙ step t s r h (stays q r (get_or t r 0) p);
    }
