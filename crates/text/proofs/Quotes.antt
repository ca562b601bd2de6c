-- A string's characters, as the machine goes over them to the closing quote, and as the text has them.
use Prim.Native.Nat.{suc, zero, ℕ}
use Rattle.text.proofs.Machine.{State, Use, close_move, hex_state, move, onto}
use Rattle.text.proofs.Run.{Fault, Run, Took}
use Rattle.text.proofs.Sources.{At, at_drop, chars_at}
use Rattle.text.proofs.Step.{from_zero, high≢plain}
use Rattle.text.specs.Bytes.{Bytes, Source, Units, from}
use Rattle.text.specs.Ceilings.{Ceilings}
use Rattle.text.specs.Strings.{Chars, Escape, Is}
use Rattle.text.specs.Verdict.{Outcome}
use lib.ListN.{drop}
use mathlib.Core.List.{◌∷◌}

-- The offset of the last byte before a source.
abbrev last : Source → ℕ
last (from zero i) = 0
last (from (suc p) i) = p

-- From a source on, the machine is refused with the number `k` at the last byte before another.
abbrev Stops : Ceilings → State → Source → ℕ → Source → Type 0
Stops C s (from n i) k o = Run C s n i (Outcome.refused k (last o))

module _ {C : Ceilings} where
  unit_is : {x y n : ℕ} {i : Bytes} {u : Use} {us : Units} {a : Outcome} → Is x y → Run C (State.chars u (y ∷ us)) n i a → Run C (State.chars u (x ∷ us)) n i a
  unit_is Is.is ρ = ρ

  -- A closing quote that may not stand is where the machine stops.
  mutual
    unfolding move onto hex_state

    pub chars_stop : {k : ℕ} {i o : Source} {us : Units} (u : Use) (l : Units) → Chars C i o us → Fault C (close_move u (onto l us) (last o)) k → Stops C (State.chars u l) i k o
    chars_stop u l Chars.close f = Run.off (Fault.no tt (Fault.no tt (Fault.yes tt f)))
    chars_stop u l (Chars.plain {b = b} t x) f = Run.on (Took.yes t Took.go) (chars_stop u (b ∷ l) x f)
    chars_stop u l (Chars.high {b = b} t g x) f = Run.on (Took.no (high≢plain b t) (Took.yes t (Took.ask g))) (chars_stop u (b ∷ l) x f)
    chars_stop u l (Chars.escape x) f = Run.on (Took.no tt (Took.no tt (Took.no tt (Took.yes tt Took.go)))) (escape_stop u l x f)

    escape_stop : {k : ℕ} {i o : Source} {us : Units} (u : Use) (l : Units) → Escape C i o us → Fault C (close_move u (onto l us) (last o)) k → Stops C (State.escape u l) i k o
    escape_stop u l (Escape.short {u = y} t e x) f = Run.on (Took.yes t Took.go) (unit_is e (chars_stop u (y ∷ l) x f))
    escape_stop u l (Escape.unit {a = a} {b = b} {c = c} {d = d} {u = y} s₁ s₂ s₃ s₄ e x) f =
        Run.on (Took.no tt (Took.yes tt Took.go))
        (Run.on (Took.yes s₁ Took.go) (Run.on (Took.yes s₂ Took.go) (Run.on (Took.yes s₃ Took.go) (Run.on (Took.yes s₄ Took.go) (unit_is (from_zero a b c d e) (chars_stop u (y ∷ l) x f))))))

-- A string that begins inside a text is one of it.
pub in_text : {t : Bytes} {C : Ceilings} {n m : ℕ} {i o : Bytes} {us : Units} → Chars C (from n i) (from m o) us → At t (from n i) → Chars C (from n (drop n t)) (from m (drop m t)) us
in_text {t} x a = rw (at_drop a, at_drop (chars_at t x a)) at x
