-- What the number leaf answers.
use Prim.Native.Char.{code}
use Rattle.std.specs.Prelude.{◌<◌, ◌^◌, ◌≤◌, ℕ, eqb, length, Bool, ◌||◌, ◌≡◌, Result, Ok, Err}
use Rattle.scan.specs.Answers.{at, refused}
use Rattle.scan.specs.Refusals.{number_of, place_of}
use Rattle.scan.specs.declared.number.Written.{Written}
use Rattle.scan.specs.declared.refusal.Refusal.{Refusal}
use Rattle.text.proofs.Machine.{Stack, State}
use Rattle.text.specs.Bytes.{Bytes, is_digit}
use Rattle.text.specs.Ceilings.{max_digits, max_power}
use Rattle.text.specs.Decimal.{Decimal, normal}
use Rattle.text.specs.Node.{Node}

-- A byte that opens a number.
abbrev pub opens_number : ℕ → Bool
opens_number b = eqb b (code "-") || is_digit b

-- What a number means that is written so.
abbrev pub decimal_of : Written → Decimal
decimal_of w = normal w.negative w.coefficient w.digits w.fraction w.down w.power

-- It is within the ceilings, and its coefficient has no more digits than are written.
pub record Sized (w : Written) : Type 0 where
  pub few : w.digits ≤ max_digits
  pub part : w.fraction ≤ w.digits
  pub below : w.coefficient < 10 ^ w.digits
  pub near : w.power ≤ max_power

-- The value that begins at `i` is the number `w`.
pub record Numbered (t : Bytes) (i : ℕ) (w : Written) : Type 0 where
  pub onward : i < w.end
  pub bound : w.end ≤ length t
  pub sized : Sized w
  pub same : (st : Stack) → at t (State.value st) i ≡ at t (State.after st (Node.number i w.end (decimal_of w))) w.end

-- 01's numbers of the refusals of a number: it ends too early, a byte can't stand there, it has too many digits, or its
-- exponent has, or is out of range.
pub data Refused : ℕ → Type 0 where
  short : Refused 3
  wrong : Refused 4
  digits : Refused 6
  power : Refused 7

-- The value that begins at `i` is refused as `k` at the place `p`.
pub record Unnumbered (t : Bytes) (i k p : ℕ) : Type 0 where
  pub number : Refused k
  pub same : (st : Stack) → at t (State.value st) i ≡ refused k p

-- What each case of the leaf's answer stands for: the decimal of the number that is written there, or 01's number and
-- place of its refusal.
abbrev pub NumberAt : Bytes → ℕ → Result Written Refusal → Type 0
NumberAt t i (Ok w) = Numbered t i w
NumberAt t i (Err e) = Unnumbered t i (number_of e) (place_of e)
