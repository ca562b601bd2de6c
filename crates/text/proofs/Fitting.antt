-- What is true of the machine's states on the way through a text, as far as numbers and their ceilings go.
use Prim.Native.Nat.{◌<◌, ◌≤◌, suc, ℕ}
use Rattle.text.proofs.Machine.{Numeral, Stack, State}
use Rattle.text.specs.Ceilings.{Ceilings, Gate, max_digits, max_power_digits}
use Rattle.text.specs.Numbers.{Allowed}
use lib.Dec.{T}
use mathlib.Core.Bool.{Bool, false, not, true}

-- What ceilings have to be like for the machine to refuse no byte too soon: fewer digits may always stand, and where
-- a fourth exponent digit may stand, any exponent may.
pub record Sane (C : Ceilings) : Type 0 where
  pub fewer : (n m : ℕ) → n ≤ m → T (C (Gate.digits m)) → T (C (Gate.digits n))
  pub longer : (c n f : ℕ) (s : Bool) (e k e' k' : ℕ) → max_power_digits < k → T (C (Gate.power c n f s e k)) → T (C (Gate.power c n f s e' k'))

-- The numbers that are met: what has been read of one may stand as it is, or behind one digit more.
pub data Fits (C : Ceilings) : Numeral → Type 0 where
  minus : Fits C Numeral.minus
  zero : {neg : Bool} → Allowed C 0 1 0 false 0 0 → Fits C (Numeral.zero neg)
  whole : {neg : Bool} {c n : ℕ} → n ≤ suc max_digits → Allowed C c n 0 false 0 0 → Fits C (Numeral.whole neg c n)
  point : {neg : Bool} {c n : ℕ} → n ≤ max_digits → T (C (Gate.digits (suc n))) → Fits C (Numeral.point neg c n)
  fraction : {neg : Bool} {c n f : ℕ} → n ≤ suc max_digits → f ≤ n → Allowed C c n f false 0 0 → Fits C (Numeral.fraction neg c n f)
  mark : {neg : Bool} {c n f : ℕ} → n ≤ suc max_digits → f ≤ n → T (C (Gate.digits n)) → Fits C (Numeral.mark neg c n f)
  sign : {neg s : Bool} {c n f : ℕ} → n ≤ suc max_digits → f ≤ n → T (C (Gate.digits n)) → Fits C (Numeral.sign neg c n f s)
  power : {neg s : Bool} {c n f e k : ℕ} → n ≤ suc max_digits → f ≤ n → 1 ≤ k → (k < 2 → e ≤ 9) → Allowed C c n f s e k → Fits C (Numeral.power neg c n f s e k)

unfoldable pub is_number : State → Bool
is_number (State.number ns p st) = true
is_number (State.value st) = false
is_number (State.array a st) = false
is_number (State.object a st) = false
is_number (State.after st v) = false
is_number (State.literal k ks v a st) = false
is_number (State.chars u us) = false
is_number (State.escape u us) = false
is_number (State.hex l a u us) = false
is_number (State.member a ms st) = false
is_number (State.named q us a ms st) = false

-- A state that is met.
pub data Fitting (C : Ceilings) : State → Type 0 where
  other : {s : State} → T (not (is_number s)) → Fitting C s
  number : {ns : Numeral} {p : ℕ} {st : Stack} → Fits C ns → Fitting C (State.number ns p st)
