-- What the coefficient is without its last zeros stays the same as they are taken off, and so does their number with
-- those that are off.
use Prim.Native.Nat.{◌+◌, ◌-◌}
use Rattle.text.specs.Decimal.{strip, zeros}
use mathlib.Core.Path.{◌≡◌}
use Rattle.scan.proofs.exponent.strip.Given as goal

abbrev pub invariant-loop-zeros : goal.invariant-loop-zeros
invariant-loop-zeros l =
    (strip l.digits l.coefficient ≡ strip (l.digits - l.zeros) l.c) × (zeros l.digits l.coefficient ≡ l.zeros + zeros (l.digits - l.zeros) l.c)
