-- Everything before `i` is read and no plain character stands there, so the byte at `i` decides: quote, escape or refusal.
use Rattle.scan.specs.Strings.{NotPlain, ReadTo}
use lib.ListN.{length}
use Prim.Native.Nat.{◌-◌}
use Rattle.scan.proofs.string.string_at.Given as goal

abbrev pub invariant-loop-i : goal.invariant-loop-i
invariant-loop-i l = record { read : ReadTo l.text l.from l.i; stops : NotPlain l.text l.i }

abbrev pub decreases-loop-i : goal.decreases-loop-i
decreases-loop-i l = length l.text - l.i
