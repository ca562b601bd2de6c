-- The first fault from `i` on is the pointer's first.
use Rattle.lookup.proofs.Faults.{fault_of, left_from}
use Rattle.meaning.proofs.Pointers.{check_within}
use Rattle.meaning.specs.Pointer.{max_pointer}
use mathlib.Core.Path.{◌≡◌}
use Prim.Native.Nat.{◌+◌, ◌-◌, ◌≤◌}
use Rattle.lookup.proofs.pointer.check.Given as goal

abbrev pub invariant-loop-i : goal.invariant-loop-i
invariant-loop-i l = (l.i ≤ max_pointer + 1) × (fault_of (check_within max_pointer l.pointer) ≡ left_from max_pointer l.pointer l.i)

abbrev pub decreases-loop-i : goal.decreases-loop-i
decreases-loop-i l = max_pointer + 1 - l.i
