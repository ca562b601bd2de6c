use lib.ListN.{length}
use Rattle.lookup.proofs.Walking.{Walked}
use Prim.Native.Nat.{◌-◌}
use Rattle.lookup.proofs.find.resolve.Given as goal

abbrev pub invariant-loop-i : goal.invariant-loop-i
invariant-loop-i l = Walked l.text l.table l.pointer l.r l.i

abbrev pub decreases-loop-i : goal.decreases-loop-i
decreases-loop-i l = length l.pointer - l.i
