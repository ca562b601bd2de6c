-- Up to `i` each eight passed.
use Prim.Native.Nat.{◌-◌, ◌≤◌}
use Rattle.scan.specs.Eights.{Eights}
use mathlib.Core.Bool.{true}
use Rattle.scan.proofs.eights.eights.Given as goal

abbrev pub invariant-loop-i : goal.invariant-loop-i
invariant-loop-i g l = (l.from ≤ l.i) × (l.i ≤ l.end) × Eights (λ j. goal.F-post g l.passes j true) l.from l.i

abbrev pub decreases-loop-i : goal.decreases-loop-i
decreases-loop-i g l = l.end - l.i
