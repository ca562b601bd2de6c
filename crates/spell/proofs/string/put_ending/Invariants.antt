-- All but what is written from `i` on stands in the first `p` bytes of the output.
use Prim.Native.Nat.{◌-◌, ◌≤◌}
use Rattle.spell.proofs.StringLaws.{Upto}
use Rattle.spell.specs.Strings.{ending}
use lib.ListN.{length}
use Rattle.spell.proofs.string.put_ending.Given as goal

abbrev pub invariant-loop-u : goal.invariant-loop-u
invariant-loop-u l = (l.i ≤ length l.text) × Upto (ending l.text l.from) l.text l.i l.initial.out l.p l.out

abbrev pub decreases-loop-u : goal.decreases-loop-u
decreases-loop-u l = length l.text - l.i
