-- The characters from `from` up to `i` take `n` bytes.
use Prim.Native.Nat.{◌*◌, ◌+◌, ◌-◌, ◌≤◌}
use Rattle.spell.specs.Strings.{ending}
use lib.ListN.{length}
use mathlib.Core.Path.{◌≡◌}
use Rattle.spell.proofs.string.ending_length.Given as goal

abbrev pub invariant-loop-u : goal.invariant-loop-u
invariant-loop-u l = (l.i ≤ length l.text) × (l.n ≤ 6 * l.i) × (l.n + length (ending l.text l.i) ≡ length (ending l.text l.from))

abbrev pub decreases-loop-u : goal.decreases-loop-u
decreases-loop-u l = length l.text - l.i
