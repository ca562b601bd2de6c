-- What the digits from `i` on come to behind `value`, all of them come to.
use Rattle.lookup.specs.Reading.{DigitsFrom}
use Rattle.members.specs.Records.{max_records}
use Rattle.std.specs.Prelude.{Option}
use lib.ListN.{length}
use Prim.Native.Nat.{ℕ, ◌-◌, ◌<◌}
use Rattle.lookup.proofs.token.index_from.Given as goal

abbrev pub invariant-loop-u : goal.invariant-loop-u
invariant-loop-u l = (l.value < max_records) × ((r : Option ℕ) → DigitsFrom l.token l.i l.value r → DigitsFrom l.token l.from l.first r)

abbrev pub decreases-loop-u : goal.decreases-loop-u
decreases-loop-u l = length l.token - l.i
