-- The digits up to `i` are counted in `d`.
use mathlib.Core.Path.{◌≡◌}
use Rattle.scan.specs.Numerals.{Counted}
use Rattle.scan.proofs.run.digits_at.Given as goal

abbrev pub invariant-loop-i : goal.invariant-loop-i
invariant-loop-i l = Counted l.text l.fn.before l.d × (l.d.end ≡ l.i)
