-- The first `i` bytes are copied.
use Rattle.spell.proofs.Putting.{copied}
use lib.ListN.{length}
use mathlib.Core.Path.{◌≡◌}
use Rattle.spell.proofs.word.put_word.Given as goal

abbrev pub invariant-loop-i : goal.invariant-loop-i
invariant-loop-i l = (length l.out ≡ length l.initial.out) × (l.out ≡ copied l.word l.initial.out l.i)
