-- The bytes before `i` are written as they stand.
use Rattle.spell.specs.Strings.{Plain}
use Rattle.spell.proofs.string.plain_before.Given as goal

abbrev pub invariant-loop-i : goal.invariant-loop-i
invariant-loop-i l = Plain l.text l.from l.i
