-- Each turn stores the last digit of what is left, before the digits stored so far.
use Rattle.spell.proofs.Filling.{Filling}
use Rattle.spell.proofs.digits.put_digits.Given as goal

abbrev pub invariant-loop-i : goal.invariant-loop-i
invariant-loop-i l = Filling l.c l.initial.out l.d l.i l.out
