-- Eight at a time and then one by one, the bytes before `i` decide nothing.
use Rattle.names.specs.Steps.{Alike}
use Rattle.names.proofs.alike.alike.Given as goal

abbrev pub invariant-loop-i : goal.invariant-loop-i
invariant-loop-i l = Alike l.a l.b 0 l.i
