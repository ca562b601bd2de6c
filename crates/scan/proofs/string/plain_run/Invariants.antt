-- Eight at a time and then one by one, everything before `i` is read.
use Rattle.scan.specs.Strings.{ReadTo}
use Rattle.scan.proofs.string.plain_run.Given as goal

abbrev pub invariant-loop-i : goal.invariant-loop-i
invariant-loop-i l = ReadTo l.text l.from l.i
