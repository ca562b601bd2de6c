-- The bytes before `i` are copied.
use Prim.Native.Nat.{◌-◌}
use Rattle.spell.specs.Strings.{Copied}
use Rattle.spell.proofs.string.put_plain.Given as goal

abbrev pub invariant-loop-i : goal.invariant-loop-i
invariant-loop-i l = Copied l.text l.from l.i l.initial.out (l.i - l.from) l.out
