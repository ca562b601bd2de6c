-- The first `i` bytes are copied.
use Rattle.spell.proofs.Putting.{copy_end, copy_more}
use lib.ListN.{length-set}
use mathlib.Core.Path.{refl}
use native.Mathlib.Omega.{arith}
use Rattle.spell.proofs.word.put_word.Goals as goal

pub loop-i-init : goal.loop-i-init
loop-i-init c = (refl, refl)

pub loop-i-preserved : goal.loop-i-preserved
loop-i-preserved c = (simp length-set (omega arith), rw c.loop-i.invariant.1 (copy_more _ _ c.loop-i.i (omega arith) (omega arith)))

pub returns : goal.returns
returns c = record { put = copy_end _ _ (omega arith) c.loop-i.invariant.1 }
