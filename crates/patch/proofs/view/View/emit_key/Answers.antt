use Rattle.patch.proofs.Steps.{key_counted, key_few}
use native.Mathlib.Omega.{arith}
use Rattle.patch.proofs.view.View.emit_key.Goals as goal

pub overflow_add-result-2 : goal.overflow_add-result-2
overflow_add-result-2 c = omega (arith, key_few _ _ _ c.args.mark c.requires.0 c.requires.1 c.requires.2)

pub returns : goal.returns
returns c = record { emitted = search key_counted }
