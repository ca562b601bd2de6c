-- The eights decide nothing.
use Rattle.names.specs.Steps.{Alike}
use Rattle.scan.proofs.Over.{over_eights}
use Rattle.std.proofs.Common.{rules}
use mathlib.Core.Path.{◌∙◌, refl}
use Rattle.names.proofs.alike.alike.Goals as goal

pub loop-i-init : goal.loop-i-init
loop-i-init c = over_eights (Alike c.args.a.now c.args.b.now 0) refl (λ j p r. r ∙ search rules) c.eights-i.ensures.passed
