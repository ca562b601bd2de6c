use Rattle.scan.proofs.Over.{over_eight}
use Rattle.scan.proofs.Steps.{holds}
use Rattle.scan.proofs.StringLaws.{plain_one, read_none, then}
use Rattle.scan.specs.Strings.{Read}
use Rattle.std.proofs.Common.{rules}
use mathlib.Core.Path.{refl}
use native.Mathlib.Omega.{arith}
use Rattle.scan.proofs.string.plain_eight.Goals as goal

pub returns : goal.returns
returns c = record {
  read =
      λ e.
      over_eight (Read c.args.text.now c.args.i) (read_none _ _)
      (λ k l m r. let p = c.eight.ensures.passed e k l m in then r (plain_one _ _ (omega arith) (holds _ _ refl (search rules))));
}
