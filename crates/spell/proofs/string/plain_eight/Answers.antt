use Rattle.scan.proofs.Over.{over_eight}
use Rattle.spell.proofs.StringLaws.{plain_none, plain_one, plain_then}
use Rattle.spell.specs.Strings.{Plain}
use Rattle.std.proofs.Common.{rules}
use native.Mathlib.Omega.{arith}
use Rattle.spell.proofs.string.plain_eight.Goals as goal

pub returns : goal.returns
returns c = record {
  plain =
      λ e.
      over_eight (Plain c.args.text.now c.args.i) (plain_none _ _ (omega arith))
      (λ k l m r. let p = c.eight.ensures.passed e k l m in plain_then _ r (plain_one _ _ (omega arith) (search rules)));
}
