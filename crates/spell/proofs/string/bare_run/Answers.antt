use Rattle.std.proofs.Common.{rules}
use Rattle.scan.proofs.Over.{over_eights}
use Rattle.spell.specs.Strings.{Plain}
use Rattle.spell.proofs.StringLaws.{plain_none, plain_then}
use native.Mathlib.Omega.{arith}
use Rattle.spell.proofs.string.bare_run.Goals as goal

pub returns : goal.returns
returns c = record {
  plain =
      plain_then _
      (over_eights (Plain c.args.text.now c.args.from) (plain_none _ _ (omega arith)) (λ j p r. plain_then _ r (search rules)) c.eights-i.ensures.passed)
      c.plain_before.ensures.plain;
}
