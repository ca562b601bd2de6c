-- Eight at a time and then one by one, everything before `i` is read.
use Rattle.scan.proofs.Over.{over_eights}
use Rattle.scan.proofs.Steps.{holds}
use Rattle.scan.proofs.StringLaws.{plain_one, read_none, then}
use Rattle.scan.specs.Strings.{Read}
use Rattle.std.proofs.Common.{rules}
use native.Mathlib.Omega.{arith}
use Rattle.scan.proofs.string.plain_run.Goals as goal

pub returns-then-not-is_plain-clause-read : goal.returns-then-not-is_plain-clause-read
returns-then-not-is_plain-clause-read c = (omega arith, omega arith, read_none _ _)

pub loop-i-init : goal.loop-i-init
loop-i-init c = (omega arith, omega arith, over_eights (Read c.args.text.now c.args.from) (read_none _ _) (λ j p r. then r (search rules)) c.eights-i.ensures.passed)

pub loop-i-preserved : goal.loop-i-preserved
loop-i-preserved c =
    (omega arith, omega arith, then c.loop-i.invariant.2 (plain_one _ _ c.loop-i-test.true (holds _ _ c.is_plain-in-loop-i.ensures c.if-not-is_plain-2.false)))
