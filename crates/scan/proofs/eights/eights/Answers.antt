-- Up to `i` each eight passed.
use Rattle.scan.specs.Eights.{Eights}
use native.Mathlib.Omega.{arith}
use Rattle.scan.proofs.eights.eights.Goals as goal

pub loop-i-init : goal.loop-i-init
loop-i-init g c = (omega arith, c.requires.ordered, Eights.none)

pub passes-requires : goal.passes-requires
passes-requires g c = c.requires.tested _ (omega arith) (omega arith)

pub loop-i-preserved : goal.loop-i-preserved
loop-i-preserved g c = (omega arith, omega arith, Eights.more c.loop-i.invariant.2 (rw c.if-not-passes.false at c.passes.ensures))
