-- The `k` exponent digits before `i` come to `e`, and each of them was allowed to stand there.
use Rattle.scan.proofs.Counts.{powered_end, powered_many, powered_one}
use Rattle.scan.proofs.Numerals.{no_digit}
use Rattle.scan.proofs.Steps.{fails, holds}
use lib.ListN.{length}
use mathlib.Core.Path.{◌≡◌}
use native.Mathlib.Omega.{arith}
use Rattle.scan.proofs.power.power_rest.Goals as goal

pub returns-then-not-is_digit : goal.returns-then-not-is_digit
returns-then-not-is_digit c = record { part = rw c.ended.ensures (powered_end _ _ _ _ _ _ _ _ c.loop-i.invariant (fails _ _ c.is_digit.ensures c.if-not-is_digit.true)) }

pub returns-then-not-may_pass : goal.returns-then-not-may_pass
returns-then-not-may_pass c =
    record {
      part =
          powered_many _ _ _ _ _ _ _ _ c.loop-i.invariant c.loop-i-test.true (holds _ _ c.is_digit.ensures c.if-not-is_digit.false)
          (rw (← c.from.ensures) (fails _ _ c.may_pass.ensures.0 c.if-not-may_pass.true));
    }

pub loop-i-preserved : goal.loop-i-preserved
loop-i-preserved c =
    rw c.from.ensures
    (powered_one _ _ _ _ _ _ _ _ c.loop-i.invariant c.loop-i-test.true (holds _ _ c.is_digit.ensures c.if-not-is_digit.false)
    (rw (← c.from.ensures) (holds _ _ c.may_pass.ensures.0 c.if-not-may_pass.false)) (c.may_pass.ensures.1 c.if-not-may_pass.false))

pub returns : goal.returns
returns c =
    record {
      part =
          let e : length c.args.text.now ≡ c.loop-i.i = omega arith in
          rw (c.ended-2.ensures, e) (powered_end _ _ _ _ _ _ _ _ c.loop-i.invariant (no_digit _ _ c.loop-i-test.false));
    }
