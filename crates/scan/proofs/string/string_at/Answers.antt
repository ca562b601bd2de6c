-- Everything before `i` is read and no plain character stands there, so the byte at `i` decides: quote, escape or refusal.
use Rattle.scan.proofs.Steps.{passed_on}
use Rattle.scan.proofs.StringLaws.{then, string_refused, slash_read, slash_refused, quote_ends, low_refused, high_refused, chars_short}
use native.Mathlib.Omega.{arith}
use mathlib.Core.Path.{refl}
use Rattle.scan.proofs.string.string_at.Goals as goal

pub returns-in-34 : goal.returns-in-34
returns-in-34 c = record { read = (omega arith, omega arith, (_, refl, quote_ends _ _ c.loop-i-test.true c.loop-i.invariant.read.2 c.in-34.is)) }

pub returns-in_err-escape_at-in-92 : goal.returns-in_err-escape_at-in-92
returns-in_err-escape_at-in-92 c =
    rw (passed_on _ c.from_residual.ensures.1)
    record { read = string_refused c.loop-i.invariant.read.2 (slash_refused _ _ c.loop-i-test.true c.in-92.is c.in_err-escape_at-in-92.ensures.read) }

pub loop-i-preserved : goal.loop-i-preserved
loop-i-preserved c =
    let l = c.loop-i.invariant.read in
    let e = c.in_ok-escape_at-in-92.ensures.read in
    let p = c.plain_run-i-in-92.ensures in
    record {
      read = (omega (arith, l.0, e.0, p.read.0), p.read.1, then l.2 (then (slash_read _ _ c.loop-i-test.true c.in-92.is e.2) p.read.2));
      stops = p.stops;
    }

pub returns-in-0-to-127 : goal.returns-in-0-to-127
returns-in-0-to-127 c =
    let l = c.loop-i.invariant in
    record { read = string_refused l.read.2 (low_refused _ _ c.loop-i-test.true (l.stops c.loop-i-test.true) (omega arith) (omega arith) (omega arith)) }

pub returns-in_default : goal.returns-in_default
returns-in_default c =
    let l = c.loop-i.invariant in
    record { read = string_refused l.read.2 (high_refused _ _ c.loop-i-test.true (l.stops c.loop-i-test.true) (omega arith) (omega (arith, c.type_inv.text c.loop-i.i))) }

pub returns : goal.returns
returns c = record { read = string_refused c.loop-i.invariant.read.2 (chars_short _ _ c.loop-i-test.false) }
