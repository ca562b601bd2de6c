use Rattle.scan.proofs.Steps.{passed_on}
use Rattle.scan.proofs.StringLaws.{four_read, hexed_refused}
use native.Mathlib.Omega.{arith}
use mathlib.Core.Path.{refl}
use Rattle.scan.proofs.string.four_each.Goals as goal

pub returns-in_err-hex_at-2 : goal.returns-in_err-hex_at-2
returns-in_err-hex_at-2 c =
    rw (passed_on _ c.from_residual-in_err-hex_at-2.ensures.1)
    record { read = hexed_refused _ _ refl c.in_ok-hex_at.ensures.read _ (c.in_err-hex_at-2.ensures.read _) 0 }

pub returns-in_err-hex_at-3 : goal.returns-in_err-hex_at-3
returns-in_err-hex_at-3 c =
    rw (passed_on _ c.from_residual-in_err-hex_at-3.ensures.1)
    record { read = hexed_refused _ _ refl c.in_ok-hex_at.ensures.read _ (hexed_refused _ _ (omega arith) c.in_ok-hex_at-2.ensures.read _ (c.in_err-hex_at-3.ensures.read _)) 0 }

pub returns-in_err-hex_at-4 : goal.returns-in_err-hex_at-4
returns-in_err-hex_at-4 c =
    rw (passed_on _ c.from_residual-in_err-hex_at-4.ensures.1)
    record {
      read =
          hexed_refused _ _ refl c.in_ok-hex_at.ensures.read _
          (hexed_refused _ _ (omega arith) c.in_ok-hex_at-2.ensures.read _ (hexed_refused _ _ (omega arith) c.in_ok-hex_at-3.ensures.read _ (c.in_err-hex_at-4.ensures.read _))) 0;
    }

pub returns : goal.returns
returns c =
    let d = c.in_ok-hex_at-4.ensures.read in
    record { read = (omega arith, omega (arith, d.0), four_read _ _ c.in_ok-hex_at.ensures.read c.in_ok-hex_at-2.ensures.read c.in_ok-hex_at-3.ensures.read d) }
