use Rattle.scan.proofs.Steps.{holds}
use Rattle.scan.proofs.StringLaws.{four_read}
use Rattle.std.proofs.lemmas.Bool.{and_parts}
use native.Mathlib.Omega.{arith}
use Rattle.scan.proofs.string.four_hex.Goals as goal

pub returns : goal.returns
returns c =
    record {
      read = λ e.
          let p = and_parts _ _ e in
          let q = and_parts _ _ p.0 in
          let r = and_parts _ _ q.0 in
          four_read _ _ (omega arith, holds _ _ c.is_hex.ensures r.0) (omega arith, holds _ _ c.is_hex-2.ensures r.1) (omega arith, holds _ _ c.is_hex-3.ensures q.1) (omega arith, holds _ _ c.is_hex-4.ensures p.1);
    }
