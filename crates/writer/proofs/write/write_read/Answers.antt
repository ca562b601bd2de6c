use Rattle.scan.proofs.Steps.{passed_on}
use Rattle.writer.proofs.Lengths.{well_written}
use native.Mathlib.Omega.{arith}
use Rattle.writer.proofs.write.write_read.Goals as goal

pub room_for-requires : goal.room_for-requires
room_for-requires c = let (l, (x, m, k)) = c.requires in omega (arith, c.needed-n.ensures 0 x m)

pub returns-in_err-room_for-clause-writing : goal.returns-in_err-room_for-clause-writing
returns-in_err-room_for-clause-writing c = rw (passed_on _ c.from_residual.ensures.1) (λ x m. c.in_err-room_for.ensures.room x (c.needed-n.ensures 0 x m))

pub put_value-requires : goal.put_value-requires
put_value-requires c = let (l, (x, m, k)) = c.requires in let (r, s) = c.in_ok-room_for.ensures.room in (omega arith, (x, m, omega (arith, c.needed-n.ensures 0 x m)))

pub returns-clause-writing : goal.returns-clause-writing
returns-clause-writing c = let (r, s) = c.in_ok-room_for.ensures.room in λ x m. well_written (c.needed-n.ensures 0 x m) _ r s (c.put_value.ensures.put x m).now
