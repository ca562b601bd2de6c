use Rattle.patch.proofs.Lengths.{count_few, turned_away, write_asks, written}
use Rattle.scan.proofs.Steps.{passed_on}
use native.Mathlib.Omega.{arith}
use Rattle.patch.proofs.merge.write_merge.Goals as goal

pub room_for-requires : goal.room_for-requires
room_for-requires c = omega (arith, count_few c.merge_value-n.ensures.emitted c.requires)

pub returns-in_err-room_for-clause-writing : goal.returns-in_err-room_for-clause-writing
returns-in_err-room_for-clause-writing c = rw (passed_on _ c.from_residual.ensures.1) (λ x m. turned_away c.merge_value-n.ensures.emitted x m _ c.in_err-room_for.ensures.room)

pub merge_value-requires : goal.merge_value-requires
merge_value-requires c =
    let k = c.merge_value-n.ensures in let (l, s) = c.in_ok-room_for.ensures.room in (omega arith, write_asks k.same k.emitted s c.requires)

pub returns-clause-writing : goal.returns-clause-writing
returns-clause-writing c =
    let k = c.merge_value-n.ensures in let (l, s) = c.in_ok-room_for.ensures.room in written k.same k.emitted s c.merge_value.ensures.emitted l
