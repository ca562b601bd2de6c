use Rattle.patch.proofs.Emitting.{both_emit, second_fits}
use Rattle.patch.proofs.Seeing.{keyed}
use native.Mathlib.Omega.{arith}
use Rattle.patch.proofs.walk.keep_member.Goals as goal

pub emit_value-requires : goal.emit_value-requires
emit_value-requires c = let (v, x, f) = c.requires.3 in (c.requires.0, (v, x, second_fits _ _ f (keyed c.view-seen.ensures c.args.x c.emit_key-n.ensures.emitted) c.rest_at.ensures))

pub overflow_add-result : goal.overflow_add-result
overflow_add-result c =
    let (v, x, f) = c.requires.3 in
    omega (arith, f.few, (both_emit _ _ f (keyed c.view-seen.ensures c.args.x c.emit_key-n.ensures.emitted) c.rest_at.ensures (c.emit_value.ensures.emitted v x)).count)

pub returns-clause-emitted : goal.returns-clause-emitted
returns-clause-emitted c =
    let (v, x, f) = c.requires.3 in
    λ u y. both_emit _ _ f (keyed c.view-seen.ensures c.args.x c.emit_key-n.ensures.emitted) c.rest_at.ensures (c.emit_value.ensures.emitted u y)
