use Rattle.std.proofs.Common.{arith, sym, ◌∙◌}
use Rattle.values.proofs.Records.{held_start}
use Rattle.writer.proofs.Owning.{own_scalar}
use Rattle.writer.proofs.measure.own_length.Goals as goal

pub scalar_length-requires : goal.scalar_length-requires
scalar_length-requires c =
    let h = c.requires.1.1 in
    (omega (arith, held_start h, c.start-p.ensures), c.requires.0, (_, own_scalar h c.start-p.ensures c.behind.ensures (sym c.is_open.ensures ∙ c.if-is_open.false)))
