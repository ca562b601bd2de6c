-- The exponent fits behind its mark.
use Rattle.std.proofs.Common.{arith, rules}
use Rattle.spell.proofs.Parts.{power_parts, signed_width}
use Rattle.text.specs.Ceilings.{max_power_digits}
use Rattle.spell.proofs.number.put_power.Goals as goal

pub put_signed-requires : goal.put_signed-requires
put_signed-requires c =
    let e = signed_width c.args.down c.args.power (omega arith) max_power_digits (omega arith) (omega arith) in
    let f = power_parts c.args.down c.args.power c.if-power-eq0.false in
    (omega arith, search rules)
