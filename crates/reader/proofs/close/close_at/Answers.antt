-- Two stores close the record; the members of an object are then a row.
use Rattle.reader.proofs.Closing.{closable_fits, closable_row, closes_array, closes_object}
use Rattle.std.proofs.Common.{◌≡◌, min, rules}
use Rattle.std.specs.Option.{option_map_or}
use Rattle.std.specs.Prelude.{None, Some}
use native.Mathlib.Omega.{arith}
use Rattle.reader.proofs.close.close_at.Goals as goal

pub close-around-requires : goal.close-around-requires
close-around-requires c = let x = closable_fits c.requires.1 c.requires.0 in (x.0, omega arith, x.1)

pub returns-then-kind-ne123 : goal.returns-then-kind-ne123
returns-then-kind-ne123 c = record { closed = closes_array _ _ _ c.requires.2 c.close-around.ensures.closed c.close-around.ensures.around c.if-kind-ne123.true }

pub overflow_add-inner : goal.overflow_add-inner
overflow_add-inner c = let x = closable_fits c.requires.1 c.requires.0 in omega arith

pub first_repeat-requires : goal.first_repeat-requires
first_repeat-requires c = closable_row _ _ c.requires.1 c.if-kind-ne123.false c.requires.0 c.close-around.ensures.closed

pub returns-in_default : goal.returns-in_default
returns-in_default c =
    record { closed = rw c.first_repeat.ensures.same (closes_object _ _ _ c.requires.2 c.close-around.ensures.closed c.close-around.ensures.around None c.if-kind-ne123.false c.in_default.ensures.repeated) }

pub returns : goal.returns
returns c =
    let m : c.map_or.result ≡ option_map_or (λ p. min p c.in-Some.q) c.args.first c.in-Some.q = search rules in
    record {
      closed =
          rw (c.first_repeat.ensures.same, m)
          (closes_object _ _ _ c.requires.2 c.close-around.ensures.closed c.close-around.ensures.around (Some c.in-Some.q) c.if-kind-ne123.false c.in-Some.ensures.repeated);
    }
