use Rattle.lookup.proofs.Walking.{found_bad, token, walk_end, walk_here, walk_lost, walk_next, walk_small, walk_start}
use Rattle.scan.specs.declared.refusal.Refusal.{Refusal}
use Rattle.std.proofs.Common.{None, ◌≡◌}
use Rattle.std.proofs.lemmas.Result.{err_from_is_err_and}
use native.Mathlib.Omega.{arith}
use Rattle.lookup.proofs.find.resolve.Goals as goal

pub returns-in_err-check : goal.returns-in_err-check
returns-in_err-check c =
    let e = err_from_is_err_and c.from_residual.result c.from_residual.ensures.1 in
    record { found = λ v h. rw (e.1, e.2) (found_bad v c.in_err-check.ensures.checked) }

pub loop-i-init : goal.loop-i-init
loop-i-init c = walk_start _ _ _

pub token_end-end-requires : goal.token_end-end-requires
token_end-end-requires c =
    let (v, ts, g) = walk_here c.loop-i.invariant c.requires c.in_ok-check.ensures.checked in
    (omega arith, (_, _, (token g c.loop-i-test.true).bytes))

pub child_of-requires : goal.child_of-requires
child_of-requires c = let (v, ts, g) = walk_here c.loop-i.invariant c.requires c.in_ok-check.ensures.checked in (_, g.held)

pub returns-in_err-r : goal.returns-in_err-r
returns-in_err-r c =
    let e = err_from_is_err_and c.from_residual-in_err-r.result c.from_residual-in_err-r.ensures.1 in
    let n : c.child_of.result ≡ None = c.in_err-r.ensures.ok_part in
    let f : c.in_err-r.field-0.0 ≡ Refusal.Lost c.loop-i.i = grind arith in
    record { found = rw (e.1, e.2, f) (walk_lost c.loop-i.invariant c.loop-i-test.true c.token_end-end.ensures.token c.child_of.ensures.stepped n c.in_ok-check.ensures.checked) }

pub loop-i-preserved : goal.loop-i-preserved
loop-i-preserved c = walk_next c.loop-i.invariant c.loop-i-test.true c.token_end-end.ensures.token c.child_of.ensures.stepped c.in_ok-r.ensures.ok_part

pub overflow_cast-result : goal.overflow_cast-result
overflow_cast-result c = omega (arith, walk_small c.loop-i.invariant c.requires c.in_ok-check.ensures.checked)

pub returns : goal.returns
returns c = record { found = walk_end c.loop-i.invariant c.in_ok-check.ensures.checked c.loop-i-test.false }
