-- By the number of containers that may still open: a value calls on its members one level deeper, each member on its value.
use Rattle.std.proofs.Common.{◌≡◌, ◌∙◌, arith}
use Rattle.std.specs.Ordering.{is_le, is_ge}
use Rattle.std.proofs.lemmas.Grind.{common_steps}
use Rattle.patch.proofs.Going.{onward_if}
use Rattle.patch.proofs.Walking.{end_asks, member_asks, new_asks, old_asks, rest_inside, turn_asks, turn_few, walk_few, walk_gives, walk_start, walked}
use Rattle.patch.proofs.Opening.{deep, enter_asks, members_asks, members_gives, new_small, new_stands, old_small, plain_asks, plain_gives, side_left}
use Rattle.patch.proofs.Seeing.{shown}
use Rattle.patch.proofs.Taking.{keep_asks, keep_gives, name_asks, null_gives, patch_stands, value_asks, value_few, value_gives}
use Rattle.patch.proofs.walk.+merge_member_merge_members_merge_value.Goals as goal
use Rattle.patch.proofs.walk.+merge_member_merge_members_merge_value.Goals.{merge_members-then-is_le, merge_members-else-is_le, merge_members-then-is_ge, merge_members-else-is_ge, merge_value-in-Some, merge_value-in_default}

pub merge_member-keep_member-requires : goal.merge_member-keep_member-requires
merge_member-keep_member-requires t c = let (l, n, v) = keep_asks (cc) c.requires.1 in (c.requires.0, l, n, v)

pub merge_member-returns-then-is_lt-clause-emitted : goal.merge_member-returns-then-is_lt-clause-emitted
merge_member-returns-then-is_lt-clause-emitted t c = keep_gives (cc) c.keep_member.ensures.emitted

pub merge_member-is_null-requires : goal.merge_member-is_null-requires
merge_member-is_null-requires t c = patch_stands (cc) c.view-new.ensures c.requires.1

pub merge_member-returns-then-is_null-clause-emitted : goal.merge_member-returns-then-is_null-clause-emitted
merge_member-returns-then-is_null-clause-emitted t c = null_gives (cc) c.view-new.ensures c.is_null.ensures c.if-is_null.true

pub merge_member-emit_key-n-requires : goal.merge_member-emit_key-n-requires
merge_member-emit_key-n-requires t c = name_asks (cc) c.view-new.ensures c.is_null.ensures c.if-is_null.false c.requires.1

pub merge_member-merge_value-requires : goal.merge_member-merge_value-requires
merge_member-merge_value-requires t c =
    (omega (arith, c.decreases), (c.requires.0, value_asks (cc) c.view-new.ensures c.is_null.ensures c.if-is_null.false c.requires.1 c.emit_key-n.ensures.emitted c.rest_at.ensures (cc)))

pub merge_member-overflow_add-result : goal.merge_member-overflow_add-result
merge_member-overflow_add-result t c =
    omega (arith, value_few (cc) c.view-new.ensures c.is_null.ensures c.if-is_null.false c.requires.1 c.emit_key-n.ensures.emitted c.rest_at.ensures (cc) c.merge_value.ensures.emitted)

pub merge_member-returns-clause-emitted : goal.merge_member-returns-clause-emitted
merge_member-returns-clause-emitted t c =
    value_gives (cc) c.view-new.ensures c.is_null.ensures c.if-is_null.false c.requires.1 c.emit_key-n.ensures.emitted c.rest_at.ensures (cc) c.merge_value.ensures.emitted

pub merge_members-loop-a-init : goal.merge_members-loop-a-init
merge_members-loop-a-init t c = walk_start _ _ _ _ _ _ _

pub merge_members-turn-z-requires : goal.merge_members-turn-z-requires
merge_members-turn-z-requires t c = turn_asks c.loop-a.invariant c.requires.1 c.view.ensures c.view-in-loop-a.ensures

pub merge_members-slice_bounds-lent-count : goal.merge_members-slice_bounds-lent-count
merge_members-slice_bounds-lent-count t c = rest_inside c.loop-a.invariant c.requires.1 c.rest_at.ensures

pub merge_members-slice_bounds-lent-start : goal.merge_members-slice_bounds-lent-start
merge_members-slice_bounds-lent-start t c = merge_members-slice_bounds-lent-count t c

-- The next turn, now that its number and its mark are known.
pub merge_members-merge_member-n-requires : goal.merge_members-merge_member-n-requires
merge_members-merge_member-n-requires t c =
    (omega (arith, c.decreases), (c.requires.0, member_asks c.loop-a.invariant c.requires.1 c.rest_at.ensures _ c.view.ensures c.view-in-loop-a.ensures (grind arith) c.turn-z.ensures c.mark_at-mark.ensures))

pub merge_members-rest-a-requires : goal.merge_members-rest-a-requires
merge_members-rest-a-requires t c = old_asks c.loop-a.invariant c.requires.1 c.rest_at.ensures _ c.view.ensures c.view-in-loop-a.ensures (grind arith) c.turn-z.ensures c.mark_at-mark.ensures c.view-then-is_le.ensures.1 c.merge_member-n.ensures.same.0 (cc)

pub merge_members-rest-b-requires : goal.merge_members-rest-b-requires
merge_members-rest-b-requires t c = new_asks c.loop-a.invariant c.requires.1 c.rest_at.ensures _ c.view.ensures c.view-in-loop-a.ensures (grind arith) c.turn-z.ensures c.mark_at-mark.ensures c.view-then-is_ge.ensures.1 c.merge_member-n.ensures.same.1 (cc)

pub merge_members-overflow_add-at : goal.merge_members-overflow_add-at
merge_members-overflow_add-at t c =
    omega (arith, turn_few c.loop-a.invariant c.requires.1 c.rest_at.ensures _ c.view.ensures c.view-in-loop-a.ensures (grind arith) c.turn-z.ensures c.mark_at-mark.ensures c.merge_member-n.ensures.emitted)

pub merge_members-loop-a-preserved : goal.merge_members-loop-a-preserved
merge_members-loop-a-preserved t c =
    let v = c.loop-a.invariant in
    let r = c.merge_member-n.ensures in
    let target : c.if-is_le.a ≡ onward_if (is_le c.turn-z.result) c.args.target.now.table.now c.loop-a.a = elim c.if-is_le.branch [
      | merge_members-then-is_le w ↦ grind (arith, common_steps, v.olds)
      | merge_members-else-is_le w ↦ grind (arith, common_steps)
    ] in
    let patch : c.if-is_ge.b ≡ onward_if (is_ge c.turn-z.result) c.args.patch.now.table.now c.loop-a.b = elim c.if-is_ge.branch [
      | merge_members-then-is_ge w ↦ grind (arith, common_steps, v.news)
      | merge_members-else-is_ge w ↦ grind (arith, common_steps)
    ] in
    walked v c.requires.1 c.rest_at.ensures _ c.view.ensures c.view-in-loop-a.ensures (grind arith) c.turn-z.ensures c.mark_at-mark.ensures r.emitted r.same target patch

pub merge_members-slice_bounds-emit_end-count : goal.merge_members-slice_bounds-emit_end-count
merge_members-slice_bounds-emit_end-count t c = rest_inside c.loop-a.invariant c.requires.1 c.rest_at-2.ensures

pub merge_members-slice_bounds-emit_end-start : goal.merge_members-slice_bounds-emit_end-start
merge_members-slice_bounds-emit_end-start t c = merge_members-slice_bounds-emit_end-count t c

pub merge_members-emit_end-requires : goal.merge_members-emit_end-requires
merge_members-emit_end-requires t c = end_asks c.loop-a.invariant c.requires.1 c.rest_at-2.ensures (omega arith)

pub merge_members-overflow_add-result : goal.merge_members-overflow_add-result
merge_members-overflow_add-result t c = omega (arith, walk_few c.loop-a.invariant c.requires.1 c.rest_at-2.ensures (omega arith) c.emit_end.ensures.emitted)

pub merge_members-returns : goal.merge_members-returns
merge_members-returns t c =
    let v = c.loop-a.invariant in
    record { emitted = walk_gives v c.requires.1 c.rest_at-2.ensures (omega arith) c.emit_end.ensures.emitted; same = (v.olds, v.news) }

pub merge_value-is_object-requires : goal.merge_value-is_object-requires
merge_value-is_object-requires t c = let (d, v, s) = new_stands c.requires.1 in (d, v, shown c.view.ensures s)

pub merge_value-emit_value-requires : goal.merge_value-emit_value-requires
merge_value-emit_value-requires t c = (c.requires.0, plain_asks c.view.ensures c.is_object.ensures c.if-not-is_object.true c.requires.1)

pub merge_value-returns-then-not-is_object-clause-emitted : goal.merge_value-returns-then-not-is_object-clause-emitted
merge_value-returns-then-not-is_object-clause-emitted t c = plain_gives c.view.ensures c.is_object.ensures c.if-not-is_object.true c.emit_value.ensures.emitted

pub merge_value-enter-b-requires : goal.merge_value-enter-b-requires
merge_value-enter-b-requires t c = enter_asks c.view.ensures c.is_object.ensures c.if-not-is_object.false c.requires.1

pub merge_value-merge_members-n-requires : goal.merge_value-merge_members-n-requires
merge_value-merge_members-n-requires t c =
    let d = deep c.view.ensures c.is_object.ensures c.if-not-is_object.false c.requires.1 in
    let m = members_asks c.view.ensures c.is_object.ensures c.if-not-is_object.false c.enter_old-a.ensures.chained c.enter-b.ensures.chained c.requires.1 in
    (omega (arith, c.decreases, d), (omega (arith, d), m))

pub merge_value-overflow_add-x : goal.merge_value-overflow_add-x
merge_value-overflow_add-x t c = omega (arith, old_small c.requires.1 c.in-Some.is)

pub merge_value-overflow_add-y : goal.merge_value-overflow_add-y
merge_value-overflow_add-y t c = omega (arith, new_small c.requires.1)

pub merge_value-returns : goal.merge_value-returns
merge_value-returns t c =
    let m = c.merge_members-n.ensures in
    let kept = c.enter_old-a.ensures.kept in
    let entered = c.enter_old-a.ensures in
    let kept = entered.kept in
    record {
      emitted = members_gives c.view.ensures c.is_object.ensures c.if-not-is_object.false entered.chained c.enter-b.ensures.chained m.emitted;
      same = (
        elim c.match-x.branch [
          | merge_value-in-Some w ↦ w.target-is ∙ side_left (rw w.in-Some.is at kept) entered.same m.same.0 w.clear.ensures.cleared
          | merge_value-in_default w ↦ w.target-is ∙ m.same.0 ∙ rw w.in_default.is at kept
        ],
        side_left c.enter-b.ensures.kept c.enter-b.ensures.same m.same.1 c.clear-2.ensures.cleared,
      );
    }
