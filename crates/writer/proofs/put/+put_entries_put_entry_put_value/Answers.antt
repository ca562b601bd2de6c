-- By the number of containers that may still open: a value calls on its entries one level deeper, each entry on its value.
use Rattle.std.proofs.Common.{ℕ, ◌≤◌, length, length-set, set, ap, refl, ◌∙◌, arith}
use Rattle.spell.proofs.Joining.{put_as}
use Rattle.text.specs.Bytes.{Bytes}
use Rattle.writer.proofs.Entries.{added, empty_length, entry, going_start, going_turn, next_entry, next_fits, next_long, next_start, ready_empty, ready_long, ready_puts, wrote_room}
use Rattle.writer.proofs.Writing.{entry_puts, entry_room, name_fits, opened_at, opened_depth, opened_small, scalar_fits, scalar_puts, value_fits}
use Rattle.writer.proofs.put.+put_entries_put_entry_put_value.Goals as goal

-- The opening byte leaves the room for the whole as it was.
room_kept : (b : ℕ) (o c : Bytes) → length c ≤ length o → length c ≤ length (set o 0 b)
room_kept b o c l = simp length-set l

pub put_entries-put_empty-requires : goal.put_entries-put_empty-requires
put_entries-put_empty-requires t c = let (d, f, (x, r, l)) = c.requires in (f, omega (arith, l, ap length (ready_empty _ c.if-entries-eq0.true r), empty_length c.args.b))

pub put_entries-returns-then-entries-eq0-clause-put : goal.put_entries-returns-then-entries-eq0-clause-put
put_entries-returns-then-entries-eq0-clause-put t c = λ x r. put_as (ready_empty _ c.if-entries-eq0.true r) c.put_empty.ensures.put

pub put_entries-bounds-out-0 : goal.put_entries-bounds-out-0
put_entries-bounds-out-0 t c = let (d, f, (x, r, l)) = c.requires in ready_long c.args.out.now (let n = c.if-entries-eq0.false in omega arith) r l

pub put_entries-loop-left-init : goal.put_entries-loop-left-init
put_entries-loop-left-init t c =
    let (d, f, (x, r, l)) = c.requires in
    let n = c.if-entries-eq0.false in
    (refl, λ y s. going_start c.args.out.now (omega arith) (ready_long c.args.out.now (omega arith) r l) s)

pub put_entries-slice_bounds-put_entry-count : goal.put_entries-slice_bounds-put_entry-count
put_entries-slice_bounds-put_entry-count t c = let (d, f, (x, r, l)) = c.requires in next_start (c.loop-left.invariant.1 x r) c.loop-left-test.true (room_kept _ _ _ l)

pub put_entries-slice_bounds-put_entry-start : goal.put_entries-slice_bounds-put_entry-start
put_entries-slice_bounds-put_entry-start t c = put_entries-slice_bounds-put_entry-count t c

pub put_entries-put_entry-at-requires : goal.put_entries-put_entry-at-requires
put_entries-put_entry-at-requires t c =
    let (d, f, (x, r, l)) = c.requires in
    let g = c.loop-left.invariant.1 x r in
    (omega (arith, c.decreases), (d, (entry g, next_entry g c.loop-left-test.true c.loop-left.invariant.0, next_fits g c.loop-left-test.true (room_kept _ _ _ l))))

pub put_entries-overflow_add-at : goal.put_entries-overflow_add-at
put_entries-overflow_add-at t c =
    let (d, f, (x, r, l)) = c.requires in
    let v = c.loop-left.invariant in
    let g = v.1 x r in
    omega (arith, added c.args.out.now g c.loop-left-test.true l (c.put_entry-at.ensures.put _ (next_entry g c.loop-left-test.true v.0)))

pub put_entries-bounds-out-at : goal.put_entries-bounds-out-at
put_entries-bounds-out-at t c =
    let (d, f, (x, r, l)) = c.requires in
    let v = c.loop-left.invariant in
    let g = v.1 x r in
    let p = c.put_entry-at.ensures.put _ (next_entry g c.loop-left-test.true v.0) in
    wrote_room g c.loop-left-test.true p (omega (arith, next_long g c.loop-left-test.true (room_kept _ _ _ l), p.count))

pub put_entries-overflow_add-at-in-loop-left : goal.put_entries-overflow_add-at-in-loop-left
put_entries-overflow_add-at-in-loop-left t c =
    let (d, f, (x, r, l)) = c.requires in
    let v = c.loop-left.invariant in
    let g = v.1 x r in
    omega (arith, added c.args.out.now g c.loop-left-test.true l (c.put_entry-at.ensures.put _ (next_entry g c.loop-left-test.true v.0)))

pub put_entries-follow-x-requires : goal.put_entries-follow-x-requires
put_entries-follow-x-requires t c =
    let (d, f, (x, r, l)) = c.requires in
    entry_room (next_entry (c.loop-left.invariant.1 x r) c.loop-left-test.true (c.put_entry-at.ensures.same ∙ c.loop-left.invariant.0))

pub put_entries-loop-left-preserved : goal.put_entries-loop-left-preserved
put_entries-loop-left-preserved t c =
    let (d, f, (x, r, l)) = c.requires in
    let v = c.loop-left.invariant in
    let g = v.1 x r in
    let e = c.put_entry-at.ensures.same ∙ v.0 in
    (e, λ y z. going_turn (v.1 y z) c.loop-left-test.true (c.put_entry-at.ensures.put _ (next_entry (v.1 y z) c.loop-left-test.true v.0)) (omega (arith, next_long g c.loop-left-test.true (room_kept _ _ _ l), (c.put_entry-at.ensures.put _ (next_entry g c.loop-left-test.true v.0)).count)) e c.mark_behind.ensures c.follow-x.ensures)

pub put_entries-returns-clause-put : goal.put_entries-returns-clause-put
put_entries-returns-clause-put t c = let n = c.if-entries-eq0.false in λ x r. ready_puts c.args.out.now (omega arith) r (c.loop-left.invariant.1 x r) (omega (arith, c.loop-left-test.false))

pub put_entry-put_value-requires : goal.put_entry-put_value-requires
put_entry-put_value-requires t c = let (d, (e, x, l)) = c.requires in (omega (arith, c.decreases), (d, value_fits c.put_name-n.ensures.put (name_fits c.args.out.now x l) x l))

pub put_entry-overflow_add-result : goal.put_entry-overflow_add-result
put_entry-overflow_add-result t c = let (d, (e, x, l)) = c.requires in omega (arith, l, (entry_puts c.put_name-n.ensures.put (name_fits c.args.out.now x l) c.put_value.ensures.put x).count)

pub put_entry-returns-clause-put : goal.put_entry-returns-clause-put
put_entry-returns-clause-put t c = let (d, (e, x, l)) = c.requires in λ e y. entry_puts c.put_name-n.ensures.put (name_fits c.args.out.now x l) c.put_value.ensures.put y

pub put_value-put_scalar-requires : goal.put_value-put_scalar-requires
put_value-put_scalar-requires t c = let (d, (x, y, l)) = c.requires in scalar_fits y c.start-at.ensures c.behind.ensures c.if-not-is_open.true c.is_open.ensures c.args.out.now l

pub put_value-returns-then-not-is_open-clause-put : goal.put_value-returns-then-not-is_open-clause-put
put_value-returns-then-not-is_open-clause-put t c = λ x y. scalar_puts y c.start-at.ensures c.behind.ensures c.if-not-is_open.true c.is_open.ensures c.put_scalar.ensures.put

pub put_value-enter-c-requires : goal.put_value-enter-c-requires
put_value-enter-c-requires t c = let (d, (x, y, l)) = c.requires in (opened_at c.start-at.ensures c.if-not-is_open.false c.is_open.ensures, (_, x, y))

pub put_value-put_entries-n-requires : goal.put_value-put_entries-n-requires
put_value-put_entries-n-requires t c =
    let (d, (x, y, l)) = c.requires in
    let o = opened_at c.start-at.ensures c.if-not-is_open.false c.is_open.ensures in
    let n = opened_depth y o in
    (omega (arith, c.decreases), (omega arith, opened_small o, (x, c.enter-c.ensures.ready _ x y, l)))

pub put_value-returns-clause-put : goal.put_value-returns-clause-put
put_value-returns-clause-put t c = λ x y. c.put_entries-n.ensures.put x (c.enter-c.ensures.ready _ x y)
