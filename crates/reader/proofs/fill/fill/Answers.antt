-- Each arm keeps the invariant by its law in proofs/Loop, or stops as the law says.
use Prim.Native.Nat.{◌+◌, ◌-◌}
use Rattle.reader.proofs.Loop.{bounds, closable, close_kept, comma_entering, dense, entering_asks, entry_kept, entry_stopped, mark_most, name_most, open_entering, short_after, short_value, start, value_kept, value_stopped, whole_text, wrong_stopped}
use Rattle.reader.specs.Loop.{Entering}
use lib.ListN.{get_or, set}
use mathlib.Core.Path.{refl}
use native.Mathlib.Omega.{arith}
use Rattle.reader.proofs.fill.fill.Goals as goal
use Rattle.reader.proofs.fill.fill.Goals.{After-skip, In-Ok-Opened}

-- Behind the bracket of a container that opens, and behind a comma.
opened : (c : In-Ok-Opened) → Entering c.args.text.now c.args.table.now c.value_at.new.table (set c.loop-i.state.marks c.loop-i.state.depth (get_or c.args.text.now c.loop-i.i 0)) (c.loop-i.state.depth + 1) c.in-Ok-Opened.p (c.loop-i.count + 1) c.loop-i.count (get_or c.args.text.now c.loop-i.i 0) c.loop-i.first
opened c = open_entering _ _ c.if-due.true c.loop-i.invariant (omega arith) (rw c.in-Ok-Opened.field-0-is at c.in-Ok-Opened.ensures.read)

behind_comma : (c : After-skip) → Entering c.args.text.now c.args.table.now c.loop-i.table c.loop-i.state.marks c.loop-i.state.depth c.skip.result c.loop-i.count c.loop-i.inner (get_or c.loop-i.state.marks (c.loop-i.state.depth - 1) 0) c.loop-i.first
behind_comma c = comma_entering c.if-due.false c.loop-i.invariant (omega arith) _ (omega arith) c.if-b-eq44.true c.skip.ensures.skipped c.skip.ensures.dense

pub loop-i-init : goal.loop-i-init
loop-i-init c = start _ _ _ _ refl c.skip-i.ensures.skipped c.skip-i.ensures.dense

pub value_at-requires : goal.value_at-requires
value_at-requires c =
    let b = bounds c.requires.1 c.loop-i.invariant in
    (omega arith, dense c.loop-i.invariant (omega arith), omega arith, omega arith, omega arith, name_most (omega arith) c.if-due.true c.loop-i.invariant, omega arith)

pub returns-in-Err : goal.returns-in-Err
returns-in-Err c = record { stopped = rw c.stopped.ensures (value_stopped c.requires.1 _ _ c.if-due.true c.loop-i.invariant c.in-Err.ensures.read) }

pub loop-i-preserved-in-Ok-Whole : goal.loop-i-preserved-in-Ok-Whole
loop-i-preserved-in-Ok-Whole c = value_kept _ _ _ c.if-due.true c.loop-i.invariant (rw c.in-Ok-Whole.field-0-is at c.in-Ok-Whole.ensures.read)

pub returns-in-Err-due : goal.returns-in-Err-due
returns-in-Err-due c =
    record {
      stopped =
          rw c.stopped-in-Err-due.ensures
          (entry_stopped (opened (goal.at.returns-in-Err-due c).In-Ok-Opened) (rw (c.in-Ok-Opened.p-is, c.in-Err-due.is) at c.entry_at-entry.ensures.read));
    }

pub loop-i-preserved-in-Ok-Opened : goal.loop-i-preserved-in-Ok-Opened
loop-i-preserved-in-Ok-Opened c =
    entry_kept c.if-due.true (opened (goal.at.loop-i-preserved-in-Ok-Opened c).In-Ok-Opened) (rw (c.in-Ok-Opened.p-is, c.in-Ok.is) at c.entry_at-entry.ensures.read)

pub returns-then-d-eq0 : goal.returns-then-d-eq0
returns-then-d-eq0 c = record { stopped = rw c.stopped-then-d-eq0.ensures (wrong_stopped c.requires.1 c.if-due.false c.loop-i.invariant (omega arith) (λ h. absurd (omega arith))) }

pub entry_at-entry-requires-then-b-eq44 : goal.entry_at-entry-requires-then-b-eq44
entry_at-entry-requires-then-b-eq44 c = entering_asks (behind_comma (goal.at.entry_at-entry-requires-then-b-eq44 c).After-skip)

pub returns-in-Err-due-2 : goal.returns-in-Err-due-2
returns-in-Err-due-2 c =
    record {
      stopped =
          rw c.stopped-in-Err-due-2.ensures
          (entry_stopped (behind_comma (goal.at.returns-in-Err-due-2 c).After-skip) (rw c.in-Err-due-2.is at c.entry_at-entry-then-b-eq44.ensures.read));
    }

pub loop-i-preserved-then-b-eq44 : goal.loop-i-preserved-then-b-eq44
loop-i-preserved-then-b-eq44 c =
    entry_kept refl (behind_comma (goal.at.loop-i-preserved-then-b-eq44 c).After-skip) (rw c.in-Ok-due.is at c.entry_at-entry-then-b-eq44.ensures.read)

pub overflow_add-m : goal.overflow_add-m
overflow_add-m c = omega (arith, mark_most c.if-due.false c.loop-i.invariant (omega arith))

pub returns-then-b-m : goal.returns-then-b-m
returns-then-b-m c = record { stopped = rw c.stopped-then-b-m.ensures (wrong_stopped c.requires.1 c.if-due.false c.loop-i.invariant (omega arith) (λ h. (c.if-b-eq44.false, c.if-b-m.true))) }

pub close_at-c-requires : goal.close_at-c-requires
close_at-c-requires c = (closable c.if-due.false c.loop-i.invariant (omega arith) (omega arith), c.requires.0, omega arith)

pub loop-i-preserved : goal.loop-i-preserved
loop-i-preserved c =
    close_kept c.if-due.false c.loop-i.invariant (omega arith) _ _ _ _ _ (omega arith) c.if-b-m.false c.skip-i-in-loop-i.ensures.skipped c.skip-i-in-loop-i.ensures.dense c.close_at-c.ensures.closed

pub returns-then-due-2 : goal.returns-then-due-2
returns-then-due-2 c = record { stopped = rw c.stopped-then-due-2.ensures (short_value c.requires.1 (omega arith) c.if-due-2.true c.loop-i.invariant) }

pub returns-then-state-eq0 : goal.returns-then-state-eq0
returns-then-state-eq0 c = record { stopped = rw c.stopped-then-state-eq0.ensures (whole_text c.requires.1 (omega arith) c.if-due-2.false c.loop-i.invariant c.if-state-eq0.true) }

pub returns : goal.returns
returns c = record { stopped = rw c.stopped-2.ensures (short_after c.requires.1 (omega arith) c.if-due-2.false c.loop-i.invariant c.if-state-eq0.false) }
