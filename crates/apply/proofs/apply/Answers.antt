-- A refusal is said by its line, and behind the canonical text of a merge stands a line feed.
use Rattle.console.proofs.Answers.{due_fed, due_refused, merger_due, patch_long, target_refused}
use Rattle.console.proofs.Rooms.{at_front}
use Rattle.console.specs.Programs.{Apply, Judged}
use native.Mathlib.Omega.{arith}
use Rattle.apply.proofs.apply.Goals as goal

pub returns-then-target-gt-LONGEST : goal.returns-then-target-gt-LONGEST
returns-then-target-gt-LONGEST c = let all = at_front (Apply _ _) c.put_refused_in.ensures.put (Apply.refused (Judged.long (omega arith))) in record { apply = all.0; within = all.1 }

pub returns-then-a-eq0 : goal.returns-then-a-eq0
returns-then-a-eq0 c = let all = at_front (Apply _ _) c.put_refused_in-then-a-eq0.ensures.put (patch_long (omega arith) (omega arith) c.read-a.ensures.reader (omega arith)) in record { apply = all.0; within = all.1 }

pub returns-then-patch-gt-LONGEST : goal.returns-then-patch-gt-LONGEST
returns-then-patch-gt-LONGEST c = let all = at_front (Apply _ _) c.put_refused_in-then-patch-gt-LONGEST.ensures.put (target_refused (omega arith) c.read-a.ensures.reader (λ e. omega (arith, e))) in record { apply = all.0; within = all.1 }

pub returns-then-a-ne0 : goal.returns-then-a-ne0
returns-then-a-ne0 c = let all = at_front (Apply _ _) c.put_refused_in-then-a-ne0.ensures.put (due_refused (merger_due (omega arith) (omega arith) (omega arith) c.merge-a.ensures.merger) c.if-a-ne0.true) in record { apply = all.0; within = all.1 }

pub bounds-line-n : goal.bounds-line-n
bounds-line-n c = (due_fed (merger_due (omega arith) (omega arith) (omega arith) c.merge-a.ensures.merger) c.if-a-ne0.false).0

pub returns : goal.returns
returns c = let all = (due_fed (merger_due (omega arith) (omega arith) (omega arith) c.merge-a.ensures.merger) c.if-a-ne0.false).1 in record { apply = all.0; within = all.1 }
