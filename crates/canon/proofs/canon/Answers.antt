-- A refusal is said by its line, and behind a canonical text stands a line feed.
use Rattle.console.proofs.Answers.{due_fed, due_refused, writer_due}
use Rattle.console.proofs.Rooms.{at_front}
use Rattle.console.specs.Programs.{Canon, Judged, refused_at}
use native.Mathlib.Omega.{arith}
use Rattle.canon.proofs.canon.Goals as goal

pub returns-then-text-gt-LONGEST : goal.returns-then-text-gt-LONGEST
returns-then-text-gt-LONGEST c = let all = at_front (Canon _) c.put_refused_at.ensures.put (Canon.refused (Judged.long (omega arith))) in record { canon = all.0; within = all.1 }

pub returns-then-a-ne0 : goal.returns-then-a-ne0
returns-then-a-ne0 c =
    let line : Canon c.args.text.now (refused_at c.write-a.result.number c.write-a.result.place) =
    due_refused (writer_due (omega arith) (omega arith) c.write-a.ensures.writer) c.if-a-ne0.true in
    let all = at_front (Canon _) c.put_refused_at-then-a-ne0.ensures.put line in record { canon = all.0; within = all.1 }

pub bounds-line-n : goal.bounds-line-n
bounds-line-n c = (due_fed (writer_due (omega arith) (omega arith) c.write-a.ensures.writer) c.if-a-ne0.false).0

pub returns : goal.returns
returns c = let all = (due_fed (writer_due (omega arith) (omega arith) c.write-a.ensures.writer) c.if-a-ne0.false).1 in record { canon = all.0; within = all.1 }
