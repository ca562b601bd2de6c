-- The reading stops, what is open is closed, and the verdict is told.
use Rattle.entries.specs.Answer.{Reading}
use Rattle.reader.proofs.Answering.{broken_is, first_inside, name_refused, otherwise_refused, read_all, small_place}
use Rattle.reader.specs.Answers.{input_of}
use Rattle.reader.specs.Loop.{Settled}
use Rattle.std.specs.Prelude.{None, Some}
use native.Mathlib.Omega.{arith}
use Rattle.reader.proofs.read.read_text.Goals as goal
use Rattle.reader.proofs.read.read_text.Goals.{In-Some, In_default}

-- A name stands twice, or none does.
repeated : (c : In-Some) → Settled c.args.text.now c.args.table.now c.settle-first.new.table c.fill-s.result.count (Some c.in-Some.q) c.fill-s.result.refusal
repeated c = rw c.in-Some.is at (c.settle-first.ensures.settled _ _ c.fill-s.ensures.stopped (omega arith))

distinct : (c : In_default) → Settled c.args.text.now c.args.table.now c.settle-first.new.table c.fill-s.result.count None c.fill-s.result.refusal
distinct c = rw c.in_default.is at (c.settle-first.ensures.settled _ _ c.fill-s.ensures.stopped (omega arith))

pub returns-then-text-gt-MAX_TEXT : goal.returns-then-text-gt-MAX_TEXT
returns-then-text-gt-MAX_TEXT c = record { read = Reading.long c.if-text-gt-MAX_TEXT.true }

pub returns-then-table-words : goal.returns-then-table-words
returns-then-table-words c = record { read = Reading.narrow c.if-text-gt-MAX_TEXT.false c.if-table-words.true }

pub overflow_add-q : goal.overflow_add-q
overflow_add-q c = omega (arith, first_inside (repeated (goal.at.overflow_add-q c).In-Some))

pub closing_quote-requires : goal.closing_quote-requires
closing_quote-requires c = omega (arith, first_inside (repeated (goal.at.closing_quote-requires c).In-Some))

pub returns-in-Some : goal.returns-in-Some
returns-in-Some c =
    record { read = rw c.clear.ensures (name_refused c.if-text-gt-MAX_TEXT.false (omega arith) (input_of c.args.input) _ (repeated (goal.at.returns-in-Some c).In-Some) c.closing_quote.ensures.0) }

pub invariant_of-result-in-Some-refusal : goal.invariant_of-result-in-Some-refusal
invariant_of-result-in-Some-refusal c =
    record { small = small_place c.args.text.now c.if-text-gt-MAX_TEXT.false (broken_is (rw c.in-Some-refusal.is at (distinct (goal.at.invariant_of-result-in-Some-refusal c).In_default))) }

pub returns-in-Some-refusal : goal.returns-in-Some-refusal
returns-in-Some-refusal c =
    record {
      read =
          rw c.clear-in-Some-refusal.ensures
          (otherwise_refused c.if-text-gt-MAX_TEXT.false (omega arith) (input_of c.args.input) (rw c.in-Some-refusal.is at (distinct (goal.at.returns-in-Some-refusal c).In_default)));
    }

pub returns : goal.returns
returns c = record { read = read_all c.if-text-gt-MAX_TEXT.false (omega arith) c.args.input (rw c.in_default-refusal.is at (distinct (goal.at.returns c).In_default)) }
