use Rattle.entries.specs.Entries.{Merger}
use Rattle.patch.proofs.Answering.{accepted, merge_asks, merged}
use Rattle.std.proofs.Common.{arith}
use Rattle.std.proofs.lemmas.Grind.{common_steps}
use Rattle.scan.proofs.Steps.{passed_on}
use Rattle.patch.proofs.merge.merge_text.Goals as goal

pub returns-in_err-read_text : goal.returns-in_err-read_text
returns-in_err-read_text c = record { merger = rw (passed_on _ c.from_residual.ensures.1) (Merger.stop c.in_err-read_text.ensures.read) }

pub returns-in_err-read_text-2 : goal.returns-in_err-read_text-2
returns-in_err-read_text-2 c =
    let (v, n, r) = c.in_ok-read_text.ensures.read in
    record { merger = rw (passed_on _ c.from_residual-in_err-read_text-2.ensures.1) (Merger.stop_patch r c.in_err-read_text-2.ensures.read) }

pub write_merge-requires : goal.write_merge-requires
write_merge-requires c = merge_asks (accepted c.in_ok-read_text.ensures.read c.in_ok-read_text-2.ensures.read)

-- The tables, given back by their sides, are as they were read.
pub returns : goal.returns
returns c =
    let a = accepted c.in_ok-read_text.ensures.read c.in_ok-read_text-2.ensures.read in
    record { merger = merged a c.write_merge.ensures.writing (grind (arith, common_steps), grind (arith, common_steps)) }
