use Rattle.entries.specs.Entries.{Writer}
use Rattle.std.proofs.lemmas.Result.{err_from_is_err_and}
use Rattle.writer.proofs.Answering.{accepted, write_asks, wrote}
use Rattle.writer.proofs.write.write_text.Goals as goal

pub returns-in_err-read_text : goal.returns-in_err-read_text
returns-in_err-read_text c = let p = err_from_is_err_and c.from_residual.result c.from_residual.ensures.1 in record { writer = rw (p.1, p.2) (Writer.stop c.in_err-read_text.ensures.read) }

pub write_read-requires : goal.write_read-requires
write_read-requires c = write_asks (accepted c.in_ok-read_text.ensures.read)

pub returns : goal.returns
returns c = record { writer = let w = c.write_read.ensures in wrote (accepted c.in_ok-read_text.ensures.read) _ w.writing w.same }
