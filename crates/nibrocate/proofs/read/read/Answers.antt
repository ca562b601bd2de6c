use Rattle.reader.proofs.Answering.{reader}
use Rattle.nibrocate.proofs.read.read.Goals as goal

pub returns : goal.returns
returns c = record { reader = rw c.into.ensures (reader _ c.read_text.ensures.read) }
