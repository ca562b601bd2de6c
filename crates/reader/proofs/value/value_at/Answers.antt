use Rattle.reader.proofs.Tokens.{scalar_read}
use Rattle.reader.proofs.value.value_at.Goals as goal

pub returns : goal.returns
returns c = record { read = let p = c.skip.ensures in scalar_read p.dense c.in_ok-end.ensures.read p.skipped c.put.ensures }
