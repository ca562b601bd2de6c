use Rattle.reader.proofs.Tokens.{number_scalar}
use Rattle.reader.proofs.value.numeral_at.Goals as goal

pub returns : goal.returns
returns c = record { read = number_scalar c.in-Ok.ensures.read }
