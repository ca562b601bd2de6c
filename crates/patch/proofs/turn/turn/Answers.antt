use Rattle.members.specs.Names.{name_of}
use Rattle.std.proofs.Common.{arith}
use Rattle.std.proofs.lemmas.Grind.{common_steps}
use Rattle.patch.proofs.turn.turn.Goals as goal

pub returns : goal.returns
unfolding name_of
returns c = grind (arith, common_steps)
