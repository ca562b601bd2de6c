use Rattle.patch.proofs.FirstBytes.{null_first}
use Rattle.patch.proofs.view.View.is_null.Goals as goal

pub returns : goal.returns
returns c = λ d v s. null_first _ c.start.ensures s
