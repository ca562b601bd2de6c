use Rattle.patch.proofs.FirstBytes.{object_first}
use Rattle.patch.proofs.view.View.is_object.Goals as goal

pub returns : goal.returns
returns c = λ d v s. object_first _ c.start.ensures s
