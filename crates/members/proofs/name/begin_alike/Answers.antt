use Rattle.members.proofs.Naming.{begin_alike}
use Rattle.std.proofs.Common.{arith}
use Rattle.members.proofs.name.begin_alike.Goals as goal
use Rattle.members.proofs.name.begin_alike.Goals.{else-x-y, then-x-y}

pub returns-then-x-ne34 : goal.returns-then-x-ne34
returns-then-x-ne34 c =
    λ h. elim c.if-x-y.branch [
      | then-x-y w ↦ begin_alike _ _ _ _ _ c.in-Some-Some.ensures.lookup.3 c.in-Some-Some.ensures'.lookup.3 w.if-x-y.true (grind arith) (grind arith)
      | else-x-y w ↦ grind arith
    ]
