use Rattle.members.proofs.Naming.{names_differ}
use Rattle.std.proofs.Common.{arith}
use Rattle.members.proofs.name.differ_here.Goals as goal
use Rattle.members.proofs.name.differ_here.Goals.{else-x-y, then-x-y}

pub returns-then-x-ne92 : goal.returns-then-x-ne92
returns-then-x-ne92 c =
    λ h. elim c.if-x-y.branch [
      | then-x-y w ↦ names_differ _ _ _ _ _ c.in-Some-Some.ensures.lookup.3 c.in-Some-Some.ensures'.lookup.3 w.if-x-y.true (grind arith) (grind arith)
      | else-x-y w ↦ grind arith
    ]
