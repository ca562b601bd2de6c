use Rattle.members.proofs.Lineage.{siblings_onward}
use Rattle.members.specs.Walking.{Goes}
use native.Mathlib.Omega.{arith}
use Rattle.members.proofs.walk.WalkIterator.next.Goals as goal

pub returns-clause-goes : goal.returns-clause-goes
returns-clause-goes c =
    let o = siblings_onward c.requires.siblings c.if-self.false in
    let g : Goes (record c.args.self.now { at = c.next-self.result }) = record { long = c.requires.long; members = o.tail; siblings = rw c.next-self.ensures o.siblings } in
    record { on = λ f. (g, tt, omega (arith, o.up, c.next-self.ensures)); keeps = g; rests = λ f. tt }
