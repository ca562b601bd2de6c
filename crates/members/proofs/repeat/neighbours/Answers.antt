-- `best` is the first repeat among the records up to `p`.
use Rattle.members.proofs.Neighbouring.{near_end, near_in, near_next, near_start, near_turn}
use native.Mathlib.Omega.{arith}
use Rattle.members.proofs.repeat.neighbours.Goals as goal

pub loop-init : goal.loop-init
loop-init c = near_start _ _ c.requires.0 c.requires.2

pub link-q-requires : goal.link-q-requires
link-q-requires c = (c.requires.1 _ (near_in c.loop.invariant)).1.0

pub better-best-requires : goal.better-best-requires
better-best-requires c =
    let s = c.loop.invariant in
    ((c.requires.1 _ (near_in s)).1, rw c.link-q.ensures (c.requires.1 _ (near_next s (omega arith))).1)

pub loop-preserved : goal.loop-preserved
loop-preserved c = near_turn c.loop.invariant (omega arith) c.link-q.ensures c.better-best.ensures

pub returns : goal.returns
returns c = near_end c.loop.invariant (omega arith)
