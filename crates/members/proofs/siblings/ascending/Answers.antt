-- The names before `p` ascend, up to that of `p`.
use Rattle.members.proofs.Climbing.{climb_end, climb_in, climb_turn}
use Rattle.members.proofs.Ordering.{index_less}
use mathlib.Core.Path.{◌∙◌, sym}
use native.Mathlib.Omega.{arith}
use Rattle.members.proofs.siblings.ascending.Goals as goal

pub next-q-requires : goal.next-q-requires
next-q-requires c = (c.requires _ (climb_in c.loop.invariant (omega arith)).0).1.0

pub order_of-requires : goal.order_of-requires
order_of-requires c =
    let k = climb_in c.loop.invariant (omega arith) in
    ((c.requires _ k.0).1, rw c.next-q.ensures (c.requires _ k.1).1)

pub loop-preserved : goal.loop-preserved
loop-preserved c = climb_turn c.loop.invariant (omega arith) (omega arith) c.next-q.ensures (index_less _ c.order_of.ensures (sym c.is_ge.ensures ∙ c.if-is_ge.false))

pub returns-clause-sorted : goal.returns-clause-sorted
returns-clause-sorted c = λ e. climb_end c.loop.invariant (omega arith)
