-- The links of the siblings before `r` are laid.
use Rattle.members.proofs.Laying.{lay_end, lay_fit, lay_next, lay_turn}
use mathlib.Core.Path.{refl}
use native.Mathlib.Omega.{arith}
use Rattle.members.proofs.link.lay.Goals as goal
use Rattle.members.proofs.link.lay.Goals.{else-along, then-along}

pub next-z-requires : goal.next-z-requires
next-z-requires c = (lay_fit c.requires c.loop.invariant (omega arith)).0

pub set_link-requires : goal.set_link-requires
set_link-requires c =
    let p = lay_fit c.requires c.loop.invariant (omega arith) in
    elim c.if-along.branch [
      | then-along w ↦ rw (w.set_link-is, lay_next c.loop.invariant c.next-z.ensures) (rw w.if-along.true at p)
      | else-along w ↦ (p.0, omega (arith, w.set_link-is))
    ]

pub loop-preserved : goal.loop-preserved
loop-preserved c =
    let turn = lay_turn c.requires c.loop.invariant (omega arith) in
    elim c.if-along.branch [
      | then-along w ↦ turn (rw (w.set_link-is, w.if-along.true) (lay_next c.loop.invariant c.next-z.ensures)) c.set_link.ensures c.next-z.ensures
      | else-along w ↦ turn (rw (w.set_link-is, w.if-along.false) refl) c.set_link.ensures c.next-z.ensures
    ]

pub returns : goal.returns
returns c = record { laid = lay_end c.loop.invariant (omega arith) }
