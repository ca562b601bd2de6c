-- What is done is a chain from `d` on, what is left the chains `x` and `y`.
use Rattle.members.proofs.MergeTurns.{first_goes, first_gone, midway_end, midway_seat, midway_start, midway_swap, second_goes, second_gone}
use mathlib.Core.Path.{refl}
use native.Mathlib.Omega.{arith}
use Rattle.members.proofs.merge.merge.Goals as goal
use Rattle.members.proofs.merge.merge.Goals.{else-pick, then-pick}

pub loop-init : goal.loop-init
loop-init c = midway_start _ c.requires.1 _ _ _ _ refl refl refl

pub pick-requires : goal.pick-requires
pick-requires c =
    let r = c.requires.1 in
    let s = c.loop.invariant in
    (omega (arith, s.sum), λ h. (midway_seat _ r s h).1, λ h. (midway_seat _ r (midway_swap _ r s) h).1)

pub relink-rest-requires : goal.relink-rest-requires
relink-rest-requires c =
    let s = c.loop.invariant in
    let g = first_goes _ c.requires.1 s _ c.pick.ensures.picked c.if-pick.true in (g.0, g.1.0, s.small)

pub relink-rest-requires-else-pick : goal.relink-rest-requires-else-pick
relink-rest-requires-else-pick c =
    let s = c.loop.invariant in
    let g = second_goes _ c.requires.1 s _ c.pick.ensures.picked c.if-pick.false in (g.0, g.1.0, s.small)

pub loop-preserved : goal.loop-preserved
loop-preserved c =
    elim c.if-pick.branch [
      | then-pick w ↦
          rw (w.table-is, w.x-is, w.y-is, w.d-is)
          (first_gone _ c.requires.1 c.loop.invariant _ c.pick.ensures.picked w.if-pick.true w.relink-rest.ensures.linked w.relink-rest.ensures.left)
      | else-pick w ↦
          rw (w.table-is, w.x-is, w.y-is, w.d-is)
          (second_gone _ c.requires.1 c.loop.invariant _ c.pick.ensures.picked w.if-pick.false w.relink-rest-else-pick.ensures.linked w.relink-rest-else-pick.ensures.left)
    ]

pub returns-clause-merged : goal.returns-clause-merged
returns-clause-merged c = midway_end _ c.requires.1 c.loop.invariant (omega arith)
