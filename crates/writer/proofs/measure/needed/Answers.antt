-- What is counted and what is pending make up the whole.
use Rattle.values.proofs.Records.{held_few}
use Rattle.writer.proofs.Weighing.{tally_end, tally_first, tally_start, tally_turn, writes_held}
use native.Mathlib.Omega.{arith}
use Rattle.writer.proofs.measure.needed.Goals as goal

pub loop-k-init : goal.loop-k-init
loop-k-init c = tally_start c.requires.0 (writes_held c.requires.1.2).1 c.next-end.ensures c.own_length-n.ensures

pub entry_length-n-requires : goal.entry_length-n-requires
entry_length-n-requires c = (c.requires.0, tally_first c.requires.0 (writes_held c.requires.1.2).1 c.loop-k.invariant c.loop-k-test.true)

pub overflow_add-n : goal.overflow_add-n
overflow_add-n c =
    let h = (writes_held c.requires.1.2).1 in
    omega (arith, (tally_turn c.requires.0 h c.loop-k.invariant c.loop-k-test.true c.entry_length-n.ensures).few, c.next-end.ensures, held_few h)

pub loop-k-preserved : goal.loop-k-preserved
loop-k-preserved c = tally_turn c.requires.0 (writes_held c.requires.1.2).1 c.loop-k.invariant c.loop-k-test.true c.entry_length-n.ensures

pub returns : goal.returns
returns c = λ d s o. tally_end c.loop-k.invariant c.loop-k-test.false o
