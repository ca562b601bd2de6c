-- What is done is a chain from `d` on, what is left the chains `x` and `y`.
use Prim.Native.Nat.{◌+◌}
use Rattle.members.proofs.MergeTurns.{Midway}
use Rattle.members.specs.Chains.{chain_of}
use Rattle.members.proofs.merge.merge.Given as goal

abbrev pub invariant-loop : goal.invariant-loop
invariant-loop l = Midway l.up l.text l.initial.table (chain_of l.initial.table l.fn.left.count l.fn.left.head) (chain_of l.initial.table l.fn.right.count l.fn.right.head) (l.fn.left.count + l.fn.right.count) l.counter l.table l.x.head l.x.count l.y.head l.y.count l.d
