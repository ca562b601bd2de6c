-- The names before `p` ascend, up to that of `p`.
use Prim.Native.Nat.{◌+◌, ◌-◌}
use Rattle.members.proofs.Climbing.{Climbing}
use Rattle.members.specs.Chains.{siblings_of}
use Rattle.members.specs.Names.{name_of}
use Rattle.members.specs.Records.{next_of}
use Rattle.members.proofs.siblings.ascending.Given as goal

abbrev pub invariant-loop : goal.invariant-loop
invariant-loop l = Climbing (name_of l.text l.table) (next_of l.table) (siblings_of l.table l.n l.first) l.p (l.n + 1 - l.counter)
