-- `best` is the first repeat among the records up to `p`.
use Prim.Native.Nat.{◌-◌}
use Rattle.members.proofs.Neighbouring.{Nearing}
use Rattle.members.specs.Chains.{chain_of}
use Rattle.members.specs.Links.{link_of}
use Rattle.members.specs.Names.{name_of}
use Rattle.members.proofs.repeat.neighbours.Given as goal

abbrev pub invariant-loop : goal.invariant-loop
invariant-loop l = Nearing (name_of l.text l.table) (link_of l.table) (chain_of l.table l.fn.c.count l.fn.c.head) l.best l.p (l.fn.c.count - l.counter)
