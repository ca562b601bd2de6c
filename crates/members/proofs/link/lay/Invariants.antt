-- The links of the siblings before `r` are laid.
use Prim.Native.Nat.{◌-◌}
use Rattle.members.proofs.Laying.{Laying}
use Rattle.members.specs.Chains.{siblings_of}
use Rattle.members.specs.Records.{next_of}
use mathlib.Core.Bool.{cond}
use Rattle.members.proofs.link.lay.Given as goal

abbrev pub invariant-loop : goal.invariant-loop
invariant-loop l = Laying (λ v. cond l.along (next_of l.initial.table v) 0) (siblings_of l.initial.table l.n l.first) l.initial.table l.table l.r (l.n - l.counter)
