use Rattle.meaning.specs.Canonical.{put}
use Rattle.patch.proofs.Emitting.{emit_counted, emit_wrote}
use Rattle.patch.proofs.Standing.{stands_short, stands_writes}
use mathlib.Core.List.{[]}
use Rattle.patch.proofs.side.Side.emit_value.Goals as goal

pub put_value-requires : goal.put_value-requires
put_value-requires c = let (v, x, f) = c.requires.1 in (c.requires.0, (put v [], stands_writes x, f.room c.if-on.true))

pub returns-then-on-clause-emitted : goal.returns-then-on-clause-emitted
returns-then-on-clause-emitted c = λ v x. emit_wrote c.if-on.true (c.put_value.ensures.put (put v []) (stands_writes x))

pub needed-requires : goal.needed-requires
needed-requires c = let (v, x, f) = c.requires.1 in (stands_short x, (c.args.depth, put v [], stands_writes x))

pub returns-clause-emitted : goal.returns-clause-emitted
returns-clause-emitted c = λ v x. emit_counted _ c.if-on.false (c.needed.ensures c.args.depth (put v []) (stands_writes x))
