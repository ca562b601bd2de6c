-- A slice that has fewer bytes is its own front.
use lib.Seq.{length-take-le, take_all}
use mathlib.Core.Path.{sym}
use native.Mathlib.Omega.{arith}
use Rattle.console.proofs.front.front.Goals as goal

pub returns-then-s-k : goal.returns-then-s-k
returns-then-s-k c = record { front = sym (take_all c.args.n c.args.s.now (omega arith)) }

pub slice_bounds-result-end : goal.slice_bounds-result-end
slice_bounds-result-end c = sym (length-take-le c.args.n c.args.s.now (omega arith))
