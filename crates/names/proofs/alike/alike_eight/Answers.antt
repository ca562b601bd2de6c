-- Each of the eight bytes decides nothing.
use Rattle.names.proofs.Runs.{alike_one}
use Rattle.names.specs.Steps.{Alike}
use Rattle.scan.proofs.Over.{over_eight}
use Rattle.std.proofs.Common.{rules}
use Rattle.std.proofs.lemmas.Bool.{and_parts}
use mathlib.Core.Path.{◌∙◌, refl}
use native.Mathlib.Omega.{arith}
use Rattle.names.proofs.alike.alike_eight.Goals as goal

pub returns-then-eight : goal.returns-then-eight
returns-then-eight c = record {
  alike =
      λ e.
      over_eight (Alike c.args.a.now c.args.b.now c.args.i) refl
      (λ k l m r.
      let (q, s) = and_parts c.eight-then-eight.result c.eight-then-eight-2.result e in
      let x = c.eight.ensures.passed c.if-eight.true k l m in
      let y = c.eight-then-eight.ensures.passed q k l m in
      let z = c.eight-then-eight-2.ensures.passed s k l m in
      r ∙ alike_one _ _ k (omega arith) (omega arith) (search rules) (search rules) (search rules));
}
