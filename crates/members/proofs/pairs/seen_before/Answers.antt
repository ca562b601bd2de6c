-- The siblings before `r` have their names in the text, and each is asked whether it has that of `r`.
use Rattle.members.proofs.Looking.{Tells, seen_by}
use Rattle.members.proofs.RowLaws.{row_seats}
use Rattle.members.proofs.Walking.{at_in, walk_yields}
use Rattle.members.specs.Names.{name_of}
use Rattle.std.proofs.Common.{false, of_calls, rules, true}
use Rattle.std.proofs.lemmas.Iterator.Adapters.{serves_from_places}
use Rattle.std.proofs.lemmas.Iterator.{cases_from_any}
use Rattle.members.proofs.pairs.seen_before.Goals as goal

pub any-requires-clause-callable : goal.any-requires-clause-callable
any-requires-clause-callable c =
    serves_from_places (walk_yields c.siblings.ensures c.requires.0.siblings) (λ x q k. search rules)
    (λ x k h e. let n = (row_seats c.requires.0 c.requires.0.siblings x (at_in _ k x h e)).1 in search of_calls)

pub returns : goal.returns
returns c =
    record {
      seen = λ l s.
          let name = name_of c.args.text.now c.args.table.now in
          let r = c.args.r in
          seen_by name l r _ (cases_from_any _ _ _ (Tells name r true) (Tells name r false) c.any.ensures.ran (walk_yields c.siblings.ensures s) (λ x q k. search rules) (λ x q k. search rules));
    }
