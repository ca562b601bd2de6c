-- Each sibling is asked whether one before it has its name.
use Rattle.members.proofs.Pairing.{Tells, pairs_found, row_before}
use Rattle.members.proofs.Walking.{at_in, walk_yields}
use Rattle.members.specs.Names.{name_of}
use Rattle.std.proofs.Common.{false, of_calls, rules, true}
use Rattle.std.proofs.lemmas.Iterator.Adapters.{serves_from_places}
use Rattle.std.proofs.lemmas.Iterator.{first_from_find}
use Rattle.members.proofs.pairs.by_pairs.Goals as goal

pub find-requires-clause-callable : goal.find-requires-clause-callable
find-requires-clause-callable c =
    serves_from_places (walk_yields c.siblings.ensures c.requires.siblings) (λ x q k. search rules)
    (λ x k h e. let n = row_before c.requires x (at_in _ k x h e) in search of_calls)

pub returns : goal.returns
returns c =
    record {
      earliest = λ l s.
          let name = name_of c.args.text.now c.args.table.now in
          let tells = Tells name c.args.table.now c.args.first in
          pairs_found name _ _ s _ (first_from_find _ _ _ (tells true) (tells false) c.find.ensures.ran (walk_yields c.siblings.ensures s) (λ x q k. search rules) (λ x q k. search rules));
    }
