-- The first byte of the value tells where the token is looked for.
use Rattle.lookup.proofs.Finding.{is_named, named_by}
use Rattle.lookup.proofs.Shapes.{array_none, array_step, inside_goes, member_room, object_step, shape}
use Rattle.lookup.specs.Steps.{Stepped}
use Rattle.lookup.specs.Tokens.{token_units}
use Rattle.members.proofs.Walking.{at_in, walk_yields}
use Rattle.std.proofs.Common.{of_calls, rules}
use Rattle.std.proofs.lemmas.Iterator.Adapters.{serves_from_places}
use Rattle.std.proofs.lemmas.Iterator.Consumers.{nth_from_yields_List}
use Rattle.std.proofs.lemmas.Iterator.Search.{find_from_yields_List}
use mathlib.Core.Path.{subst⁻¹}
use native.Mathlib.Omega.{arith}
use Rattle.lookup.proofs.child.child_of.Goals as goal

pub find-requires-clause-can : goal.find-requires-clause-can
find-requires-clause-can c = inside_goes c.siblings-inside.ensures ((shape _ c.requires.1 c.start.ensures c.next.ensures).object c.in-123.is).inside

pub find-requires-clause-callable : goal.find-requires-clause-callable
find-requires-clause-callable c =
    let o = (shape _ c.requires.1 c.start.ensures c.next.ensures).object c.in-123.is in
    serves_from_places (walk_yields c.siblings-inside.ensures o.inside.siblings) (λ x q k. search rules) (λ x k h e. let n = member_room o (at_in _ k x h e) in search of_calls)

pub returns-in-123 : goal.returns-in-123
returns-in-123 c =
    record {
      stepped =
          λ p v h.
          let o = (shape _ h c.start.ensures c.next.ensures).object c.in-123.is in
          let us = token_units c.args.token.now in
          object_step p us o (find_from_yields_List (is_named c.args.text.now c.args.table.now us) _ _ c.find.result c.find.ensures.ran (walk_yields c.siblings-inside.ensures o.inside.siblings) (λ x b q k. search (rules, named_by)));
    }

pub nth-requires : goal.nth-requires
nth-requires c = inside_goes c.siblings-inside.ensures ((shape _ c.requires.1 c.start.ensures c.next.ensures).array c.in-91.is).inside

pub returns-in_err-index_of-in-91 : goal.returns-in_err-index_of-in-91
returns-in_err-index_of-in-91 c =
    record {
      stepped =
          λ p v h.
          let a = (shape _ h c.start.ensures c.next.ensures).array c.in-91.is in
          rw c.from_residual.ensures (array_none p (token_units c.args.token.now) a c.in_err-index_of-in-91.ensures.index);
    }

pub returns-in_ok-index_of-in-91 : goal.returns-in_ok-index_of-in-91
returns-in_ok-index_of-in-91 c =
    record {
      stepped =
          λ p v h.
          let a = (shape _ h c.start.ensures c.next.ensures).array c.in-91.is in
          array_step p (token_units c.args.token.now) a c.in_ok-index_of-in-91.ensures.index (nth_from_yields_List c.nth.result _ _ c.nth.ensures.ran (walk_yields c.siblings-inside.ensures a.inside.siblings));
    }

pub returns-in_default : goal.returns-in_default
returns-in_default c =
    record {
      stepped =
          λ p v h.
          let f = (shape _ h c.start.ensures c.next.ensures).flat (λ e. omega arith) (λ e. omega arith) p (token_units c.args.token.now) in
          subst⁻¹ (Stepped _ _ p _) f Stepped.lost;
    }
