use Rattle.patch.proofs.Chaining.{none_left, nothing_chained, plain_chained, stands_object}
use Rattle.patch.proofs.Seeing.{shown, told}
use mathlib.Core.Path.{◌∙◌, sym}
use Rattle.patch.proofs.side.Side.enter_old.Goals as goal

pub is_object-requires : goal.is_object-requires
is_object-requires c = let (d, v, o) = c.requires in (d, v, shown c.view.ensures (rw c.in-Some.is at o))

pub enter-requires : goal.enter-requires
enter-requires c =
    let (d, v, o) = c.requires in
    let s = rw c.in-Some.is at o in
    (d, _, stands_object s (sym (told c.view.ensures c.is_object.ensures d v s) ∙ c.if-is_object.true))

pub returns-in-Some-clause-chained : goal.returns-in-Some-clause-chained
returns-in-Some-clause-chained c =
    λ d v o.
    let s = rw c.in-Some.is at o in
    c.enter.ensures.chained d _ (stands_object s (sym (told c.view.ensures c.is_object.ensures d v s) ∙ c.if-is_object.true))

pub returns-in_default-clause-chained : goal.returns-in_default-clause-chained
returns-in_default-clause-chained c = λ d v o. plain_chained v (sym (told c.view.ensures c.is_object.ensures d v (rw c.in-Some.is at o)) ∙ c.if-is_object.false)

pub returns-in_default-clause-kept : goal.returns-in_default-clause-kept
returns-in_default-clause-kept c = rw c.in-Some.is (none_left _ _)

pub returns-in_default-2-clause-chained : goal.returns-in_default-2-clause-chained
returns-in_default-2-clause-chained c = λ d v o. nothing_chained v (rw c.in_default.is at o)
