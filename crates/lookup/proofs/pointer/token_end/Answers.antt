use Rattle.lookup.proofs.Ends.{before_slash, end_bound, first_slash, is_slash, slice_from, token_to}
use Rattle.std.proofs.Common.{rules}
use Rattle.std.proofs.lemmas.Iterator.{YieldsList-from_slice}
use Rattle.std.proofs.lemmas.Iterator.Search.{position_from_yields_List}
use borrow.Author.Tests.{tests}
use mathlib.Core.Path.{◌≡◌}
use Prim.Native.Nat.{◌+◌}
use native.Mathlib.Omega.{arith}
use Rattle.lookup.proofs.pointer.token_end.Goals as goal

pub returns : goal.returns
returns c =
    let s = slice_from c.args.pointer.now c.args.at in
    let e = first_slash s _ (position_from_yields_List is_slash _ _ c.position.result c.position.ensures.ran (YieldsList-from_slice s c.iter.ensures.rest) (λ x b q k. search (rules, tests))) in
    let n : c.args.at + c.unwrap_or.result ≡ c.args.at + before_slash s = omega (arith, c.unwrap_or.ensures, e) in
    record { onward = omega arith; bound = end_bound _ _ _ c.requires.0 n; token = λ us ts x. token_to _ _ _ c.requires.0 n x }
