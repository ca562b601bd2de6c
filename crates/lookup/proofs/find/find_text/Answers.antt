use Rattle.entries.specs.Entries.{Finder}
use Rattle.lookup.proofs.Walking.{found_err, found_ok, found_small}
use Rattle.std.proofs.lemmas.Result.{err_from_is_err_and}
use Rattle.values.proofs.Holding.{reading_held}
use Rattle.lookup.proofs.find.find_text.Goals as goal

pub returns-in_err-read_text : goal.returns-in_err-read_text
returns-in_err-read_text c =
    let e = err_from_is_err_and c.from_residual.result c.from_residual.ensures.1 in
    record { finder = rw (e.1, e.2) (Finder.stop c.in_err-read_text.ensures.read) }

pub resolve-requires : goal.resolve-requires
resolve-requires c = let (v, n, x) = c.in_ok-read_text.ensures.read in (v, reading_held x)

pub invariant_of-result : goal.invariant_of-result
invariant_of-result c = let (v, n, x) = c.in_ok-read_text.ensures.read in record { small = found_small (c.in-Err.ensures.found v (reading_held x)) }

pub returns-in-Ok : goal.returns-in-Ok
returns-in-Ok c = let (v, n, x) = c.in_ok-read_text.ensures.read in record { finder = found_ok x (c.in-Ok.ensures.found v (reading_held x)) }

pub returns-in-Err : goal.returns-in-Err
returns-in-Err c = let (v, n, x) = c.in_ok-read_text.ensures.read in record { finder = found_err x (c.in-Err.ensures.found v (reading_held x)) }
