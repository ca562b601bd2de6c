-- The input behind its word, and the place.
use Prim.Native.Nat.{◌≤◌, ℕ}
use Rattle.console.specs.Parts.{in_input, numbered, placed}
use Rattle.spell.proofs.Joining.{Joined, both_put, first_fits, second_fits, second_start}
use Rattle.text.specs.Bytes.{Bytes, ascii}
use lib.ListN.{length}
use mathlib.Core.Path.{refl}
use native.Mathlib.Omega.{arith}
use Rattle.console.proofs.line.put_input.Goals as goal

joined : (i p : ℕ) (o : Bytes) → length (in_input i p) ≤ length o → Joined (in_input i p) (numbered (ascii " in ") i) (placed p) o
unfolding in_input
joined i p o h = record { whole = refl; room = h }

pub put_numbered-n-requires : goal.put_numbered-n-requires
put_numbered-n-requires c = first_fits (joined c.args.input c.args.place c.args.out.now c.requires)

pub slice_bounds-put_place-count : goal.slice_bounds-put_place-count
slice_bounds-put_place-count c = second_start (joined c.args.input c.args.place c.args.out.now c.requires) c.put_numbered-n.ensures.put

pub slice_bounds-put_place-start : goal.slice_bounds-put_place-start
slice_bounds-put_place-start c = slice_bounds-put_place-count c

pub put_place-requires : goal.put_place-requires
put_place-requires c = second_fits (joined c.args.input c.args.place c.args.out.now c.requires) c.put_numbered-n.ensures.put

pub returns : goal.returns
returns c = record { put = both_put (joined c.args.input c.args.place c.args.out.now c.requires) c.put_numbered-n.ensures.put c.put_place.ensures.put }

pub overflow_add-result : goal.overflow_add-result
overflow_add-result c = omega (arith, (returns c).put.count, c.requires)
