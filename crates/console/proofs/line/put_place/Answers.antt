-- The place behind its word, and the line feed.
use Prim.Native.Nat.{◌≤◌, ℕ}
use Rattle.console.specs.Parts.{numbered, placed}
use Rattle.console.specs.Programs.{feed}
use Rattle.spell.proofs.Joining.{Joined, both_put, first_fits, second_fits, second_start}
use Rattle.text.specs.Bytes.{Bytes, ascii}
use lib.ListN.{length}
use mathlib.Core.Path.{refl}
use native.Mathlib.Omega.{arith}
use Rattle.console.proofs.line.put_place.Goals as goal

joined : (p : ℕ) (o : Bytes) → length (placed p) ≤ length o → Joined (placed p) (numbered (ascii " at ") p) feed o
unfolding placed
joined p o h = record { whole = refl; room = h }

pub put_numbered-n-requires : goal.put_numbered-n-requires
put_numbered-n-requires c = first_fits (joined c.args.place c.args.out.now c.requires)

pub slice_bounds-put_word-count : goal.slice_bounds-put_word-count
slice_bounds-put_word-count c = second_start (joined c.args.place c.args.out.now c.requires) c.put_numbered-n.ensures.put

pub slice_bounds-put_word-start : goal.slice_bounds-put_word-start
slice_bounds-put_word-start c = slice_bounds-put_word-count c

pub put_word-requires : goal.put_word-requires
put_word-requires c = second_fits (joined c.args.place c.args.out.now c.requires) c.put_numbered-n.ensures.put

pub returns : goal.returns
returns c = record { put = both_put (joined c.args.place c.args.out.now c.requires) c.put_numbered-n.ensures.put c.put_word.ensures.put }

pub overflow_add-result : goal.overflow_add-result
overflow_add-result c = omega (arith, (returns c).put.count, c.requires)
