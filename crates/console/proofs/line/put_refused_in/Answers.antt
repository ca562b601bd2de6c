-- The number behind its word, and the input with the place.
use Prim.Native.Nat.{◌≤◌, ℕ}
use Rattle.console.proofs.Rooms.{in_room}
use Rattle.console.specs.Parts.{in_input, numbered, placed, refusal_room}
use Rattle.console.specs.Programs.{refused_in}
use Rattle.spell.proofs.Joining.{Joined, both_put, first_fits, second_fits, second_start}
use Rattle.text.specs.Bytes.{Bytes, ascii}
use lib.ListN.{length}
use mathlib.Core.List.{append_assoc}
use native.Mathlib.Omega.{arith}
use Rattle.console.proofs.line.put_refused_in.Goals as goal

joined : (n i p : ℕ) (o : Bytes) → refusal_room ≤ length o → Joined (refused_in n i p) (numbered (ascii "refused ") n) (in_input i p) o
unfolding refused_in in_input placed
joined n i p o h = record { whole = simp append_assoc; room = in_room n i p h }

pub put_numbered-n-requires : goal.put_numbered-n-requires
put_numbered-n-requires c = first_fits (joined c.args.number c.args.input c.args.place c.args.out.now c.requires)

pub slice_bounds-put_input-count : goal.slice_bounds-put_input-count
slice_bounds-put_input-count c = second_start (joined c.args.number c.args.input c.args.place c.args.out.now c.requires) c.put_numbered-n.ensures.put

pub slice_bounds-put_input-start : goal.slice_bounds-put_input-start
slice_bounds-put_input-start c = slice_bounds-put_input-count c

pub put_input-requires : goal.put_input-requires
put_input-requires c = second_fits (joined c.args.number c.args.input c.args.place c.args.out.now c.requires) c.put_numbered-n.ensures.put

pub returns : goal.returns
returns c = record { put = both_put (joined c.args.number c.args.input c.args.place c.args.out.now c.requires) c.put_numbered-n.ensures.put c.put_input.ensures.put }

pub overflow_add-result : goal.overflow_add-result
overflow_add-result c = omega (arith, (returns c).put.count, (joined c.args.number c.args.input c.args.place c.args.out.now c.requires).room)
