-- A word, and the digits behind it.
use Prim.Native.Nat.{◌≤◌, ℕ}
use Rattle.console.proofs.Rooms.{digits_room}
use Rattle.console.specs.Parts.{numbered}
use Rattle.console.specs.Programs.{decimal}
use Rattle.spell.proofs.Joining.{Joined, both_put, first_fits, second_fits, second_start}
use Rattle.text.specs.Bytes.{Bytes}
use lib.ListN.{length}
use mathlib.Core.Path.{refl}
use native.Mathlib.Omega.{arith}
use Rattle.console.proofs.line.put_numbered.Goals as goal

joined : (before : Bytes) (x : ℕ) (o : Bytes) → length (numbered before x) ≤ length o → Joined (numbered before x) before (decimal x) o
joined before x o h = record { whole = refl; room = h }

pub put_word-n-requires : goal.put_word-n-requires
put_word-n-requires c = first_fits (joined c.args.before.now c.args.x c.args.out.now c.requires)

pub slice_bounds-put_digits-count : goal.slice_bounds-put_digits-count
slice_bounds-put_digits-count c = second_start (joined c.args.before.now c.args.x c.args.out.now c.requires) c.put_word-n.ensures.put

pub slice_bounds-put_digits-start : goal.slice_bounds-put_digits-start
slice_bounds-put_digits-start c = slice_bounds-put_digits-count c

pub put_digits-requires : goal.put_digits-requires
put_digits-requires c = rw c.from.ensures (digits_room c.args.x c.ranges.x (second_fits (joined c.args.before.now c.args.x c.args.out.now c.requires) c.put_word-n.ensures.put))

pub returns : goal.returns
returns c = record { put = both_put (joined c.args.before.now c.args.x c.args.out.now c.requires) c.put_word-n.ensures.put (rw c.from.ensures at (c.put_digits.ensures.put 10 (omega arith) (omega arith))) }

pub overflow_add-result : goal.overflow_add-result
overflow_add-result c = omega (arith, (returns c).put.count, c.requires)
