-- What each step emits.
use Prim.Native.Char.{code}
use Prim.Native.Nat.{ℕ, ◌+◌, ◌-◌, ◌<◌, ◌≤◌}
use Rattle.entries.specs.Answer.{max_text}
use Rattle.members.specs.Names.{Named, name_of}
use Rattle.members.specs.Records.{word}
use Rattle.patch.proofs.Emitting.{emit_as, emit_counted, emit_wrote}
use Rattle.patch.specs.Emits.{Emits, Fits, end_at, most_bytes}
use Rattle.patch.specs.Turns.{key}
use Rattle.spell.proofs.Joining.{put_as}
use Rattle.spell.proofs.Putting.{lend, lend_fits, put_one, rest}
use Rattle.spell.specs.Puts.{Puts}
use Rattle.text.specs.Bytes.{Bytes}
use Rattle.text.specs.Table.{Words}
use Rattle.writer.proofs.Entries.{empty_length}
use Rattle.writer.proofs.Naming.{named_some}
use Rattle.writer.specs.Containers.{container}
use Rattle.writer.specs.Writes.{named}
use borrow.Author.Tests.{eq-eqb, ne_eqb}
use lib.ListN.{drop, length, set, take}
use mathlib.Core.Bool.{Bool, cond, false, true}
use mathlib.Core.List.{[], ◌++◌, ◌∷◌}
use mathlib.Core.Path.{◌≡◌, ap, sym}
use native.Mathlib.Omega.{arith}

-- What ends an object: both brackets, or one.
pub end_empty : (at : ℕ) → at ≡ 0 → container (code "{") [] ≡ end_at at
unfolding container end_at
end_empty at e = ap (λ q. cond q (code "{" ∷ code "}" ∷ []) (code "}" ∷ [])) (sym (eq-eqb at 0 e))

pub end_more : (at : ℕ) → (at ≡ 0 → ⊥) → code "}" ∷ [] ≡ end_at at
unfolding end_at
end_more at n = ap (λ q. cond q (code "{" ∷ code "}" ∷ []) (code "}" ∷ [])) (sym (ne_eqb at 0 n))

module _ {on : Bool} {at : ℕ} {o : Bytes} (f : Fits on (end_at at) o) (t : on ≡ true) where
  pub empty_room : at ≡ 0 → 2 ≤ length o
  empty_room e = omega (arith, f.room t, ap length (end_empty at e), empty_length (code "{"))

  pub more_room : (at ≡ 0 → ⊥) → 1 ≤ length o
  more_room n = omega (arith, f.room t, ap length (end_more at n))

-- What ends an object asks and gives.
pub ruleset ending = (emit_as, emit_wrote, emit_counted, end_empty, end_more, empty_room, more_room, empty_length, put_one)

-- The name of a member, behind its mark.
module _ (t : Bytes) (w : Words) (r m : ℕ) (l : length t ≤ max_text) (n : Named t w r) where
  key_is : (m ∷ []) ++ named t (word w r 2) ≡ key m (name_of t w r)
  unfolding name_of
  key_is = ap (λ (s : Bytes). m ∷ s) (named_some t (λ e. omega (arith, e, n.1, l)))

  key_length : length (key m (name_of t w r)) ≡ 1 + length (named t (word w r 2))
  key_length = omega (arith, ap length key_is)

  pub key_counted : {on : Bool} {k : ℕ} {o : Bytes} → on ≡ false → k ≡ length (named t (word w r 2)) → Emits on (key m (name_of t w r)) o (1 + k) o
  key_counted e f = emit_counted _ e (omega (arith, f, key_length))

  module _ {on : Bool} {o : Bytes} (f : Fits on (key m (name_of t w r)) o) where
    pub key_few : length (named t (word w r 2)) < most_bytes
    key_few = omega (arith, f.few, key_length)

    module _ (e : on ≡ true) where
      pub mark_room : 1 ≤ length o
      mark_room = omega (arith, f.room e, key_length)

      pub name_room : length (named t (word w r 2)) ≤ length (rest 1 (set o 0 m))
      name_room = lend_fits (put_one m o mark_room) mark_room (named t (word w r 2)) (omega (arith, f.room e, key_length))

      pub key_puts : {k : ℕ} {o₂ : Bytes} → Puts (named t (word w r 2)) (rest 1 (set o 0 m)) k o₂
          → Emits on (key m (name_of t w r)) o (1 + k) (take 1 (set o 0 m) ++ (o₂ ++ drop (length (set o 0 m) - 1) (drop 1 (set o 0 m))))
      key_puts q = emit_wrote e (put_as key_is (lend (put_one m o mark_room) mark_room q))

pub ruleset keys = (key_counted, key_few, mark_room, name_room, key_puts)
