-- What a look-up in a text's value answers.
use Rattle.std.specs.Prelude.{ℕ, ◌≤◌, List, ◌≡◌, Result, Ok, Err}
use Rattle.meaning.specs.Lookup.{Seen, resolve}
use Rattle.meaning.specs.Pointer.{Malformed, Pointer, Token, max_pointer}
use Rattle.scan.specs.declared.refusal.Refusal.{Refusal}
use Rattle.text.specs.Bytes.{Bytes}
use Rattle.text.specs.Node.{Node}

-- The record of what the pointer `p` names in the value `v`, or where it is malformed, or lost.
pub data Found (p : Bytes) (v : Node) : Result ℕ Refusal → Type 0 where
  malformed : {n : ℕ} → n ≤ max_pointer → Malformed p n → Found p v (Err (Refusal.Malformed n))
  lost : {ts : List Token} {n : ℕ} → n ≤ max_pointer → Pointer p ts → resolve ts 0 v ≡ Seen.lost n → Found p v (Err (Refusal.Lost n))
  found : {ts : List Token} {n : ℕ} {u : Node} → Pointer p ts → resolve ts 0 v ≡ Seen.found n u → Found p v (Ok n)
