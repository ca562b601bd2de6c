-- What is answered where a text is to be written, once its length is known.
use Prim.Native.Nat.{◌<◌, ◌≤◌, ℕ}
use Rattle.entries.specs.Answer.{Writing, max_text, over, refusal, success}
use Rattle.text.specs.Bytes.{Bytes}
use lib.ListN.{length}
use mathlib.Core.Path.{◌≡◌, subst⁻¹}
use native.Mathlib.Omega.{arith}

module _ {c : Bytes} {n : ℕ} (e : n ≡ length c) (o : Bytes) where
  pub too_long : max_text < n → Writing c o (refusal 13 3 n) o
  too_long l = subst⁻¹ (λ n. Writing c o (refusal 13 3 n) o) e (Writing.long (omega arith))

  pub too_narrow : n ≤ max_text → length o < n → Writing c o (refusal 12 3 n) o
  too_narrow l m = subst⁻¹ (λ n. Writing c o (refusal 12 3 n) o) e (Writing.narrow (omega arith) (omega arith))

  pub well_written : {o' : Bytes} → n ≤ max_text → n ≤ length o → o' ≡ over c o → Writing c o (success n) o'
  well_written {o'} l m g = subst⁻¹ (λ n. Writing c o (success n) o') e (subst⁻¹ (Writing c o _) g (Writing.written (omega arith) (omega arith)))
