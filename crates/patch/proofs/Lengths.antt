-- What the length of a merge decides, once it is counted.
use Prim.Native.Nat.{◌≤◌, ℕ}
use Rattle.std.specs.Prelude.{Some}
use Rattle.entries.specs.Answer.{Answer, Writing, max_text, over, success}
use Rattle.patch.specs.Emits.{Emits, Fits, most_bytes}
use Rattle.patch.specs.Side.{on_sides}
use Rattle.patch.specs.Walks.{Merges}
use Rattle.patch.specs.declared.side.Side.{Side}
use Rattle.text.specs.Bytes.{Bytes}
use Rattle.text.specs.Table.{Words}
use Rattle.writer.proofs.Lengths.{well_written}
use lib.ListN.{length}
use mathlib.Core.Bool.{Bool, false, true}
use mathlib.Core.Path.{◌∙◌, ◌≡◌, ap, subst, subst⁻¹}
use native.Mathlib.Omega.{arith}

-- A merge that a walk counts, which leaves `o` as it was.
module _ {t p : Bytes} {w x : Words} {o o₁ : Bytes} {n : ℕ} (f : (c : Bytes) → Merges t p w x 0 (Some 0) 0 c → Emits false c o n o₁) where
  pub count_few : (c : Bytes) × Merges t p w x 0 (Some 0) 0 c × Fits false c o → n ≤ most_bytes
  count_few (c, m, k) = omega (arith, k.few, (f c m).count)

  module _ (c : Bytes) (m : Merges t p w x 0 (Some 0) 0 c) where
    pub turned_away : (a : Answer) → ((c : Bytes) → n ≡ length c → Writing c o₁ a o₁) → Writing c o a o₁
    turned_away a r = subst (λ o. Writing c o a o₁) (f c m).now (r c (f c m).count)

-- It leaves the sides too, so the same merge is written.
module _ {t p t₁ p₁ : Side} (s : (t₁ ≡ t) × (p₁ ≡ p)) {o o₁ : Bytes} {n : ℕ}
    (f : (c : Bytes) → on_sides Merges t p 0 (Some 0) 0 c → Emits false c o n o₁) (l : n ≤ length o₁) where
  again : {c : Bytes} → on_sides Merges t p 0 (Some 0) 0 c → on_sides Merges t₁ p₁ 0 (Some 0) 0 c
  again {c} m =
      subst⁻¹ (λ t. on_sides Merges t p₁ 0 (Some 0) 0 c) s.0
      (subst⁻¹ (λ p. on_sides Merges t p 0 (Some 0) 0 c) s.1 m)

  pub write_asks : {on : Bool} → (c : Bytes) × on_sides Merges t p 0 (Some 0) 0 c × Fits false c o
      → (c : Bytes) × on_sides Merges t₁ p₁ 0 (Some 0) 0 c × Fits on c o₁
  write_asks (c, m, k) = (c, again m, record { few = k.few; room = λ _. omega (arith, (f c m).count) })

  pub written : {i : ℕ} {o₂ : Bytes} → ((c : Bytes) → on_sides Merges t₁ p₁ 0 (Some 0) 0 c → Emits true c o₁ i o₂) → n ≤ max_text
      → (c : Bytes) → on_sides Merges t p 0 (Some 0) 0 c → Writing c o (success n) o₂
  written q k c m =
      well_written (f c m).count o k (omega (arith, ap length (f c m).now)) ((q c (again m)).now ∙ ap (over c) (f c m).now)
