-- Steps that write to the front of a lent output, one behind another.
use Prim.Native.Nat.{ℕ, suc, ◌+◌, ◌-◌, ◌<◌, ◌≤◌}
use Rattle.entries.proofs.Slices.{over_length}
use Rattle.entries.specs.Answer.{over}
use Rattle.spell.specs.Puts.{Puts}
use Rattle.text.specs.Bytes.{Bytes}
use lib.ListN.{drop, get_or, length, length-append, length-drop, set, take}
use lib.Seq.{drop_at, drop-cons, drop-drop, drop-length, paste-suc, set_at, take_at, take-length}
use mathlib.Core.List.{[], ◌++◌, ◌∷◌, append_assoc, append-nil}
use mathlib.Core.Path.{◌∙◌, ◌≡◌, ap, ap₂, refl, sym}
use native.Mathlib.Nat.{zero-add}
use native.Mathlib.Numerals.{add-one}
use native.Mathlib.Omega.{arith}

-- What a first step left of an output, as it is lent to the next.
abbrev pub rest : ℕ → Bytes → Bytes
rest n o = take (length o - n) (drop n o)

-- Nothing is written, and one byte.
pub put_none : (o : Bytes) → Puts [] o 0 o
put_none o = record { count = refl; now = refl }

pub put_one : (b : ℕ) (o : Bytes) → 1 ≤ length o → Puts (b ∷ []) o 1 (set o 0 b)
put_one b [] h = absurd (omega arith)
put_one b (x ∷ o) h = record { count = refl; now = refl }

-- A copy of `s` that has come to `j`.
abbrev pub copied : Bytes → Bytes → ℕ → Bytes
copied s o j = take j s ++ drop j o

module _ (s o : Bytes) where
  pub copy_more : (j : ℕ) → j < length s → j < length o → set (copied s o j) j (get_or s j 0) ≡ copied s o (j + 1)
  copy_more j h k = rw add-one (simp zero-add at (paste-suc o 0 s j 0 (omega arith) h))

  pub copy_end : {j : ℕ} {o' : Bytes} → j ≡ length s → o' ≡ copied s o j → Puts s o (length s) o'
  copy_end e f = record { count = refl; now = f ∙ rw (e, take-length) }

module _ {c o o₁ : Bytes} {n : ℕ} (p : Puts c o n o₁) (h : length c ≤ length o) where
  -- The length of an output stays.
  pub put_length : length o₁ ≡ length o
  put_length = ap length p.now ∙ over_length c o h

  pub put_rest : rest n o₁ ≡ drop (length c) o
  put_rest =
      let d : drop n o₁ ≡ drop (length c) o = ap₂ drop p.count p.now ∙ drop_at c (drop (length c) o) (length c) refl in
      let k : length o₁ - n ≡ length (drop (length c) o) = omega (arith, put_length, p.count, length-drop (length c) o) in
      ap₂ take k d ∙ take-length (drop (length c) o)

  -- The next step fits, where both do.
  pub lend_fits : (d : Bytes) → length (c ++ d) ≤ length o → length d ≤ length (rest n o₁)
  lend_fits d l = omega (arith, length-append c d, ap length put_rest, length-drop (length c) o)

  pub lend_start : n ≤ length o₁
  lend_start = omega (arith, put_length, p.count)

  -- The two together.
  pub lend : {d : Bytes} {m : ℕ} {o₂ : Bytes} → Puts d (rest n o₁) m o₂
      → Puts (c ++ d) o (n + m) (take n o₁ ++ (o₂ ++ drop (length o₁ - n) (drop n o₁)))
  lend {d} {m} {o₂} q =
      let e : drop n o₁ ≡ drop (length c) o = ap₂ drop p.count p.now ∙ drop_at c (drop (length c) o) (length c) refl in
      let k : length o₁ - n ≡ length (drop (length c) o) = omega (arith, put_length, p.count, length-drop (length c) o) in
      let b : drop (length o₁ - n) (drop n o₁) ≡ [] = ap₂ drop k e ∙ drop-length (drop (length c) o) in
      let a : take n o₁ ≡ c = ap₂ take p.count p.now ∙ take_at c (drop (length c) o) (length c) refl in
      let g : o₂ ≡ d ++ drop (length d) (drop (length c) o) = q.now ∙ ap (over d) put_rest in
      let l : length c + length d ≡ length (c ++ d) = omega (arith, length-append c d) in
      record {
        count = omega (arith, p.count, q.count, length-append c d);
        now = ap₂ ◌++◌ a (ap₂ ◌++◌ (g ∙ ap (λ z. d ++ z) (drop-drop (length d) (length c) o ∙ ap (λ z. drop z o) l)) b ∙ append-nil (d ++ drop (length (c ++ d)) o))
            ∙ sym (append_assoc c d (drop (length (c ++ d)) o));
      }

  -- One byte more.
  pub put_byte : (z : ℕ) → length c < length o → Puts (c ++ (z ∷ [])) o (n + 1) (set o₁ n z)
  put_byte z l =
      let e : o₁ ≡ c ++ (get_or o (length c) 0 ∷ drop (suc (length c)) o) = p.now ∙ ap (λ r. c ++ r) (drop-cons o (length c) 0 l) in
      let k : length (c ++ (z ∷ [])) ≡ suc (length c) = length-append c (z ∷ []) ∙ omega arith in
      record {
        count = omega (arith, p.count, k);
        now = ap (λ r. set r n z) e ∙ set_at c (get_or o (length c) 0) (drop (suc (length c)) o) z n (sym p.count)
            ∙ sym (append_assoc c (z ∷ []) (drop (suc (length c)) o)) ∙ ap (λ m. (c ++ (z ∷ [])) ++ drop m o) (sym k);
      }
