-- Steps that write to the front of a lent output, or only count, one behind another.
use Prim.Native.Nat.{ℕ, ◌+◌, ◌-◌, ◌≤◌}
use Rattle.patch.specs.Emits.{Emits, Fits, rest_at}
use Rattle.spell.proofs.Putting.{lend, lend_fits, lend_start, put_none, rest}
use Rattle.spell.specs.Puts.{Puts}
use Rattle.text.specs.Bytes.{Bytes}
use lib.ListN.{drop, length, length-append, take}
use lib.Seq.{drop-length, take-length}
use mathlib.Core.Bool.{Bool, false, true, true≢false}
use mathlib.Core.List.{[], ◌++◌, append-nil}
use mathlib.Core.Path.{◌∙◌, ◌≡◌, ap, ap₂, refl, subst, subst⁻¹, sym}
use native.Mathlib.Omega.{arith}

-- A step that is on writes.
emit_puts : {c o o' : Bytes} {n : ℕ} → Emits true c o n o' → Puts c o n o'
emit_puts p = record { count = p.count; now = p.now }

pub emit_wrote : {on : Bool} {c o o' : Bytes} {n : ℕ} → on ≡ true → Puts c o n o' → Emits on c o n o'
emit_wrote {c = c} {o = o} {o' = o'} {n = n} e p = subst⁻¹ (λ b. Emits b c o n o') e (record { count = p.count; now = p.now })

-- One that is off leaves the output.
pub emit_counted : {on : Bool} {c : Bytes} {n : ℕ} (o : Bytes) → on ≡ false → n ≡ length c → Emits on c o n o
emit_counted {c = c} {n = n} o e f = subst⁻¹ (λ b. Emits b c o n o) e (record { count = f; now = refl })

-- Nothing, and the same text.
pub emit_none : (on : Bool) (o : Bytes) → Emits on [] o 0 o
emit_none true o = emit_wrote refl (put_none o)
emit_none false o = emit_counted o refl refl

pub emit_as : {on : Bool} {c d o o' : Bytes} {n : ℕ} → c ≡ d → Emits on c o n o' → Emits on d o n o'
emit_as {on = on} {o = o} {o' = o'} {n = n} e p = subst (λ w. Emits on w o n o') e p

-- The first part of what fits.
pub fits_first : {on : Bool} (c d : Bytes) {o : Bytes} → Fits on (c ++ d) o → Fits on c o
fits_first c d f = record {
  few = omega (arith, f.few, length-append c d);
  room = λ e. omega (arith, f.room e, length-append c d);
}

-- All of an output is lent again behind a step that only counts.
rest_all : {k : ℕ} (o : Bytes) → k ≡ 0 → rest k o ≡ o
rest_all {k} o e =
    let l : length o - k ≡ length o = omega (arith, e) in
    ap₂ take l (ap (λ i. drop i o) e) ∙ take-length o

-- The laws, with the two cases apart.
start_by : (on : Bool) {c o o₁ : Bytes} {n k : ℕ} → Emits on c o n o₁ → (on ≡ true → length c ≤ length o) → k ≡ rest_at on n → k ≤ length o₁
start_by true p h e = omega (arith, e, lend_start (emit_puts p) (h refl))
start_by false p h e = omega (arith, e)

room_by : (on : Bool) {c o o₁ : Bytes} {n k : ℕ} → Emits on c o n o₁ → (on ≡ true → length c ≤ length o) → k ≡ rest_at on n
    → (d : Bytes) → (on ≡ true → length (c ++ d) ≤ length o) → on ≡ true → length d ≤ length (rest k o₁)
room_by true {o₁ = o₁} p h e d r t = subst (λ i. length d ≤ length (rest i o₁)) (sym e) (lend_fits (emit_puts p) (h refl) d (r refl))
room_by false p h e d r t = absurd (true≢false (sym t))

both_by : (on : Bool) {c o o₁ : Bytes} {n k : ℕ} → Emits on c o n o₁ → (on ≡ true → length c ≤ length o) → k ≡ rest_at on n
    → {d : Bytes} {m : ℕ} {o₂ : Bytes} → Emits on d (rest k o₁) m o₂ → Emits on (c ++ d) o (n + m) (take k o₁ ++ (o₂ ++ drop (length o₁ - k) (drop k o₁)))
both_by true {c = c} {o = o} {o₁ = o₁} {n = n} p h e {d = d} {m = m} {o₂ = o₂} q =
    subst (λ i. Emits true (c ++ d) o (n + m) (take i o₁ ++ (o₂ ++ drop (length o₁ - i) (drop i o₁)))) (sym e)
    (emit_wrote refl (lend (emit_puts p) (h refl) (emit_puts (subst (λ i. Emits true d (rest i o₁) m o₂) e q))))
both_by false {c = c} {o₁ = o₁} {k = k} p h e {d = d} {o₂ = o₂} q =
    let l : length o₁ - k ≡ length o₁ = omega (arith, e) in
    let b : drop (length o₁ - k) (drop k o₁) ≡ [] = ap₂ drop l (ap (λ i. drop i o₁) e) ∙ drop-length o₁ in
    record {
      count = omega (arith, p.count, q.count, length-append c d);
      now = ap₂ ◌++◌ (ap (λ i. take i o₁) e) (ap₂ ◌++◌ (q.now ∙ rest_all o₁ e) b ∙ append-nil o₁) ∙ p.now;
    }

module _ {on : Bool} {c o o₁ : Bytes} {n : ℕ} (p : Emits on c o n o₁) (room : on ≡ true → length c ≤ length o) where
  module _ {k : ℕ} (e : k ≡ rest_at on n) where
    pub rest_start : k ≤ length o₁
    rest_start = start_by on p room e

    -- The next step fits, where both do.
    pub rest_fits : (d : Bytes) → Fits on (c ++ d) o → Fits on d (rest k o₁)
    rest_fits d f = record {
      few = omega (arith, f.few, length-append c d);
      room = room_by on p room e d f.room;
    }

    -- The two together.
    pub emit_both : {d : Bytes} {m : ℕ} {o₂ : Bytes} → Emits on d (rest k o₁) m o₂
        → Emits on (c ++ d) o (n + m) (take k o₁ ++ (o₂ ++ drop (length o₁ - k) (drop k o₁)))
    emit_both q = both_by on p room e q

-- One text behind another.
module _ (a b : Bytes) {on : Bool} {o : Bytes} (f : Fits on (a ++ b) o) where
  pub first_fits : Fits on a o
  first_fits = fits_first a b f

  module _ {n k : ℕ} {o₁ : Bytes} (p : Emits on a o n o₁) (e : k ≡ rest_at on n) where
    pub second_fits : Fits on b (rest k o₁)
    second_fits = rest_fits p first_fits.room e b f

    pub both_emit : {c : Bytes} {m : ℕ} {o₂ : Bytes} → Emits on c (rest k o₁) m o₂
        → Emits on (a ++ c) o (n + m) (take k o₁ ++ (o₂ ++ drop (length o₁ - k) (drop k o₁)))
    both_emit = emit_both p first_fits.room e
