-- Digits are stored from the last to the first.
use Prim.Native.Char.{code}
use Prim.Native.Nat.{◌+◌, ◌-◌, ◌/◌, ◌<◌, ◌^◌, ◌≤◌, suc, ℕ}
use Rattle.entries.specs.Answer.{over}
use Rattle.meaning.specs.Canonical.{put_digits}
use Rattle.spell.proofs.Counting.{counted, few_count, length_one, many_count}
use Rattle.spell.proofs.Putting.{put_one}
use Rattle.spell.proofs.Widths.{Last, digit, digits_one, last, width, written}
use Rattle.spell.specs.Puts.{Puts}
use Rattle.text.specs.Bytes.{Bytes}
use Rattle.text.specs.Ceilings.{max_digits}
use lib.ListN.{get_or-append, drop, get_or, length, length-append, set, take}
use lib.Seq.{drop-cons, get_or_at, get_or-take, length-take-le, set_at, take_at, take-suc, take-take}
use mathlib.Core.List.{[], ◌++◌, ◌∷◌, append_assoc}
use mathlib.Core.Path.{◌∙◌, ◌≡◌, ap, ap₂, subst, subst⁻¹, sym}
use native.Mathlib.Omega.{arith}

-- A number of one digit.
pub one_room : (c : ℕ) (o : Bytes) → c < 10 → length (written c) ≤ length o → 1 ≤ length o
one_room c o h r = omega (arith, length_one c h)

pub one_put : (c : ℕ) (o : Bytes) → c < 10 → length (written c) ≤ length o → (m : ℕ) → c < 10 ^ m → 0 < m → Puts (put_digits m c []) o 1 (set o 0 (code "0" + c))
one_put c o h r m l p =
    let e : digit c ≡ code "0" + c = omega arith in
    subst⁻¹ (λ w. Puts w o 1 (set o 0 (code "0" + c))) (digits_one m c [] h p ∙ ap (λ b. b ∷ []) e) (put_one (code "0" + c) o (one_room c o h r))

-- A list that was `a` becomes `b` from behind: one byte more.
from_behind : (a b : Bytes) (i : ℕ) → i < length a → i < length b → set (take (suc i) a ++ drop (suc i) b) i (get_or b i 0) ≡ take i a ++ drop i b
from_behind a b i h l =
    ap (λ z. set (z ++ drop (suc i) b) i (get_or b i 0)) (take-suc a i 0 h)
    ∙ ap (λ z. set z i (get_or b i 0)) (append_assoc (take i a) (get_or a i 0 ∷ []) (drop (suc i) b))
    ∙ set_at (take i a) (get_or a i 0) (drop (suc i) b) (get_or b i 0) i (length-take-le i a (omega arith))
    ∙ ap (λ z. take i a ++ z) (sym (drop-cons b i 0 l))

-- An output that held `o` has its digits of `c` from the offset `i` on; those before it are the digits of `d`.
pub record Filling (c : ℕ) (o : Bytes) (d i : ℕ) (o' : Bytes) : Type 0 where
  pub below : d ≤ c
  pub inside : i ≤ length (written c)
  pub now : o' ≡ take i o ++ drop i (over (written c) o)
  pub before : 0 < i → take i (written c) ≡ written d

module _ {c : ℕ} {o : Bytes} (s : c < 10 ^ max_digits) (r : length (written c) ≤ length o) where
  filling_next : {d j : ℕ} {o' : Bytes} → Filling c o d (suc j) o' → Filling c o (d / 10) j (set o' j (digit d))
  filling_next {d} {j} {o'} f =
      let z : Last max_digits d = last max_digits d (omega (arith, f.below)) (omega arith) in
      let h : suc j ≤ length (written c) = f.inside in
      let w : take (suc j) (written c) ≡ z.front ++ (digit d ∷ []) = f.before (omega arith) ∙ z.all in
      let k : length z.front ≡ j = omega (arith, ap length w, length-append z.front (digit d ∷ []), length-take-le (suc j) (written c) h) in
      let b : get_or (over (written c) o) j 0 ≡ digit d =
      get_or-append (written c) (drop (length (written c)) o) 0 j (omega arith) ∙ sym (get_or-take (suc j) (written c) j 0 (omega arith))
      ∙ ap (λ l. get_or l j 0) w ∙ get_or_at z.front (digit d) [] 0 j k in
      record {
        below = omega (arith, f.below);
        inside = omega arith;
        now = ap₂ (λ l x. set l j x) f.now (sym b) ∙ from_behind o (over (written c) o) j (omega arith) (omega (arith, length-append (written c) (drop (length (written c)) o)));
        before = λ p. sym (take-take j (suc j) (written c) (omega arith)) ∙ ap (take j) w ∙ take_at z.front (digit d ∷ []) j k ∙ z.more (omega arith);
      }

  pub filling_step : {d i : ℕ} {o' : Bytes} → 0 < i → Filling c o d i o' → Filling c o (d / 10) (i - 1) (set o' (i - 1) (digit d))
  filling_step {d} {i} {o'} p f = filling_next (subst (λ i. Filling c o d i o') (let e : i ≡ suc (i - 1) = omega arith in e) f)

  pub filling_end : {n d i : ℕ} {o' : Bytes} → n ≡ length (written c) → i ≤ 0 → Filling c o d i o' → (m : ℕ) → c < 10 ^ m → 0 < m → Puts (put_digits m c []) o n o'
  filling_end {n} {i = i} {o' = o'} e z f m l p =
      let g : i ≡ 0 = omega arith in
      subst (λ w. Puts w o n o') (width max_digits m c [] s l (omega arith) p)
      (record { count = e; now = f.now ∙ ap (λ i. take i o ++ drop i (over (written c) o)) g })

-- What the counting and the storing of digits need.
pub ruleset digits = (few_count, many_count, counted, length_one, one_room, one_put)
