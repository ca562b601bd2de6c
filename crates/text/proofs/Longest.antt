-- The longest good beginning of bytes: there is one at most, and it ends before the first byte that can't stand.
-- (`Good` is any property of bytes.)
use Prim.Native.Nat.{◌<◌, ◌≤◌, suc, zero, ℕ}
use Rattle.text.specs.Bytes.{Bytes}
use Rattle.text.specs.Verdict.{Longest}
use lib.ListN.{drop, get_or, length, length-append, length-take, take, take-append-drop}
use lib.Seq.{drop-cons, take-append_seam, take-length, take-suc}
use mathlib.Core.List.{[], ◌++◌, ◌∷◌}
use mathlib.Core.Path.{◌∙◌, ◌≡◌, ap, refl, subst, subst⁻¹, sym}
use native.Mathlib.Omega.{arith}

pub longest_one : (Good : Bytes → Type 0) (t : Bytes) {m n : ℕ} → Longest Good t m → Longest Good t n → m ≡ n
longest_one Good t {m = m} {n = n} (p, q, r) (x, y, z) = let a : m ≤ n = z m p q in let b : n ≤ m = r n x y in omega arith

-- What reaches past `p` begins with `p` and the byte behind it.
pub take_past : (k : ℕ) (p : Bytes) (b : ℕ) (q : Bytes) → length p < k → (r : Bytes) × (take k (p ++ (b ∷ q)) ≡ (p ++ (b ∷ [])) ++ r)
take_past zero p b q h = absurd (omega arith)
take_past (suc k) [] b q h = (take k q, refl)
take_past (suc k) (c ∷ p) b q h = let (r, e) = take_past k p b q (omega arith) in (r, ap (λ t. c ∷ t) e)

-- Good bytes are their own longest good beginning.
pub longest_whole : (Good : Bytes → Type 0) (t : Bytes) → Good t → Longest Good t (length t)
longest_whole Good t g = (omega arith, subst⁻¹ Good (take-length t) g, λ k h _. h)

-- Where beginnings of what is good are good, a good beginning that the byte behind it makes bad is the longest.
pub longest_at : (Good : Bytes → Type 0) → ((p q : Bytes) → Good (p ++ q) → Good p)
    → (t p : Bytes) (b : ℕ) (q : Bytes) → t ≡ p ++ (b ∷ q) → Good p → ¬ (Good (p ++ (b ∷ []))) → Longest Good t (length p)
longest_at Good cut t p b q e g n = subst⁻¹ (λ u. Longest Good u (length p)) e (
  omega (arith, length-append p (b ∷ q)),
  subst⁻¹ Good (take-append_seam p (b ∷ q)) g,
  λ k _ h. within k h,
)
  where
    past : (k : ℕ) → length p < k → Good (take k (p ++ (b ∷ q))) → ⊥
    past k l h = let (r, e) = take_past k p b q l in n (cut (p ++ (b ∷ [])) r (subst Good e h))

    within : (k : ℕ) → Good (take k (p ++ (b ∷ q))) → k ≤ length p
    within k h = let f : ¬ (length p < k) = λ l. past k l h in omega arith

-- A byte inside `t`, what stands before it and what stands behind it.
pub parts_at : (n : ℕ) (t : Bytes) → n < length t → t ≡ take n t ++ (get_or t n 0 ∷ drop (suc n) t)
parts_at n t h = sym (take-append-drop n t) ∙ ap (λ u. take n t ++ u) (drop-cons t n 0 h)

pub cut_at : (n : ℕ) (t : Bytes) → n < length t → (b : ℕ) × (q : Bytes) × (t ≡ take n t ++ (b ∷ q)) × (take (suc n) t ≡ take n t ++ (b ∷ [])) × (length (take n t) ≡ n)
cut_at n t h = (
  get_or t n 0,
  drop (suc n) t,
  parts_at n t h,
  take-suc t n 0 h,
  omega (arith, length-take n t),
)

pub take_next : (p : Bytes) (b : ℕ) (q : Bytes) → take (suc (length p)) (p ++ (b ∷ q)) ≡ p ++ (b ∷ [])
take_next [] b q = refl
take_next (c ∷ p) b q = ap (λ t. c ∷ t) (take_next p b q)
