-- Equal meanings are what 01 "What a text means" says: an object is the set of its members, and a decimal is a
-- number.
use Prim.Native.Nat.{◌%◌, ◌*◌, ◌+◌, ◌-◌, ◌<◌, ◌^◌, ◌≤◌, suc, zero, ℕ}
use Rattle.meaning.proofs.Keeps.{KeepsPairs, Normal}
use Rattle.meaning.proofs.Members.{Which, at_it, at_other, some_none, un_some, which}
use Rattle.meaning.proofs.Merging.{member_of}
use Rattle.meaning.specs.Meaning.{Maybe, Meaning, Pairs, Tree, at, mean}
use Rattle.text.proofs.Decimals.{strip_normal}
use Rattle.text.specs.Bytes.{Units}
use Rattle.text.specs.Ceilings.{max_power}
use Rattle.text.specs.Decimal.{Decimal, normal, scaled, strip, zeros}
use borrow.Author.Tests.{eqb-false, eqb-true, leb-false, leb-true}
use lib.Dec.{eqb, leb}
use lib.Pow.{pow-add}
use mathlib.Core.Bool.{Bool, cond, false, true}
use mathlib.Core.Logic.{◌↔◌}
use mathlib.Core.Path.{◌∙◌, ◌≡◌, ap, ap₂, fun_ext, refl, sym}
use native.Mathlib.Nat.{mul_assoc, pow-suc, zero-mul}
use native.Mathlib.Omega.{arith}

-- `In k t ps`: the name `k` with the value `t` is one of the members `ps`.
pub data In (k : Units) (t : Tree) : Pairs → Type 0 where
  first : {j : Units} {ps : Pairs} → k ≡ j → In k t (Pairs.pair j t ps)
  later : {j : Units} {s : Tree} {ps : Pairs} → In k t ps → In k t (Pairs.pair j s ps)

-- Each member of the one has its like in the other: the same name, and a value that means the same.
abbrev pub Within : Pairs → Pairs → Type 0
Within ps qs = (k : Units) (t : Tree) → In k t ps → (s : Tree) × In k s qs × (mean t ≡ mean s)

-- Members that keep to the ceilings mean at each member's name what its value means, and nothing else anywhere.
in_at : {d : ℕ} {ps : Pairs} {k : Units} {t : Tree} → KeepsPairs d ps → In k t ps → at ps k ≡ Maybe.some (mean t)
in_at {k = k} {t = t} (KeepsPairs.pair {k = j} {ps = ps} u f o os) (In.first e) = at_it j t ps k e
in_at {k = k} {t = t} (KeepsPairs.pair {k = j} {t = s} {ps = ps} u f o os) (In.later i) =
    let h : at ps k ≡ Maybe.some (mean t) = in_at os i in
    at_other j s ps k (λ e. some_none (sym h ∙ ap (at ps) e ∙ f)) ∙ h
in_at (KeepsPairs.empty) x4 = elim x4 [ ]

at_in : (ps : Pairs) (k : Units) {m : Meaning} → at ps k ≡ Maybe.some m → (t : Tree) × In k t ps × (mean t ≡ m)
unfolding at
at_in Pairs.empty k e = absurd (some_none (sym e))
at_in (Pairs.pair j t ps) k {m} e = by (which k j) (λ h. at_in ps k h)
  where
    by : Which k j → (at ps k ≡ Maybe.some m → (s : Tree) × In k s ps × (mean s ≡ m)) → (s : Tree) × In k s (Pairs.pair j t ps) × (mean s ≡ m)
    by (Which.it p) f = (t, In.first p, un_some (sym (at_it j t ps k p) ∙ e))
    by (Which.other p) f = let (s, i, q) = f (sym (at_other j t ps k p) ∙ e) in (s, In.later i, q)

-- Two objects mean the same exactly when each member of either has its like in the other.
pub objects : {d e : ℕ} {ps qs : Pairs} → KeepsPairs d ps → KeepsPairs e qs → (mean (Tree.object ps) ≡ mean (Tree.object qs)) ↔ (Within ps qs × Within qs ps)
unfolding mean member_of
objects {ps = ps} {qs = qs} x y = (
  (λ e.
      let h : (k : Units) → at ps k ≡ at qs k = λ k. ap (λ m. member_of m k) e in (
        (λ k t i. let (s, j, q) = at_in qs k (sym (h k) ∙ in_at x i) in (s, j, sym q)),
        (λ k t i. let (s, j, q) = at_in ps k (h k ∙ in_at y i) in (s, j, sym q)),
      )),
  (λ (f, g). ap Meaning.object (fun_ext (λ k. by f g k (at ps k) (at qs k) refl refl))),
)
  where
    by : Within ps qs → Within qs ps → (k : Units) (a b : Maybe) → at ps k ≡ a → at qs k ≡ b → at ps k ≡ at qs k
    by f g k Maybe.none Maybe.none p q = p ∙ sym q
    by f g k Maybe.none (Maybe.some b) p q =
        let (t, i, e) = at_in qs k q in let (s, j, r) = g k t i in absurd (some_none (sym (in_at x j) ∙ p))
    by f g k (Maybe.some a) b p q =
        let (t, i, e) = at_in ps k p in
        let (s, j, r) = f k t i in
        p ∙ ap Maybe.some (sym e ∙ r) ∙ sym (in_at y j)

-- How many times ten to the minus `n` a decimal is, apart from its sign, if `n` is large enough; and whether it is
-- negative.
unfoldable pub units : ℕ → Decimal → ℕ
units n (Decimal.decimal neg c false e) = c * 10 ^ (n + e)
units n (Decimal.decimal neg c true e) = c * 10 ^ (n - e)

unfoldable pub is_negative : Decimal → Bool
is_negative (Decimal.decimal neg c down e) = neg

-- Coefficients that don't end in 0 give the same number only with the same power of ten.
times_ten : (c a : ℕ) → c * 10 ^ suc a ≡ c * 10 ^ a * 10
times_ten c a = ap (λ x. c * x) (pow-suc 10 a) ∙ sym (mul_assoc c (10 ^ a) 10)

one_power : (c d a b : ℕ) → ¬ (c % 10 ≡ 0) → ¬ (d % 10 ≡ 0) → c * 10 ^ a ≡ d * 10 ^ b → (a ≡ b) × (c ≡ d)
one_power c d zero zero h k e = (refl, let z : c ≡ d = omega arith in z)
one_power c d zero (suc b) h k e = absurd (h (let t : d * 10 ^ suc b ≡ d * 10 ^ b * 10 = times_ten d b in omega arith))
one_power c d (suc a) zero h k e = absurd (k (let t : c * 10 ^ suc a ≡ c * 10 ^ a * 10 = times_ten c a in omega arith))
one_power c d (suc a) (suc b) h k e =
    let t : c * 10 ^ suc a ≡ c * 10 ^ a * 10 = times_ten c a in
    let u : d * 10 ^ suc b ≡ d * 10 ^ b * 10 = times_ten d b in
    let (p, q) = one_power c d a b h k (let z : c * 10 ^ a ≡ d * 10 ^ b = omega arith in z) in
    (ap suc p, q)

not_zero : (c a : ℕ) → 0 < c → ¬ (c * 10 ^ a ≡ 0)
not_zero c zero h e = omega arith
not_zero c (suc a) h e =
    not_zero c a h (let t : c * 10 ^ suc a ≡ c * 10 ^ a * 10 = times_ten c a in let z : c * 10 ^ a ≡ 0 = omega arith in z)

-- Normal decimals that are the same number are the same decimal.
pub one_decimal : (n : ℕ) → max_power ≤ n → {x y : Decimal} → Normal x → Normal y → is_negative x ≡ is_negative y → units n x ≡ units n y → x ≡ y
unfolding units is_negative
one_decimal n l Normal.zero Normal.zero s e = refl
one_decimal n l Normal.zero (Normal.up {c = c} {e = k} p q r m) s e = absurd (not_zero c (n + k) p (omega arith))
one_decimal n l Normal.zero (Normal.down {c = c} {e = k} p q r o m) s e = absurd (not_zero c (n - k) p (omega arith))
one_decimal n l (Normal.up {c = c} {e = k} p q r m) Normal.zero s e = absurd (not_zero c (n + k) p (omega arith))
one_decimal n l (Normal.down {c = c} {e = k} p q r o m) Normal.zero s e = absurd (not_zero c (n - k) p (omega arith))
one_decimal n l (Normal.up {neg = v} {c = c} {e = k} p q r m) (Normal.up {neg = w} {c = d} {e = j} p' q' r' m') s e =
    let (a, b) = one_power c d (n + k) (n + j) r r' e in
    let g : k ≡ j = omega arith in
    cc
one_decimal n l (Normal.up {c = c} {e = k} p q r m) (Normal.down {c = d} {e = j} p' q' r' o' m') s e =
    let (a, b) = one_power c d (n + k) (n - j) r r' e in absurd (omega arith)
one_decimal n l (Normal.down {c = c} {e = k} p q r o m) (Normal.up {c = d} {e = j} p' q' r' m') s e =
    let (a, b) = one_power c d (n - k) (n + j) r r' e in absurd (omega arith)
one_decimal n l (Normal.down {c = c} {e = k} p q r o m) (Normal.down {c = d} {e = j} p' q' r' o' m') s e =
    let (a, b) = one_power c d (n - k) (n - j) r r' e in
    let g : k ≡ j = omega arith in
    cc

scaled_units : (n : ℕ) (neg : Bool) (c z p m : ℕ) → m ≤ n → units n (scaled neg c (p + z) m) ≡ c * 10 ^ z * 10 ^ (n + p - m)
unfolding units scaled
scaled_units n neg c z p m l = by (leb m (p + z)) refl
  where
    shift : c * 10 ^ (z + (n + p - m)) ≡ c * 10 ^ z * 10 ^ (n + p - m)
    shift = ap (λ x. c * x) (pow-add 10 z (n + p - m)) ∙ sym (mul_assoc c (10 ^ z) (10 ^ (n + p - m)))

    by : (b : Bool) → leb m (p + z) ≡ b
        → units n (cond b (Decimal.decimal neg c false (p + z - m)) (Decimal.decimal neg c true (m - (p + z)))) ≡ c * 10 ^ z * 10 ^ (n + p - m)
    by true e = let h : m ≤ p + z = leb-true m (p + z) e in ap (λ x. c * 10 ^ x) (let g : n + (p + z - m) ≡ z + (n + p - m) = omega arith in g) ∙ shift
    by false e = let h : p + z < m = leb-false m (p + z) e in ap (λ x. c * 10 ^ x) (let g : n - (m - (p + z)) ≡ z + (n + p - m) = omega arith in g) ∙ shift

nothing : (n c a : ℕ) → c ≡ 0 → units n (Decimal.decimal false 0 false 0) ≡ c * 10 ^ a
unfolding units
nothing n c a e = zero-mul (10 ^ (n + 0)) ∙ sym (ap (λ x. x * 10 ^ a) e ∙ zero-mul (10 ^ a))

-- A number as it is written and its normal form are the same number: `k` digits that come to `c`, `f` of them
-- behind the point, times ten to the `e`, and to minus `e`.
pub same_number : (n : ℕ) (neg : Bool) (c k f e : ℕ) → c < 10 ^ k → f ≤ n → units n (normal neg c k f false e) ≡ c * 10 ^ (n + e - f)
unfolding normal
same_number n neg c k f e l m = by (eqb c 0) refl
  where
    by : (b : Bool) → eqb c 0 ≡ b → units n (cond b (Decimal.decimal false 0 false 0) (scaled neg (strip k c) (e + zeros k c) f)) ≡ c * 10 ^ (n + e - f)
    by true q = nothing n c (n + e - f) (eqb-true c 0 q)
    by false q =
        let h : ¬ (c ≡ 0) = eqb-false c 0 q in
        let (x, y) = strip_normal k c (omega arith) l in
        scaled_units n neg (strip k c) (zeros k c) e f m ∙ ap (λ x. x * 10 ^ (n + e - f)) (sym x)

pub same_number_down : (n : ℕ) (neg : Bool) (c k f e : ℕ) → c < 10 ^ k → e + f ≤ n → units n (normal neg c k f true e) ≡ c * 10 ^ (n - (e + f))
unfolding normal
same_number_down n neg c k f e l m = by (eqb c 0) refl
  where
    by : (b : Bool) → eqb c 0 ≡ b → units n (cond b (Decimal.decimal false 0 false 0) (scaled neg (strip k c) (zeros k c) (e + f))) ≡ c * 10 ^ (n - (e + f))
    by true q = nothing n c (n - (e + f)) (eqb-true c 0 q)
    by false q =
        let h : ¬ (c ≡ 0) = eqb-false c 0 q in
        let (x, y) = strip_normal k c (omega arith) l in
        ap (λ z. units n (scaled neg (strip k c) z (e + f))) (let g : zeros k c ≡ 0 + zeros k c = omega arith in g)
        ∙ scaled_units n neg (strip k c) (zeros k c) 0 (e + f) m ∙ ap₂ (λ x y. x * 10 ^ y) (sym x) (let g : n + 0 - (e + f) ≡ n - (e + f) = omega arith in g)

-- And they have the same sign, but that zero has none.
pub same_sign : (neg : Bool) (c k f : ℕ) (down : Bool) (e : ℕ) → 0 < c → is_negative (normal neg c k f down e) ≡ neg
unfolding normal is_negative scaled
same_sign neg c k f down e h = by (eqb c 0) refl
  where
    either_way : (b : Bool) (c p q : ℕ) → is_negative (cond b (Decimal.decimal neg c false p) (Decimal.decimal neg c true q)) ≡ neg
    either_way true c p q = refl
    either_way false c p q = refl

    nonzero : (d : Bool) → is_negative (cond d (scaled neg (strip k c) (zeros k c) (e + f)) (scaled neg (strip k c) (e + zeros k c) f)) ≡ neg
    nonzero true = either_way (leb (e + f) (zeros k c)) (strip k c) (zeros k c - (e + f)) (e + f - zeros k c)
    nonzero false = either_way (leb f (e + zeros k c)) (strip k c) (e + zeros k c - f) (f - (e + zeros k c))

    by : (b : Bool) → eqb c 0 ≡ b
        → is_negative (cond b (Decimal.decimal false 0 false 0) (cond down (scaled neg (strip k c) (zeros k c) (e + f)) (scaled neg (strip k c) (e + zeros k c) f))) ≡ neg
    by true q = absurd (let z : c ≡ 0 = eqb-true c 0 q in omega arith)
    by false q = nonzero down
