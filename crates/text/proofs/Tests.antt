-- Tests of numbers and bytes, taken apart and put together.
use Prim.Native.Char.{code}
use Prim.Native.Nat.{◌<◌, ◌≤◌, suc, zero, ℕ}
use Rattle.text.specs.Bytes.{is_digit, is_e, is_high, is_nonzero, is_plain, is_space}
use borrow.Author.Tests.{eqb-false, eqb-true}
use lib.Dec.{T, T_not, eqb, eqb→eq, leb, leb→le, le→leb, not_T}
use mathlib.Core.Bool.{Bool, ◌&&◌, ◌||◌, false, not, true}
use mathlib.Core.Path.{◌≡◌, refl, subst, subst⁻¹, sym}
use native.Mathlib.Omega.{arith}

pub is_true : {a : Bool} → a ≡ true → T a
is_true e = subst T (sym e) tt

pub true_is : (a : Bool) → T a → a ≡ true
true_is true t = refl
true_is false t = elim t [ ]

pub and_left : (a b : Bool) → T (a && b) → T a
and_left true b t = tt
and_left false b t = t

pub and_right : (a b : Bool) → T (a && b) → T b
and_right true b t = t
and_right false b t = absurd t

pub both : (a b : Bool) → T a → T b → T (a && b)
both true b t u = u
both false b t u = elim t [ ]

pub le_both : (a b c d : ℕ) → a ≤ b → c ≤ d → T (leb a b && leb c d)
le_both a b c d h k = both (leb a b) (leb c d) (le→leb a b h) (le→leb c d k)

pub or_left : (a b : Bool) → T a → T (a || b)
or_left true b t = tt
or_left false b t = elim t [ ]

pub or_right : (a b : Bool) → T b → T (a || b)
or_right true b t = tt
or_right false b t = t

pub either : (a b : Bool) {G : Type 0} → (T a → G) → (T b → G) → T (a || b) → G
either true b f g t = f tt
either false b f g t = g t

pub neither : (a b : Bool) → T (not a) → T (not b) → T (not (a || b))
neither false b t u = u
neither true b t u = elim t [ ]

-- A test that holds of each number below `n` holds of one below `n`.
unfoldable pub each : (ℕ → Bool) → ℕ → Bool
each f zero = true
each f (suc n) = f n && each f n

pub below : (f : ℕ → Bool) (n : ℕ) → T (each f n) → (x : ℕ) → x < n → T (f x)
unfolding each
below f zero t x l = absurd (omega arith)
below f (suc n) t x l = by (eqb x n) refl (λ g. below f n (and_right (f n) (each f n) t) x g)
  where
    by : (b : Bool) → eqb x n ≡ b → (x < n → T (f x)) → T (f x)
    by true e r = subst⁻¹ (λ y. T (f y)) (eqb-true x n e) (and_left (f n) (each f n) t)
    by false e r = let ne : x ≡ n → ⊥ = eqb-false x n e in r (omega arith)

-- What holds of the byte `k` holds of one that is tested to be `k`.
pub byte_at : {b : ℕ} (k : ℕ) (G : ℕ → Type 0) → T (eqb b k) → G k → G b
byte_at {b} k G t = subst⁻¹ G (eqb→eq b k t)

-- What holds of two bytes holds of one that is tested to be either.
pub one_of : (P : ℕ → Type 0) (b k l : ℕ) → T (eqb b k || eqb b l) → P k → P l → P b
one_of P b k l t p q = either (eqb b k) (eqb b l) (λ e. byte_at k P e p) (λ e. byte_at l P e q) t

-- What holds of the four whitespace bytes, and of the two exponent marks, holds of any.
pub space_at : (P : ℕ → Type 0) (b : ℕ) → T (is_space b) → P 0x20 → P 0x09 → P 0x0a → P 0x0d → P b
space_at P b t p q r s =
    either (eqb b 0x20 || eqb b 0x09 || eqb b 0x0a) (eqb b 0x0d)
    (either (eqb b 0x20 || eqb b 0x09) (eqb b 0x0a) (either (eqb b 0x20) (eqb b 0x09) (λ e. byte_at 0x20 P e p) (λ e. byte_at 0x09 P e q)) (λ e. byte_at 0x0a P e r))
    (λ e. byte_at 0x0d P e s) t

pub space_not : (P : ℕ → Bool) (b : ℕ) → T (is_space b) → T (not (P 0x20)) → T (not (P 0x09)) → T (not (P 0x0a)) → T (not (P 0x0d)) → T (not (P b))
space_not P = space_at (λ b. T (not (P b)))

pub not_space : (P : ℕ → Bool) (b : ℕ) → T (P b) → T (not (P 0x20)) → T (not (P 0x09)) → T (not (P 0x0a)) → T (not (P 0x0d)) → T (not (is_space b))
not_space P b t p q r s = not_T (is_space b) λ w. T_not (P b) (space_not P b w p q r s) t

pub not_byte : (P : ℕ → Bool) (b k : ℕ) → T (P b) → T (not (P k)) → T (not (eqb b k))
not_byte P b k t q = not_T (eqb b k) λ e. T_not (P b) (byte_at k (λ b. T (not (P b))) e q) t

pub e_not : (P : ℕ → Bool) (b : ℕ) → T (is_e b) → T (not (P (code "E"))) → T (not (P (code "e"))) → T (not (P b))
e_not P b t p q = one_of (λ b. T (not (P b))) b (code "E") (code "e") t p q

-- The bounds of a class.
pub digit_most : (b : ℕ) → T (is_digit b) → b ≤ code "9"
digit_most b t = leb→le b (code "9") (and_right (leb (code "0") b) (leb b (code "9")) t)

pub nonzero_most : (b : ℕ) → T (is_nonzero b) → b ≤ code "9"
nonzero_most b t = leb→le b (code "9") (and_right (leb (code "1") b) (leb b (code "9")) t)

pub plain_most : (b : ℕ) → T (is_plain b) → b ≤ 0x7f
plain_most b t =
    leb→le b 0x7f (and_right (leb 0x20 b) (leb b 0x7f) (and_left (leb 0x20 b && leb b 0x7f) (not (eqb b (code "\""))) (and_left (leb 0x20 b && leb b 0x7f && not (eqb b (code "\""))) (not (eqb b (code "\\"))) t)))

pub high_least : (b : ℕ) → T (is_high b) → 0x80 ≤ b
high_least b t = leb→le 0x80 b (and_left (leb 0x80 b) (leb b 0xff) t)
