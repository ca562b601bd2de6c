-- Where a token ends: at the first `/`, since none stands inside a token.
use Prim.Native.Char.{code}
use Prim.Native.Nat.{ℕ, suc, ◌+◌, ◌-◌, ◌<◌, ◌≤◌}
use Rattle.lookup.specs.Tokens.{Left, TokenTo, behind_tilde, token_units}
use Rattle.meaning.specs.Pointer.{Token, TokenRest, is_plain_token}
use Rattle.text.proofs.Tests.{not_byte, true_is}
use Rattle.text.specs.Bytes.{Bytes, Units, from}
use Rattle.std.specs.Prelude.{None, Option, Some}
use Rattle.std.proofs.lemmas.Bool.Decides.{nat_tests}
use Rattle.std.proofs.lemmas.List.{take_rest}
use Rattle.std.proofs.lemmas.List.Sums.{prefix_len-le-length}
use Rattle.std.specs.List.{position_or_len}
use Rattle.std.specs.Option.{unwrap_or}
use borrow.Author.Tests.{not-true}
use lib.Dec.{T, eqb, ltb}
use lib.ListN.{drop, get_or, length, length-drop, take}
use lib.Seq.{drop-cons, drop-drop}
use mathlib.Core.Bool.{Bool, cond, false, not}
use mathlib.Core.List.{List, [], ◌∷◌}
use mathlib.Core.Path.{◌∙◌, ◌≡◌, ap, refl, subst, sym}
use native.Mathlib.Numerals.{one-add}
use native.Mathlib.Omega.{arith}

-- How many bytes stand before the first `/`.
abbrev pub is_slash : ℕ → Bool
is_slash b = eqb b (code "/")

abbrev pub before_slash : Bytes → ℕ
before_slash s = position_or_len is_slash s

-- The bytes from `i` on, as a slice has them.
abbrev pub slice_from : Bytes → ℕ → Bytes
slice_from p i = take (length p - i) (drop i p)

-- The place of the first `/`, or the length if there is none.
pub first_slash : (s : Bytes) (r : Option ℕ) → r ≡ cond (ltb (before_slash s) (length s)) (Some (before_slash s)) None → unwrap_or r (length s) ≡ before_slash s
first_slash s r e = grind (arith, nat_tests, prefix_len-le-length)

-- The bytes `s` are the token `us` up to their first `/`, which stands at `m`, and there the tokens `ts` follow.
data Follow (m : ℕ) : Bytes → List Token → Type 0 where
  none : Follow m [] []
  next : {n : ℕ} {i : Bytes} {us : Units} {ts : List Token} → m ≡ n → TokenRest (from (suc n) i) us ts → Follow m (code "/" ∷ i) (Token.token n us ∷ ts)

record Cut (m : ℕ) (s : Bytes) (us : Units) (ts : List Token) : Type 0 where
  means : token_units (take (before_slash s) s) ≡ us
  follow : Follow m (drop (before_slash s) s) ts

plain_not : (b k : ℕ) → T (is_plain_token b) → T (not (is_plain_token k)) → eqb b k ≡ false
plain_not b k t u = not-true (eqb b k) (true_is (not (eqb b k)) (not_byte is_plain_token b k t u))

cut_plain : {m b : ℕ} {s : Bytes} {us : Units} {ts : List Token} → T (is_plain_token b) → Cut m s us ts → Cut m (b ∷ s) (b ∷ us) ts
unfolding token_units
cut_plain {b = b} t c =
    let e = plain_not b (code "/") t tt in
    record { means = simp (e, one-add, plain_not b (code "~") t tt) (ap (λ us. b ∷ us) c.means); follow = simp (e, one-add) c.follow }

cut : {n m : ℕ} {s : Bytes} {us : Units} {ts : List Token} → TokenRest (from n s) us ts → m ≡ n + before_slash s → Cut m s us ts
unfolding token_units behind_tilde
cut TokenRest.end e = record { means = refl; follow = Follow.none }
cut (TokenRest.next {n = n} x) e = record { means = refl; follow = Follow.next {n = n} (omega arith) x }
cut (TokenRest.plain {b = b} t x) e = cut_plain t (cut x (let d = simp (plain_not b (code "/") t tt) at e in omega arith))
cut {m = m} (TokenRest.tilde x) e = let c = cut {m = m} x (omega arith) in record { means = simp one-add (ap (λ us. code "~" ∷ us) c.means); follow = simp one-add c.follow }
cut {m = m} (TokenRest.slash x) e = let c = cut {m = m} x (omega arith) in record { means = simp one-add (ap (λ us. code "/" ∷ us) c.means); follow = simp one-add c.follow }

follow_left : (p : Bytes) (j : ℕ) {s : Bytes} {ts : List Token} → j ≤ length p → drop j p ≡ s → Follow j s ts → Left p j ts
follow_left p j h e Follow.none = Left.none (omega (arith, length-drop j p, ap length e))
follow_left p j h e (Follow.next {n = n} {i = i} {us = us} {ts = ts} q x) =
    let l : j < length p = omega (arith, length-drop j p, ap length e) in
    let d = drop-cons p j 0 l in
    let f : get_or p j 0 ≡ code "/" = cc in
    let g : drop (suc j) p ≡ i = cc in
    subst (λ m. Left p j (Token.token m us ∷ ts)) q (Left.next l f (rw (g, q) x))

-- So the token from `i` on goes up to there.
module _ (p : Bytes) (i j : ℕ) (h : i ≤ length p) (g : j ≡ i + before_slash (slice_from p i)) where
  whole : j ≡ i + before_slash (drop i p)
  whole = rw take_rest at g

  pub end_bound : j ≤ length p
  end_bound = omega (arith, whole, length-drop i p, prefix_len-le-length (λ b. not (is_slash b)) (drop i p))

  pub token_to : {us : Units} {ts : List Token} → TokenRest (from i (drop i p)) us ts → TokenTo p i j us ts
  token_to x =
      let c = cut x whole in
      let n : j - i ≡ before_slash (drop i p) = omega (arith, whole) in
      record { means = rw n c.means; left = follow_left p j end_bound (ap (λ m. drop m p) whole ∙ sym (drop-drop (before_slash (drop i p)) i p)) c.follow }
