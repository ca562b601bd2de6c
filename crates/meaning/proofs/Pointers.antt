-- Pointers as a function: it finds the tokens exactly where the rules give them, and else the place of refusal 10.
-- It is a tool of the proofs; what is promised is said by `Pointer` and `Malformed`.
use Prim.Native.Char.{code}
use Prim.Native.Nat.{◌+◌, ◌<◌, ◌≤◌, suc, ℕ}
use Rattle.meaning.specs.Pointer.{Begins, Malformed, Pointer, Token, TokenRest, Tokens, is_plain_token, max_pointer}
use Rattle.text.proofs.Longest.{longest_at, longest_one, longest_whole}
use Rattle.text.proofs.Tests.{is_true, true_is}
use Rattle.text.specs.Bytes.{Bytes, Source, Units, from}
use Rattle.text.specs.Verdict.{Longest}
use borrow.Author.Tests.{eqb-true, leb-false, leb-true}
use lib.Dec.{T, eqb, leb}
use lib.ListN.{length, length-append, length-take, take}
use lib.Seq.{take_all}
use mathlib.Core.Bool.{Bool, false, true, true≢false}
use mathlib.Core.List.{List, [], ◌++◌, ◌∷◌, append_assoc, append-nil}
use mathlib.Core.Logic.{◌↔◌}
use mathlib.Core.Path.{◌∙◌, ◌≡◌, ap, refl, subst, subst⁻¹, sym}
use native.Mathlib.Omega.{arith}

-- What stands behind a `/`: a token and the tokens behind it, or the place of the first byte that can't stand.
pub data Split : Type 0 where
  good : Units → List Token → Split
  bad : ℕ → Split

-- Other units and tokens where there are any; a fault stays.
unfoldable pub change : (Units → Units) → (Units → List Token → List Token) → Split → Split
change f g (Split.good us ts) = Split.good (f us) (g us ts)
change f g (Split.bad p) = Split.bad p

-- With a unit in front of the token, or a `/` at `n`.
abbrev pub with_unit : ℕ → Split → Split
with_unit u = change (λ us. u ∷ us) (λ us ts. ts)

abbrev pub with_slash : ℕ → Split → Split
with_slash n = change (λ us. []) (λ us ts. Token.token n us ∷ ts)

-- From the offset `n` on; `splitTilde` is behind a `~`.
unfoldable mutual
  unfolding change

  pub split : Bytes → ℕ → Split
  split [] n = Split.good [] []
  split (b ∷ i) n =
      elim (is_plain_token b) [
        | true ↦ with_unit b (split i (suc n))
        | false ↦ elim (eqb b (code "/")) [
          | true ↦ with_slash n (split i (suc n))
          | false ↦ elim (eqb b (code "~")) [ true ↦ split_tilde i (suc n) | false ↦ Split.bad n ]
        ]
      ]

  pub split_tilde : Bytes → ℕ → Split
  split_tilde [] n = Split.bad n
  split_tilde (b ∷ i) n =
      elim (eqb b (code "0")) [
        | true ↦ with_unit (code "~") (split i (suc n))
        | false ↦ elim (eqb b (code "1")) [ true ↦ with_unit (code "/") (split i (suc n)) | false ↦ Split.bad n ]
      ]

-- The tokens of the bytes, or the place where they are malformed.
pub data Parsed : Type 0 where
  tokens : List Token → Parsed
  malformed : ℕ → Parsed

unfoldable pub opened : Split → Parsed
opened (Split.good us ts) = Parsed.tokens (Token.token 0 us ∷ ts)
opened (Split.bad p) = Parsed.malformed p

unfoldable pub parse : Bytes → Parsed
unfolding opened split
parse [] = Parsed.tokens []
parse (b ∷ i) = elim (eqb b (code "/")) [ true ↦ opened (split i 1) | false ↦ Parsed.malformed 0 ]

-- Bytes of more than `m` are malformed at the latest behind the first `m`.
unfoldable pub cut_off : ℕ → Parsed → Parsed
cut_off m (Parsed.tokens ts) = Parsed.malformed m
cut_off m (Parsed.malformed p) = Parsed.malformed p

unfoldable pub check_within : ℕ → Bytes → Parsed
unfolding parse cut_off
check_within m t = elim (leb (length t) m) [ true ↦ parse t | false ↦ cut_off m (parse (take m t)) ]

-- With the house ceiling.
unfoldable pub check_pointer : Bytes → Parsed
unfolding check_within
check_pointer p = check_within max_pointer p

-- What the rules give, the function finds.
split_complete : {n : ℕ} {i : Bytes} {us : Units} {ts : List Token} → TokenRest (from n i) us ts → split i n ≡ Split.good us ts
unfolding split
split_complete TokenRest.end = refl
split_complete (TokenRest.next {n = n} x) = ap (with_slash n) (split_complete x)
split_complete (TokenRest.plain {n = n} {b = b} {i = i} t x) =
    ap (λ c. elim c as (λ _. Split) [
      | true ↦ with_unit b (split i (suc n))
      | false ↦ elim (eqb b (code "/")) [
        | true ↦ with_slash n (split i (suc n))
        | false ↦ elim (eqb b (code "~")) [ true ↦ split_tilde i (suc n) | false ↦ Split.bad n ]
      ]
    ]) (true_is (is_plain_token b) t)
    ∙ ap (with_unit b) (split_complete x)
split_complete (TokenRest.tilde x) = ap (with_unit (code "~")) (split_complete x)
split_complete (TokenRest.slash x) = ap (with_unit (code "/")) (split_complete x)

parse_complete : {t : Bytes} {ts : List Token} → Tokens t ts → parse t ≡ Parsed.tokens ts
unfolding parse
parse_complete Tokens.whole = refl
parse_complete (Tokens.first x) = ap opened (split_complete x)

-- The bytes are a token and tokens, or some continuation makes them so.
abbrev Some : Source → Type 0
Some i = (us : Units) × (ts : List Token) × TokenRest i us ts

abbrev Goes : ℕ → Bytes → Type 0
Goes n a = (w : Bytes) × Some (from n (a ++ w))

-- The place `p` is behind the longest part of `i` that goes: a byte can't stand there, or the bytes end too soon.
data Fault (n : ℕ) (i : Bytes) (p : ℕ) : Type 0 where
  wrong : (a : Bytes) (b : ℕ) (q : Bytes) → i ≡ a ++ (b ∷ q) → p ≡ n + length a → Goes n a → ¬ (Goes n (a ++ (b ∷ []))) → Fault n i p
  short : p ≡ n + length i → Goes n i → ¬ (Some (from n i)) → Fault n i p

data Splits (n : ℕ) (i : Bytes) : Split → Type 0 where
  good : {us : Units} {ts : List Token} → TokenRest (from n i) us ts → Splits n i (Split.good us ts)
  bad : {p : ℕ} → Fault n i p → Splits n i (Split.bad p)

-- Bytes `c` that may stand in front of the rest whatever it is, and what they do to its token and tokens.
record Step (n : ℕ) (c : Bytes) (m : ℕ) (f : Units → Units) (g : Units → List Token → List Token) : Type 0 where
  over : m ≡ n + length c
  wrap : (i : Bytes) (us : Units) (ts : List Token) → TokenRest (from m i) us ts → TokenRest (from n (c ++ i)) (f us) (g us ts)
  bare : (i : Bytes) → Some (from n (c ++ i)) → Some (from m i)

wrap_some : {n m : ℕ} {c : Bytes} {f : Units → Units} {g : Units → List Token → List Token} → Step n c m f g → (i : Bytes) → Some (from m i) → Some (from n (c ++ i))
wrap_some {f = f} {g = g} s i (us, ts, x) = (f us, g us ts, s.wrap i us ts x)

lift_fault : {n m p : ℕ} {c i : Bytes} {f : Units → Units} {g : Units → List Token → List Token} → Step n c m f g → Fault m i p → Fault n (c ++ i) p
lift_fault {n} {m} {p} {c} {i} s (Fault.wrong a b q e l (w, v) nv) =
    Fault.wrong (c ++ a) b q (ap (λ z. c ++ z) e ∙ sym (append_assoc c a (b ∷ q))) (omega (arith, s.over, length-append c a))
    (w, subst (λ z. Some (from n z)) (sym (append_assoc c a w)) (wrap_some s (a ++ w) v))
    (λ (x, y). nv (x, s.bare ((a ++ (b ∷ [])) ++ x) (subst (λ z. Some (from n z)) (ap (λ z. z ++ x) (append_assoc c a (b ∷ [])) ∙ append_assoc c (a ++ (b ∷ [])) x) y)))
lift_fault {n} {m} {p} {c} {i} s (Fault.short l (w, v) nv) =
    Fault.short (omega (arith, s.over, length-append c i)) (w, subst (λ z. Some (from n z)) (sym (append_assoc c i w)) (wrap_some s (i ++ w) v)) (λ y. nv (s.bare i y))

lift : {n m : ℕ} {c i : Bytes} {f : Units → Units} {g : Units → List Token → List Token} {s : Split} → Step n c m f g → Splits m i s → Splits n (c ++ i) (change f g s)
unfolding change
lift {i = i} t (Splits.good {us = us} {ts = ts} x) = Splits.good (t.wrap i us ts x)
lift t (Splits.bad f) = Splits.bad (lift_fault t f)

un_plain : {n b : ℕ} {i : Bytes} {us : Units} {ts : List Token} → T (is_plain_token b) → TokenRest (from n (b ∷ i)) us ts → Some (from (suc n) i)
un_plain t (TokenRest.next x) = absurd t
un_plain t (TokenRest.plain {us = us} {ts = ts} s x) = (us, ts, x)
un_plain t (TokenRest.tilde x) = absurd t
un_plain t (TokenRest.slash x) = absurd t

step_plain : (n b : ℕ) → T (is_plain_token b) → Step n (b ∷ []) (suc n) (λ us. b ∷ us) (λ us ts. ts)
step_plain n b t = record {
  over = omega arith;
  wrap = λ i us ts x. TokenRest.plain t x;
  bare = λ i (us, ts, x). un_plain t x;
}

un_next : {n : ℕ} {i : Bytes} {us : Units} {ts : List Token} → TokenRest (from n (code "/" ∷ i)) us ts → Some (from (suc n) i)
un_next (TokenRest.next {us = us} {ts = ts} x) = (us, ts, x)
un_next (TokenRest.plain t x) = absurd t

step_next : (n : ℕ) → Step n (code "/" ∷ []) (suc n) (λ us. []) (λ us ts. Token.token n us ∷ ts)
step_next n = record {
  over = omega arith;
  wrap = λ i us ts x. TokenRest.next x;
  bare = λ i (us, ts, x). un_next x;
}

un_tilde : {n : ℕ} {i : Bytes} {us : Units} {ts : List Token} → TokenRest (from n (code "~" ∷ code "0" ∷ i)) us ts → Some (from (suc (suc n)) i)
un_tilde (TokenRest.plain t x) = absurd t
un_tilde (TokenRest.tilde {us = us} {ts = ts} x) = (us, ts, x)

step_tilde : (n : ℕ) → Step n (code "~" ∷ code "0" ∷ []) (suc (suc n)) (λ us. code "~" ∷ us) (λ us ts. ts)
step_tilde n = record {
  over = omega arith;
  wrap = λ i us ts x. TokenRest.tilde x;
  bare = λ i (us, ts, x). un_tilde x;
}

un_slash : {n : ℕ} {i : Bytes} {us : Units} {ts : List Token} → TokenRest (from n (code "~" ∷ code "1" ∷ i)) us ts → Some (from (suc (suc n)) i)
un_slash (TokenRest.plain t x) = absurd t
un_slash (TokenRest.slash {us = us} {ts = ts} x) = (us, ts, x)

step_slash : (n : ℕ) → Step n (code "~" ∷ code "1" ∷ []) (suc (suc n)) (λ us. code "/" ∷ us) (λ us ts. ts)
step_slash n = record {
  over = omega arith;
  wrap = λ i us ts x. TokenRest.slash x;
  bare = λ i (us, ts, x). un_slash x;
}

-- The bytes that can't come first, and those that can't stand behind `~`.
not_first : {n b : ℕ} {i : Bytes} {us : Units} {ts : List Token} → TokenRest (from n (b ∷ i)) us ts
    → is_plain_token b ≡ false → eqb b (code "/") ≡ false → eqb b (code "~") ≡ false → ⊥
not_first (TokenRest.next x) p q r = true≢false q
not_first (TokenRest.plain t x) p q r = subst T p t
not_first (TokenRest.tilde x) p q r = true≢false r
not_first (TokenRest.slash x) p q r = true≢false r

not_second : {n b : ℕ} {i : Bytes} {us : Units} {ts : List Token} → TokenRest (from n (code "~" ∷ b ∷ i)) us ts
    → eqb b (code "0") ≡ false → eqb b (code "1") ≡ false → ⊥
not_second (TokenRest.plain t x) p q = t
not_second (TokenRest.tilde x) p q = true≢false p
not_second (TokenRest.slash x) p q = true≢false q

not_alone : {n : ℕ} {us : Units} {ts : List Token} → TokenRest (from n (code "~" ∷ [])) us ts → ⊥
not_alone (TokenRest.plain t x) = t

splits_by : (b : ℕ) (i : Bytes) (n : ℕ) (x y z : Bool) → is_plain_token b ≡ x → eqb b (code "/") ≡ y → eqb b (code "~") ≡ z
    → Splits (suc n) i (split i (suc n)) → Splits n (code "~" ∷ i) (split_tilde i (suc n))
    → Splits n (b ∷ i) (elim x as (λ _. Split) [
      | true ↦ with_unit b (split i (suc n))
      | false ↦ elim y as (λ _. Split) [
        | true ↦ with_slash n (split i (suc n))
        | false ↦ elim z as (λ _. Split) [ true ↦ split_tilde i (suc n) | false ↦ Split.bad n ]
      ]
    ])
splits_by b i n true y z p q r h k = lift (step_plain n b (is_true p)) h
splits_by b i n false true z p q r h k = subst (λ b. Splits n (b ∷ i) (with_slash n (split i (suc n)))) (sym (eqb-true b (code "/") q)) (lift (step_next n) h)
splits_by b i n false false true p q r h k = subst (λ b. Splits n (b ∷ i) (split_tilde i (suc n))) (sym (eqb-true b (code "~") r)) k
splits_by b i n false false false p q r h k =
    Splits.bad {p = n} (Fault.wrong [] b i refl (omega arith) ([], ([], [], TokenRest.end)) (λ (w, (us, ts, x)). not_first x p q r))

tilde_by : (b : ℕ) (i : Bytes) (n : ℕ) (x y : Bool) → eqb b (code "0") ≡ x → eqb b (code "1") ≡ y → Splits (suc (suc n)) i (split i (suc (suc n)))
    → Splits n (code "~" ∷ b ∷ i) (elim x as (λ _. Split) [
      | true ↦ with_unit (code "~") (split i (suc (suc n)))
      | false ↦ elim y as (λ _. Split) [ true ↦ with_unit (code "/") (split i (suc (suc n))) | false ↦ Split.bad (suc n) ]
    ])
tilde_by b i n true y p q h =
    subst (λ b. Splits n (code "~" ∷ b ∷ i) (with_unit (code "~") (split i (suc (suc n))))) (sym (eqb-true b (code "0") p)) (lift (step_tilde n) h)
tilde_by b i n false true p q h =
    subst (λ b. Splits n (code "~" ∷ b ∷ i) (with_unit (code "/") (split i (suc (suc n))))) (sym (eqb-true b (code "1") q)) (lift (step_slash n) h)
tilde_by b i n false false p q h =
    Splits.bad {p = suc n} (Fault.wrong (code "~" ∷ []) b i refl (omega arith) (code "0" ∷ [], (code "~" ∷ [], [], TokenRest.tilde TokenRest.end)) (λ (w, (us, ts, x)). not_second x p q))

mutual
  unfolding split

  splits : (i : Bytes) (n : ℕ) → Splits n i (split i n)
  splits [] n = Splits.good TokenRest.end
  splits (b ∷ i) n = splits_by b i n (is_plain_token b) (eqb b (code "/")) (eqb b (code "~")) refl refl refl (splits i (suc n)) (splits_tilde i n)

  splits_tilde : (i : Bytes) (n : ℕ) → Splits n (code "~" ∷ i) (split_tilde i (suc n))
  splits_tilde [] n =
      Splits.bad {p = suc n} (Fault.short (omega arith) (code "0" ∷ [], (code "~" ∷ [], [], TokenRest.tilde TokenRest.end)) (λ (us, ts, x). not_alone x))
  splits_tilde (b ∷ i) n = tilde_by b i n (eqb b (code "0")) (eqb b (code "1")) refl refl (splits i (suc (suc n)))

-- What could become tokens has beginnings that could.
begins_cut : (p q : Bytes) → Begins (p ++ q) → Begins p
begins_cut p q (w, ts, x) = (q ++ w, ts, subst (λ t. Tokens t ts) (append_assoc p q w) x)

pub begins_whole : (t : Bytes) (ts : List Token) → Tokens t ts → Begins t
begins_whole t ts x = ([], ts, subst⁻¹ (λ u. Tokens u ts) (append-nil t) x)

-- The function gives the tokens, or the length of the longest beginning that could become tokens.
pub data Ruled (t : Bytes) : Parsed → Type 0 where
  tokens : {ts : List Token} → Tokens t ts → Ruled t (Parsed.tokens ts)
  malformed : {n : ℕ} → ((ts : List Token) → ¬ (Tokens t ts)) → Longest Begins t n → Ruled t (Parsed.malformed n)

un_first : {i : Bytes} {ts : List Token} → Tokens (code "/" ∷ i) ts → Some (from 1 i)
un_first (Tokens.first {us = us} {ts = ts} x) = (us, ts, x)

not_slash : {b : ℕ} {i : Bytes} {ts : List Token} → Tokens (b ∷ i) ts → eqb b (code "/") ≡ false → ⊥
not_slash (Tokens.first x) e = true≢false e

ruled_at : (t a : Bytes) (b : ℕ) (q : Bytes) → t ≡ a ++ (b ∷ q) → Begins a → ¬ (Begins (a ++ (b ∷ []))) → Ruled t (Parsed.malformed (length a))
ruled_at t a b q e g n =
    Ruled.malformed (λ ts x. n (begins_cut (a ++ (b ∷ [])) q (subst Begins (e ∙ sym (append_assoc a (b ∷ []) q)) (begins_whole t ts x))))
    (longest_at Begins begins_cut t a b q e g n)

ruled_fault : {i : Bytes} {p : ℕ} → Fault 1 i p → Ruled (code "/" ∷ i) (Parsed.malformed p)
ruled_fault {i} {p} (Fault.wrong a b q e l (w, (us, ts, x)) nv) =
    subst (λ n. Ruled (code "/" ∷ i) (Parsed.malformed n)) (let z : suc (length a) ≡ p = omega arith in z)
    (ruled_at (code "/" ∷ i) (code "/" ∷ a) b q (ap (λ z. code "/" ∷ z) e) (w, Token.token 0 us ∷ ts, Tokens.first x) (λ (w, ts, y). nv (w, un_first y)))
ruled_fault {i} {p} (Fault.short l (w, (us, ts, x)) nv) =
    subst (λ n. Ruled (code "/" ∷ i) (Parsed.malformed n)) (let z : suc (length i) ≡ p = omega arith in z)
    (Ruled.malformed (λ ts y. nv (un_first y)) (longest_whole Begins (code "/" ∷ i) (w, Token.token 0 us ∷ ts, Tokens.first x)))

ruled_opened : {i : Bytes} {s : Split} → Splits 1 i s → Ruled (code "/" ∷ i) (opened s)
unfolding opened
ruled_opened (Splits.good x) = Ruled.tokens (Tokens.first x)
ruled_opened (Splits.bad f) = ruled_fault f

ruled : (t : Bytes) → Ruled t (parse t)
unfolding parse
ruled [] = Ruled.tokens Tokens.whole
ruled (b ∷ i) = by (eqb b (code "/")) refl
  where
    by : (x : Bool) → eqb b (code "/") ≡ x → Ruled (b ∷ i) (elim x as (λ _. Parsed) [ true ↦ opened (split i 1) | false ↦ Parsed.malformed 0 ])
    by true e = subst (λ b. Ruled (b ∷ i) (opened (split i 1))) (sym (eqb-true b (code "/") e)) (ruled_opened (splits i 1))
    by false e = ruled_at (b ∷ i) [] b i refl ([], [], Tokens.whole) (λ (w, ts, y). not_slash y e)

un_ruled : {t : Bytes} {x : Parsed} {ts : List Token} → x ≡ Parsed.tokens ts → Ruled t x → Tokens t ts
un_ruled {t} {ts = ts} e (Ruled.tokens {ts = us} p) = subst (Tokens t) (let z : us ≡ ts = cc in z) p
un_ruled e (Ruled.malformed n l) = let z : ◌≡◌ {A = ℕ} 0 1 = cc in absurd (omega arith)

-- The function finds the tokens exactly where the rules give them.
pub parse_right : (t : Bytes) (ts : List Token) → (parse t ≡ Parsed.tokens ts) ↔ Tokens t ts
parse_right t ts = ((λ e. un_ruled e (ruled t)), (λ p. parse_complete p))

-- Bytes are the tokens of one list at most.
tokens_one : {p : Bytes} {ts ts' : List Token} → Tokens p ts → Tokens p ts' → ts ≡ ts'
tokens_one {p} {ts} {ts'} x y = let a : parse p ≡ Parsed.tokens ts = parse_complete x in let b : parse p ≡ Parsed.tokens ts' = parse_complete y in cc

pub pointer_one : {p : Bytes} {ts ts' : List Token} → Pointer p ts → Pointer p ts' → ts ≡ ts'
pointer_one (Pointer.pointer l x) (Pointer.pointer m y) = tokens_one x y

-- The same with a ceiling of `m` bytes.
data Within (m : ℕ) (t : Bytes) : Parsed → Type 0 where
  tokens : {ts : List Token} → length t ≤ m → Tokens t ts → Within m t (Parsed.tokens ts)
  malformed : {n : ℕ} → ((ts : List Token) → length t ≤ m → ¬ (Tokens t ts)) → Longest Begins (take m t) n → Within m t (Parsed.malformed n)

within_whole : {m : ℕ} {t : Bytes} {x : Parsed} → length t ≤ m → Ruled t x → Within m t x
within_whole h (Ruled.tokens x) = Within.tokens h x
within_whole {m} {t} h (Ruled.malformed {n = n} f l) = Within.malformed (λ ts _. f ts) (subst⁻¹ (λ u. Longest Begins u n) (take_all m t h) l)

within_cut : {m : ℕ} {t : Bytes} {x : Parsed} → m < length t → Ruled (take m t) x → Within m t (cut_off m x)
unfolding cut_off
within_cut {m} {t} h (Ruled.tokens {ts = ts} x) =
    Within.malformed (λ ts l _. absurd (omega arith))
    (subst (Longest Begins (take m t)) (let z : length (take m t) ≡ m = omega (arith, length-take m t) in z) (longest_whole Begins (take m t) (begins_whole (take m t) ts x)))
within_cut h (Ruled.malformed f l) = Within.malformed (λ ts l _. absurd (omega arith)) l

within : (m : ℕ) (t : Bytes) → Within m t (check_within m t)
unfolding check_within
within m t = by (leb (length t) m) refl
  where
    by : (x : Bool) → leb (length t) m ≡ x → Within m t (elim x as (λ _. Parsed) [ true ↦ parse t | false ↦ cut_off m (parse (take m t)) ])
    by true e = within_whole (leb-true (length t) m e) (ruled t)
    by false e = within_cut (leb-false (length t) m e) (ruled (take m t))

-- Any bytes are a pointer or malformed, and the function says which.
pub data PointerCheck (p : Bytes) : Parsed → Type 0 where
  pointer : {ts : List Token} → Pointer p ts → PointerCheck p (Parsed.tokens ts)
  malformed : {n : ℕ} → Malformed p n → PointerCheck p (Parsed.malformed n)

checked_within : {p : Bytes} {x : Parsed} → Within max_pointer p x → PointerCheck p x
checked_within (Within.tokens l x) = PointerCheck.pointer (Pointer.pointer l x)
checked_within {p} (Within.malformed f l) = PointerCheck.malformed (Malformed.malformed by l)
  where
    by : (ts : List Token) → ¬ (Pointer p ts)
    by ts (Pointer.pointer h x) = f ts h x

pub pointer_checked : (p : Bytes) → PointerCheck p (check_pointer p)
unfolding check_pointer
pointer_checked p = checked_within (within max_pointer p)

-- Never both, and at one place only.
malformed_not : {p : Bytes} {ts : List Token} {n : ℕ} → Pointer p ts → Malformed p n → ⊥
malformed_not {ts = ts} x (Malformed.malformed f l) = f ts x

pub malformed_one : {p : Bytes} {m n : ℕ} → Malformed p m → Malformed p n → m ≡ n
malformed_one {p} (Malformed.malformed f l) (Malformed.malformed f' l') = longest_one Begins (take max_pointer p) l l'

-- So the function gives what fits, and only that.
pub check_pointer_lem : {p : Bytes} {ts : List Token} → Pointer p ts → check_pointer p ≡ Parsed.tokens ts
check_pointer_lem {p} {ts} x = by (pointer_checked p)
  where
    by : {j : Parsed} → PointerCheck p j → j ≡ Parsed.tokens ts
    by (PointerCheck.pointer y) = ap Parsed.tokens (pointer_one y x)
    by (PointerCheck.malformed y) = absurd (malformed_not x y)

pub check_malformed : {p : Bytes} {n : ℕ} → Malformed p n → check_pointer p ≡ Parsed.malformed n
check_malformed {p} {n} x = by (pointer_checked p)
  where
    by : {j : Parsed} → PointerCheck p j → j ≡ Parsed.malformed n
    by (PointerCheck.pointer y) = absurd (malformed_not y x)
    by (PointerCheck.malformed y) = ap Parsed.malformed (malformed_one y x)
