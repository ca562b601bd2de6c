-- Where a pointer is malformed, byte by byte: what goes in front of a token hides no fault behind it.
use Prim.Native.Char.{code}
use Prim.Native.Nat.{ℕ, ◌+◌, ◌<◌, ◌≤◌}
use Rattle.std.proofs.lemmas.Bool.{cases_lt}
use Rattle.std.proofs.lemmas.Bool.Decides.{nat_tests}
use Rattle.std.proofs.lemmas.Grind.{common_steps}
use Rattle.std.proofs.lemmas.List.{drop_more, get_or-take}
use Rattle.lookup.specs.Reading.{ends_pair}
use Rattle.lookup.specs.Tokens.{Checked}
use Rattle.meaning.proofs.Pointers.{Parsed, PointerCheck, Split, change, check_pointer, check_within, cut_off, opened, parse, pointer_checked, split, split_tilde}
use Rattle.meaning.specs.Pointer.{Malformed, Token, max_pointer}
use Rattle.scan.specs.declared.refusal.Refusal.{Refusal}
use Rattle.std.specs.Prelude.{Err, None, Ok, Option, Some}
use Rattle.text.specs.Bytes.{Bytes, Units}
use borrow.Author.Tests.{le-leb, le-ltb, lt-leb, ne_eqb}
use lib.Dec.{eqb, leb}
use lib.ListN.{drop, drop_of_length-le, get_or, length, length-take, take}
use lib.Seq.{take_all}
use mathlib.Core.Bool.{Bool, ◌&&◌, ◌||◌, cond, false, true}
use mathlib.Core.List.{List, [], ◌∷◌}
use mathlib.Core.Logic.{inl, inr}
use mathlib.Core.Path.{◌∙◌, ◌≡◌, ap, refl, subst, sym}
use native.Mathlib.Numerals.{add-one}
use native.Mathlib.Omega.{arith}

-- The place of a fault, where there is one.
fault_in : Split → Option ℕ
fault_in (Split.good us ts) = None
fault_in (Split.bad n) = Some n

pub fault_of : Parsed → Option ℕ
fault_of (Parsed.tokens ts) = None
fault_of (Parsed.malformed n) = Some n

fault_change : (f : Units → Units) (g : Units → List Token → List Token) (s : Split) → fault_in (change f g s) ≡ fault_in s
unfolding fault_in change
fault_change f g (Split.good us ts) = refl
fault_change f g (Split.bad n) = refl

fault_opened : (s : Split) → fault_of (opened s) ≡ fault_in s
unfolding fault_in fault_of opened
fault_opened (Split.good us ts) = refl
fault_opened (Split.bad n) = refl

-- What the first byte does, and the byte behind a `~`.
module _ (b : ℕ) (s : Bytes) (n : ℕ) where
  split_high : 127 < b → fault_in (split (b ∷ s) n) ≡ Some n
  unfolding split fault_in
  split_high h = rw (lt-leb b 127 h, ne_eqb b (code "/") (λ e. omega arith), ne_eqb b (code "~") (λ e. omega arith), split)

  split_next : b ≤ 127 → (b ≡ code "~" → ⊥) → fault_in (split (b ∷ s) n) ≡ fault_in (split s (n + 1))
  unfolding split
  split_next h f = grind (arith, nat_tests, fault_change)

  tilde_other : (eqb b (code "0") || eqb b (code "1")) ≡ false → fault_in (split_tilde (b ∷ s) n) ≡ Some n
  unfolding split fault_in
  tilde_other t = grind (arith, nat_tests)

  tilde_pair : (eqb b (code "0") || eqb b (code "1")) ≡ true → fault_in (split_tilde (b ∷ s) n) ≡ fault_in (split s (n + 1))
  unfolding split
  tilde_pair t = grind (arith, nat_tests, fault_change)

-- The place of the first fault from `i` on, and from behind a `~` on.
abbrev fault_from : Bytes → ℕ → Option ℕ
fault_from p i = fault_in (split (drop i p) i)

abbrev tilde_from : Bytes → ℕ → Option ℕ
tilde_from p i = fault_in (split_tilde (drop i p) i)

module _ (p : Bytes) (i : ℕ) (h : length p ≤ i) where
  fault_end : fault_from p i ≡ None
  unfolding split fault_in
  fault_end = rw (drop_of_length-le p h)

  tilde_end : tilde_from p i ≡ Some i
  unfolding split fault_in
  tilde_end = rw (drop_of_length-le p h)

module _ (p : Bytes) (i : ℕ) (h : i < length p) where
  fault_high : 127 < get_or p i 0 → fault_from p i ≡ Some i
  fault_high l = rw (drop_more p i 0 h) (split_high (get_or p i 0) (drop (i + 1) p) i l)

  fault_plain : get_or p i 0 ≤ 127 → (get_or p i 0 ≡ code "~" → ⊥) → fault_from p i ≡ fault_from p (i + 1)
  fault_plain l f = rw (drop_more p i 0 h) (split_next (get_or p i 0) (drop (i + 1) p) i l f)

  fault_tilde : get_or p i 0 ≡ code "~" → fault_from p i ≡ tilde_from p (i + 1)
  unfolding split
  fault_tilde e = rw (drop_more p i 0 h, e, add-one)

-- Behind a `~`, by the test of the byte there.
module _ (p : Bytes) (i : ℕ) where
  abbrev is_pair : Bool
  is_pair = eqb (get_or p i 0) (code "0") || eqb (get_or p i 0) (code "1")

  tilde_bad : ends_pair p i ≡ false → tilde_from p i ≡ Some i
  tilde_bad t = grind (arith, nat_tests, drop_more, tilde_other, tilde_end)

  tilde_good : ends_pair p i ≡ true → tilde_from p i ≡ fault_from p (i + 1)
  tilde_good t = grind (arith, nat_tests, drop_more, tilde_pair)

-- The byte behind a `~` hides no fault either.
pair_plain : (p : Bytes) (i : ℕ) → ends_pair p i ≡ true → (i < length p) × (get_or p i 0 ≤ 127) × (get_or p i 0 ≡ code "~" → ⊥)
pair_plain p i t = grind (arith, nat_tests)

module _ (p : Bytes) (i : ℕ) (h : i < length p) (e : get_or p i 0 ≡ code "~") where
  fault_bare : ends_pair p (i + 1) ≡ false → fault_from p i ≡ Some (i + 1)
  fault_bare t = fault_tilde p i h e ∙ tilde_bad p (i + 1) t

  fault_pair : ends_pair p (i + 1) ≡ true → fault_from p i ≡ fault_from p (i + 1)
  fault_pair t = let (l, m, f) = pair_plain p (i + 1) t in fault_tilde p i h e ∙ tilde_good p (i + 1) t ∙ sym (fault_plain p (i + 1) l m f)

-- The whole pointer, by its first byte: a `/` there is judged as any other byte is.
parse_other : (p : Bytes) → 0 < length p → (get_or p 0 0 ≡ code "/" → ⊥) → fault_of (parse p) ≡ Some 0
unfolding parse fault_of
parse_other [] h f = absurd (omega arith)
parse_other (b ∷ p) h f = rw (ne_eqb b (code "/") f, parse)

parse_from : (p : Bytes) → (0 < length p → get_or p 0 0 ≡ code "/") → fault_of (parse p) ≡ fault_from p 0
unfolding parse fault_of fault_in split
parse_from [] e = refl
parse_from (b ∷ p) e = rw (e (omega arith)) (fault_opened (split p 1) ∙ sym (fault_change _ _ (split p 1)))

-- A pointer is judged by its first `m` bytes: if it has more, and no fault in those, it is malformed behind them.
judge : ℕ → Bytes → Option ℕ → Option ℕ
judge m p None = cond (leb (length p) m) None (Some m)
judge m p (Some n) = Some n

judge_short : (m : ℕ) (p : Bytes) (o : Option ℕ) → length p ≤ m → judge m p o ≡ o
unfolding judge
judge_short m p None h = rw (le-leb (length p) m h)
judge_short m p (Some n) h = refl

judge_long : (m : ℕ) (p : Bytes) (x : Parsed) → m < length p → judge m p (fault_of x) ≡ fault_of (cut_off m x)
unfolding judge fault_of cut_off
judge_long m p (Parsed.tokens ts) h = rw (lt-leb (length p) m h)
judge_long m p (Parsed.malformed n) h = refl

judge_parse : (m : ℕ) (p : Bytes) → fault_of (check_within m p) ≡ judge m p (fault_of (parse (take m p)))
unfolding check_within
judge_parse m p = grind (arith, nat_tests, take_all, judge_short, judge_long)

-- So is what stands from `i` on.
pub left_from : ℕ → Bytes → ℕ → Option ℕ
left_from m p i = judge m p (fault_from (take m p) i)

pair_kept : (m : ℕ) (p : Bytes) (i : ℕ) → i < m → ends_pair (take m p) i ≡ ends_pair p i
pair_kept m p i h = rw (get_or-take m p i 0 h) (ap (λ x. x && is_pair p i) (grind (arith, common_steps)))

pair_past : (m : ℕ) (p : Bytes) (i : ℕ) → m ≤ i → ends_pair (take m p) i ≡ false
pair_past m p i h = rw (le-ltb i (length (take m p)) (omega (arith, length-take m p)))

-- The end of the pointer, and of its first `m` bytes.
module _ (m : ℕ) (p : Bytes) (i : ℕ) where
  pub left_end : length p ≤ i → length p ≤ m → left_from m p i ≡ None
  unfolding judge left_from
  left_end h k = rw (fault_end (take m p) i (omega (arith, length-take m p)), le-leb (length p) m k)

  pub left_long : m < length p → m ≤ i → left_from m p i ≡ Some m
  unfolding judge left_from
  left_long h k = rw (fault_end (take m p) i (omega (arith, length-take m p)), lt-leb (length p) m h)

-- A byte within those.
module _ (m : ℕ) (p : Bytes) (i : ℕ) (h : i < length p) (k : i < m) where
  within : i < length (take m p)
  within = omega (arith, length-take m p)

  kept : get_or (take m p) i 0 ≡ get_or p i 0
  kept = get_or-take m p i 0 k

  pub left_high : 127 < get_or p i 0 → left_from m p i ≡ Some i
  unfolding judge left_from
  left_high l = rw (fault_high (take m p) i within (rw kept l))

  pub left_plain : get_or p i 0 ≤ 127 → (get_or p i 0 ≡ code "~" → ⊥) → left_from m p i ≡ left_from m p (i + 1)
  unfolding left_from
  left_plain l f = ap (judge m p) (fault_plain (take m p) i within (rw kept l) (rw kept f))

  module _ (e : get_or p i 0 ≡ code "~") where
    pub left_bare : ends_pair p (i + 1) ≡ false → left_from m p i ≡ Some (i + 1)
    unfolding judge left_from
    left_bare t = rw (fault_bare (take m p) i within (rw kept e) (grind (arith, pair_kept, pair_past)))

    pub left_pair : ends_pair p (i + 1) ≡ true → left_from m p i ≡ left_from m p (i + 1)
    unfolding judge left_from
    left_pair t = grind (arith, within, kept, pair_kept, pair_past, pair_plain, fault_pair, fault_bare, left_long)

-- A `~` and the byte behind it, at once: the `~` may be the last of the first `m` bytes.
module _ (m : ℕ) (p : Bytes) (i : ℕ) (h : i < length p) (k : i < m) (e : get_or p i 0 ≡ code "~") where
  pub left_over : ends_pair p (i + 1) ≡ true → left_from m p i ≡ left_from m p (i + 1 + 1)
  left_over t =
      let (l, g, f) = pair_plain p (i + 1) t in
      left_pair m p i h k e t ∙ elim (cases_lt (i + 1) m) [
        | inl n ↦ left_plain m p (i + 1) l n g f
        | inr n ↦ left_long m p (i + 1) (omega (arith, l, k)) n ∙ sym (left_long m p (i + 1 + 1) (omega (arith, l, k)) (omega (arith, n)))
      ]

-- The whole pointer, by its first byte.
module _ (m : ℕ) (p : Bytes) (k : 0 < m) where
  pub left_other : 0 < length p → (get_or p 0 0 ≡ code "/" → ⊥) → fault_of (check_within m p) ≡ Some 0
  unfolding judge
  left_other h f = judge_parse m p ∙ ap (judge m p) (parse_other (take m p) (omega (arith, length-take m p)) (rw (get_or-take m p 0 0 k) f))

  pub left_whole : (0 < length p → get_or p 0 0 ≡ code "/") → fault_of (check_within m p) ≡ left_from m p 0
  unfolding left_from
  left_whole e = judge_parse m p ∙ ap (judge m p) (parse_from (take m p) (λ l. rw (get_or-take m p 0 0 k) (e (omega (arith, length-take m p)))))

-- What a place, or none, says.
malformed_most : {p : Bytes} {n : ℕ} → Malformed p n → n ≤ max_pointer
malformed_most {p} {n} (Malformed.malformed f (l, g, k)) = omega (arith, length-take max_pointer p)

checked_well : {p : Bytes} {x : Parsed} → PointerCheck p x → fault_of x ≡ None → Checked p (Ok tt)
unfolding fault_of
checked_well (PointerCheck.pointer q) e = Checked.well q
checked_well (PointerCheck.malformed {n = n} q) e = absurd (cc e)

checked_bad : {p : Bytes} {x : Parsed} {n : ℕ} → PointerCheck p x → fault_of x ≡ Some n → Checked p (Err (Refusal.Malformed n))
unfolding fault_of
checked_bad (PointerCheck.pointer {ts = ts} q) e = absurd (cc e)
checked_bad {p} {n = n} (PointerCheck.malformed q) e = let m = subst (Malformed p) (cc e) q in Checked.bad (malformed_most m) m

module _ (p : Bytes) where
  pub well : fault_of (check_within max_pointer p) ≡ None → Checked p (Ok tt)
  unfolding check_pointer
  well e = checked_well (pointer_checked p) e

  pub bad : {n : ℕ} → fault_of (check_within max_pointer p) ≡ Some n → Checked p (Err (Refusal.Malformed n))
  unfolding check_pointer
  bad e = checked_bad (pointer_checked p) e

-- What the loop over the bytes cites.
pub ruleset faults = (left_other, left_whole, left_high, left_bare, left_plain, left_over, left_long, left_end, well, bad)
