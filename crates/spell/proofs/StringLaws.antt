-- Strings in canonical text, character by character.
use Prim.Native.Char.{code}
use Prim.Native.Nat.{ℕ, ◌+◌, ◌-◌, ◌<◌, ◌≤◌}
use Rattle.meaning.proofs.Append.{unit_append}
use Rattle.meaning.specs.Canonical.{is_bare, put_unit, put_units}
use Rattle.names.proofs.Reading.{units_end, units_plain, units_quote}
use Rattle.names.specs.Units.{units}
use Rattle.spell.proofs.Joining.{put_as}
use Rattle.spell.proofs.Putting.{lend, lend_fits, put_byte, put_length, put_none, put_one, rest}
use Rattle.spell.specs.Puts.{Puts}
use Rattle.spell.specs.Scalars.{quoted}
use Rattle.spell.specs.Strings.{Copied, Part, Plain, ending}
use Rattle.text.specs.Bytes.{Bytes}
use borrow.Author.Tests.{ltb-false, ltb-true}
use lib.Dec.{ltb}
use lib.ListN.{drop, get_or, length, length-append, length-drop, set, take}
use lib.Seq.{drop-cons, drop-drop, length-take-le, take-add}
use mathlib.Core.Bool.{Bool, false, false≢true, true}
use mathlib.Core.List.{[], ◌++◌, ◌∷◌, append_assoc}
use mathlib.Core.Path.{◌∙◌, ◌≡◌, ap, ap₂, refl, subst, subst⁻¹, sym}
use native.Mathlib.Omega.{arith}

bare_text : (u : ℕ) → is_bare u ≡ true → put_unit u [] ≡ u ∷ []
unfolding put_unit
bare_text u e = rw (e, put_unit)

module _ (t : Bytes) where
  -- A unit, and the end.
  pub unit_part : (i j u : ℕ) → units (drop i t) ≡ u ∷ units (drop j t) → Part t i j (put_unit u [])
  unfolding put_units
  unit_part i j u e = record { same = ap (λ us. put_units us (code "\"" ∷ [])) e ∙ unit_append u [] (ending t j) }

  pub none_ending : (i : ℕ) → units (drop i t) ≡ [] → ending t i ≡ code "\"" ∷ []
  unfolding put_units
  none_ending i e = ap (λ us. put_units us (code "\"" ∷ [])) e

  -- The bytes from one offset up to another.
  span_one : (i : ℕ) → i < length t → take (i + 1 - i) (drop i t) ≡ get_or t i 0 ∷ []
  span_one i h = let n : i + 1 - i ≡ 1 = omega arith in ap₂ take n (drop-cons t i 0 h)

  span_then : {i j k : ℕ} → i ≤ j → j ≤ k → take (k - i) (drop i t) ≡ take (j - i) (drop i t) ++ take (k - j) (drop j t)
  span_then {i} {j} {k} h l =
      let m : i + (j - i) ≡ j = omega arith in
      let d : drop (j - i) (drop i t) ≡ drop j t = drop-drop (j - i) i t ∙ ap (λ n. drop n t) m in
      let n : k - i ≡ (j - i) + (k - j) = omega arith in
      ap (λ n. take n (drop i t)) n ∙ take-add (j - i) (k - j) (drop i t) ∙ ap (λ s. take (j - i) (drop i t) ++ take (k - j) s) d

  -- A quote closes the string.
  pub quote_ends : (i : ℕ) → get_or t i 0 ≡ code "\"" → units (drop i t) ≡ []
  quote_ends i e = by (ltb i (length t)) refl
    where
      by : (b : Bool) → ltb i (length t) ≡ b → units (drop i t) ≡ []
      by true h = units_quote t i (ltb-true i (length t) h) e
      by false h = units_end t i (ltb-false i (length t) h)

  -- Runs of bytes that are written as they stand.
  pub plain_none : (i : ℕ) → i ≤ length t → Plain t i i
  plain_none i h =
      let e : i - i ≡ 0 = omega arith in
      record { onward = omega arith; bound = h; part = record { same = ap (λ n. take n (drop i t) ++ ending t i) (sym e) } }

  pub plain_one : (i : ℕ) → i < length t → is_bare (get_or t i 0) ≡ true → Plain t i (i + 1)
  plain_one i h e =
      let q = units_plain t i h (λ x. false≢true (ap is_bare (sym x) ∙ e)) (λ x. false≢true (ap is_bare (sym x) ∙ e)) in
      record { onward = omega arith; bound = omega arith; part = subst (Part t i (i + 1)) (bare_text (get_or t i 0) e ∙ sym (span_one i h)) (unit_part i (i + 1) (get_or t i 0) q) }

  pub plain_then : {i j k : ℕ} → Plain t i j → Plain t j k → Plain t i k
  plain_then {i} {j} {k} x y =
      let h = x.onward in
      let l = y.onward in
      record { onward = omega arith; bound = y.bound; part = subst⁻¹ (Part t i k) (span_then h l) (then x.part y.part) }
    where
      then : {c d : Bytes} → Part t i j c → Part t j k d → Part t i k (c ++ d)
      then {c} {d} x y = record { same = x.same ∙ ap (λ s. c ++ s) y.same ∙ sym (append_assoc c d (ending t k)) }

  -- How long they are.
  pub part_length : {i j : ℕ} {c : Bytes} → Part t i j c → length (ending t i) ≡ length c + length (ending t j)
  part_length {j = j} {c = c} x = ap length x.same ∙ length-append c (ending t j)

  pub plain_length : {i j : ℕ} → Plain t i j → length (ending t i) ≡ (j - i) + length (ending t j)
  plain_length {i} {j} x =
      let h = x.bound in
      part_length x.part ∙ ap (λ n. n + length (ending t j)) (length-take-le (j - i) (drop i t) (omega (arith, length-drop i t)))

  pub unit_length : (i j u : ℕ) → units (drop i t) ≡ u ∷ units (drop j t) → length (ending t i) ≡ length (put_unit u []) + length (ending t j)
  unit_length i j u e = part_length (unit_part i j u e)

-- A run that is copied as it is found, to an output that has room for the rest of the string.
module _ (t : Bytes) (from : ℕ) (o : Bytes) (r : length (ending t from) ≤ length o) where
  pub copied_none : from ≤ length t → Copied t from from o (from - from) o
  copied_none h =
      let e : from - from ≡ 0 = omega arith in
      record { plain = plain_none t from h; puts = subst⁻¹ (λ n. Puts (take n (drop from t)) o n o) e (put_none o) }

  module _ {i : ℕ} {o' : Bytes} (x : Copied t from i o (i - from) o') where
    pub copied_length : length o' ≡ length o
    copied_length = put_length x.puts (omega (arith, x.puts.count, plain_length t x.plain, r))

    pub copied_all : {j : ℕ} → j ≡ i → Copied t from j o (i - from) o'
    copied_all e = subst⁻¹ (λ j. Copied t from j o (i - from) o') e x

    module _ (h : i < length t) (b : is_bare (get_or t i 0) ≡ true) where
      pub copied_room : i - from < length o'
      copied_room = omega (arith, r, copied_length, plain_length t x.plain, plain_length t (plain_one t i h b))

      pub copied_more : Copied t from (i + 1) o (i + 1 - from) (set o' (i - from) (get_or t i 0))
      copied_more =
          let k = x.plain.onward in
          let l : i - from < length o = omega (arith, copied_room, copied_length) in
          let c = x.puts.count in
          let n : i + 1 - from ≡ i - from + 1 = omega arith in
          let e : take (i + 1 - from) (drop from t) ≡ take (i - from) (drop from t) ++ (get_or t i 0 ∷ []) =
          span_then t k (omega arith) ∙ ap (λ s. take (i - from) (drop from t) ++ s) (span_one t i h) in
          record {
            plain = plain_then t x.plain (plain_one t i h b);
            puts = subst⁻¹ (λ s. Puts s o (i + 1 - from) (set o' (i - from) (get_or t i 0))) e
                (subst⁻¹ (λ n. Puts (take (i - from) (drop from t) ++ (get_or t i 0 ∷ [])) o n (set o' (i - from) (get_or t i 0))) n (put_byte x.puts (omega arith) (get_or t i 0) (omega arith)));
          }

-- Of the text `w`, all but what is written from `i` on stands at the front of an output that has room for the whole.
pub record Upto (w t : Bytes) (i : ℕ) (o : Bytes) (p : ℕ) (o' : Bytes) : Type 0 where
  pub front : Bytes
  pub whole : w ≡ front ++ ending t i
  pub room : length w ≤ length o
  pub puts : Puts front o p o'

module _ {w t o o₁ : Bytes} {i p : ℕ} (x : Upto w t i o p o₁) where
  lengths : length w ≡ p + length (ending t i)
  lengths = ap length x.whole ∙ length-append x.front (ending t i) ∙ ap (λ n. n + length (ending t i)) (sym x.puts.count)

  front_fits : length x.front ≤ length o
  front_fits = omega (arith, x.room, lengths, x.puts.count)

  pub upto_length : length o₁ ≡ length o
  upto_length = put_length x.puts front_fits

  -- What is written next fits.
  module _ {j : ℕ} {c : Bytes} (y : Part t i j c) where
    room_for : p + length c ≤ length o
    room_for = omega (arith, x.room, lengths, part_length t y)

    pub upto_fits : length c ≤ length (rest p o₁)
    upto_fits = lend_fits x.puts front_fits c (omega (arith, room_for, x.puts.count, length-append x.front c))

    -- A step that wrote it.
    module _ {n : ℕ} {o₂ : Bytes} (z : Puts c (rest p o₁) n o₂) where
      pub upto_lend : Upto w t j o (p + n) (take p o₁ ++ (o₂ ++ drop (length o₁ - p) (drop p o₁)))
      upto_lend =
          record {
            front = x.front ++ c;
            whole = x.whole ∙ ap (λ s. x.front ++ s) y.same ∙ sym (append_assoc x.front c (ending t j));
            room = x.room;
            puts = lend x.puts front_fits z;
          }

  -- A step that wrote all that is left.
  module _ {n : ℕ} {o₂ : Bytes} (z : Puts (ending t i) (rest p o₁) n o₂) where
    pub upto_all : Puts w o (p + n) (take p o₁ ++ (o₂ ++ drop (length o₁ - p) (drop p o₁)))
    upto_all = subst⁻¹ (λ w. Puts w o (p + n) (take p o₁ ++ (o₂ ++ drop (length o₁ - p) (drop p o₁)))) x.whole (lend x.puts front_fits z)

  -- The closing quote.
  module _ (e : units (drop i t) ≡ []) where
    pub upto_last : (p < length o) × (p < length o₁)
    upto_last = let h : p < length o = omega (arith, x.room, lengths, ap length (none_ending t i e)) in (h, omega (arith, upto_length))

    pub upto_close : Puts w o (p + 1) (set o₁ p (code "\""))
    upto_close = put_as (sym (x.whole ∙ ap (λ s. x.front ++ s) (none_ending t i e))) (put_byte x.puts front_fits (code "\"") (omega (arith, upto_last.0, x.puts.count)))

-- The opening quote.
pub upto_quote : (t : Bytes) (q : ℕ) (o : Bytes) → length (quoted (units (drop (q + 1) t))) ≤ length o → Upto (quoted (units (drop (q + 1) t))) t (q + 1) o 1 (set o 0 (code "\""))
upto_quote t q o h = record { front = code "\"" ∷ []; whole = refl; room = h; puts = put_one (code "\"") o (omega arith) }

module _ (t : Bytes) (q : ℕ) (o : Bytes) (h : length (quoted (units (drop (q + 1) t))) ≤ length o) where
  -- And the plain bytes behind it.
  module _ {n : ℕ} {o₂ : Bytes} (y : Copied t (q + 1) (q + 1 + n) (rest 1 (set o 0 (code "\""))) n o₂) where
    pub opened : Upto (quoted (units (drop (q + 1) t))) t (q + 1 + n) o (1 + n) (let o₁ = set o 0 (code "\"") in take 1 o₁ ++ (o₂ ++ drop (length o₁ - 1) (drop 1 o₁)))
    opened = upto_lend (upto_quote t q o h) y.plain.part y.puts

pub ruleset strings = (none_ending, quote_ends, unit_length, plain_length, plain_none, plain_one, plain_then)

pub ruleset copies = (copied_none, copied_all, copied_room, copied_more)
