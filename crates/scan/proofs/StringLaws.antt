-- What each byte of a string does to the answer.
use Prim.Native.Char.{code}
use Prim.Native.Nat.{◌*◌, ◌+◌, ◌<◌, ◌≤◌, suc, ℕ}
use Rattle.scan.proofs.Steps.{differs, fail, fail_by, fails, short, step, step_by}
use Rattle.scan.specs.Answers.{Judge, at, judging, refused}
use Rattle.scan.specs.Strings.{Ended, EscapeAt, FourAt, Goes, HexAt, Hexed, Read, Refused, Rule, four, judged}
use Rattle.scan.specs.declared.refusal.Refusal.{Refusal}
use Rattle.std.specs.Prelude.{Err, Ok, Result}
use Rattle.text.proofs.Machine.{Left, Stack, State, Use, close_move, hex_state, move, names_of, onto}
use Rattle.text.proofs.Run.{Fault, Took, is_done}
use Rattle.text.proofs.Tests.{is_true, le_both}
use Rattle.text.specs.Bytes.{Bytes, Units, escape_unit, from, hex_value, is_escape, is_hex, is_plain}
use Rattle.text.specs.Ceilings.{house, number_of}
use Rattle.text.specs.Node.{Members, Node}
use Rattle.text.specs.Strings.{Chars, Escape, Is, hex_unit}
use Rattle.text.specs.Verdict.{Outcome}
use borrow.Author.Tests.{lt-leb}
use lib.Dec.{T}
use lib.ListN.{drop, get_or, length}
use lib.Seq.{drop-cons}
use mathlib.Core.Bool.{Bool, cond, false, not, true}
use mathlib.Core.List.{[], ◌++◌, ◌∷◌, append_assoc, append-nil}
use mathlib.Core.Path.{◌∙◌, ◌≡◌, ap, fun_ext, refl, subst}
use native.Mathlib.Numerals.{add-one}
use native.Mathlib.Omega.{arith}

pub read_none : (t : Bytes) (i : ℕ) → Read t i i
unfolding onto
read_none t i = record { read = []; rule = λ o us x. x; same = λ u us. refl }

onto_append : (xs ys l : Units) → onto (xs ++ ys) l ≡ onto ys (onto xs l)
unfolding onto
onto_append [] ys l = refl
onto_append (x ∷ xs) ys l = onto_append xs ys (x ∷ l)

onto_onto : (xs l m : Units) → onto (onto xs l) m ≡ onto l (xs ++ m)
unfolding onto
onto_onto [] l m = refl
onto_onto (x ∷ xs) l m = onto_onto xs (x ∷ l) m

-- What is read between two characters, behind what comes to them.
pub then : {t : Bytes} {R : Rule} {s : Use → Units → State} {i j k : ℕ} → Goes t R s i j → Read t j k → Goes t R s i k
then x y =
    record {
      read = x.read ++ y.read;
      rule = λ o us c. rw append_assoc (x.rule o (y.read ++ us) (y.rule o us c));
      same = λ u us. rw onto_append (x.same u us ∙ y.same u (onto x.read us));
    }

pub then_refused : {t : Bytes} {i j k p : ℕ} → Read t i j → Refused t State.chars j k p → Refused t State.chars i k p
then_refused x y u us = x.same u us ∙ y u (onto x.read us)

-- The same of a string, of which nothing is read before.
pub string_refused : {t : Bytes} {i j k p : ℕ} → Read t i j → Refused t State.chars j k p → (u : Use) → at t (State.chars u []) i ≡ refused k p
string_refused x y u = then_refused x y u []

-- The byte that stands at `i`.
module _ (t : Bytes) (i : ℕ) (h : i < length t) where
  pub plain_one : T (is_plain (get_or t i 0)) → Read t i (i + 1)
  unfolding move onto
  plain_one p =
      record {
        read = get_or t i 0 ∷ [];
        rule = λ o us x. rw (drop-cons t i 0 h) (Chars.plain p (rw add-one at x));
        same = λ u us. step t (State.chars u us) i h (Took.yes p Took.go);
      }

  slash : get_or t i 0 ≡ code "\\" → (u : Use) (us : Units) → at t (State.chars u us) i ≡ at t (State.escape u us) (i + 1)
  unfolding move
  slash e u us = step t (State.chars u us) i h (rw e (Took.no tt (Took.no tt (Took.no tt (Took.yes tt Took.go)))))

  pub slash_read : {j : ℕ} → get_or t i 0 ≡ code "\\" → Goes t (Escape house) State.escape (i + 1) j → Read t i j
  slash_read e x =
      record {
        read = x.read;
        rule = λ o us c. rw (drop-cons t i 0 h, e) (Chars.escape (rw add-one at (x.rule o us c)));
        same = λ u us. slash e u us ∙ x.same u us;
      }

  pub slash_refused : {k p : ℕ} → get_or t i 0 ≡ code "\\" → Refused t State.escape (i + 1) k p → Refused t State.chars i k p
  slash_refused e x u us = slash e u us ∙ x u us

  -- The quote that closes a value, and one that closes a name, which is judged there.
  closes_value : get_or t i 0 ≡ code "\"" → (a : ℕ) (st : Stack) (us : Units) → at t (State.chars (Use.value a st) us) i ≡ at t (State.after st (Node.string a (i + 1) (onto us []))) (i + 1)
  unfolding move close_move
  closes_value e a st us = step t (State.chars (Use.value a st) us) i h (rw (e, add-one i) (Took.no tt (Took.no tt (Took.yes tt Took.go))))

  closes_name : get_or t i 0 ≡ code "\"" → (q a : ℕ) (ms : Members) (st : Stack) (us : Units) → at t (State.chars (Use.name q a ms st) us) i ≡ judged i ms (onto us []) (at t (State.named q (onto us []) a ms st) (i + 1))
  unfolding move close_move judged judging number_of
  closes_name e q a ms st us = fun_ext (λ f. by f (f (onto us []) (names_of ms)) refl)
    where
      on : State
      on = State.named q (onto us []) a ms st

      by : (f : Judge) (c : Bool) → f (onto us []) (names_of ms) ≡ c → at t (State.chars (Use.name q a ms st) us) i f ≡ cond c (at t on (i + 1) f) (Outcome.refused 8 i)
      by f true z =
          step_by t (State.chars (Use.name q a ms st) us) i f h (rw e (Took.no tt (Took.no tt (Took.yes tt (Took.ask (is_true z))))))
      by f false z =
          fail_by t (State.chars (Use.name q a ms st) us) i f h (rw e (Fault.no tt (Fault.no tt (Fault.yes tt (Fault.ask (fails _ _ refl z))))))

  pub quote_ends : {j : ℕ} → Read t j i → get_or t i 0 ≡ code "\"" → Ended t j i
  unfolding onto
  quote_ends x e =
      let back : onto (onto x.read []) [] ≡ x.read = onto_onto x.read [] [] ∙ append-nil x.read in
      record {
        units = x.read;
        chars = rw append-nil at (x.rule (from (i + 1) (drop (i + 1) t)) [] (rw (add-one i, drop-cons t i 0 h, e) Chars.close));
        value = λ a st. x.same (Use.value a st) [] ∙ closes_value e a st (onto x.read []) ∙ ap (λ us. at t (State.after st (Node.string a (i + 1) us)) (i + 1)) back;
        name = λ q a ms st. x.same (Use.name q a ms st) [] ∙ closes_name e q a ms st (onto x.read []) ∙ ap (λ us. judged i ms us (at t (State.named q us a ms st) (i + 1))) back;
      }

  pub low_refused : is_plain (get_or t i 0) ≡ false → (get_or t i 0 ≡ code "\"" → ⊥) → (get_or t i 0 ≡ code "\\" → ⊥) → get_or t i 0 < 0x80 → Refused t State.chars i 4 i
  unfolding move
  low_refused p q r l u us =
      fail t (State.chars u us) i h (Fault.no (fails _ _ refl p) (Fault.no (rw (lt-leb 0x80 (get_or t i 0) l) tt) (Fault.no (differs _ _ q) (Fault.no (differs _ _ r) Fault.bad))))

  pub high_refused : is_plain (get_or t i 0) ≡ false → 0x80 ≤ get_or t i 0 → get_or t i 0 ≤ 0xff → Refused t State.chars i 9 i
  unfolding move judging house number_of
  high_refused p l m u us =
      fail t (State.chars u us) i h (Fault.no (fails _ _ refl p) (Fault.yes (le_both 0x80 (get_or t i 0) (get_or t i 0) 0xff l m) (Fault.ask tt)))

  pub escape_one : T (is_escape (get_or t i 0)) → Goes t (Escape house) State.escape i (i + 1)
  unfolding move onto
  escape_one p =
      record {
        read = escape_unit (get_or t i 0) ∷ [];
        rule = λ o us x. rw (drop-cons t i 0 h) (Escape.short p Is.is (rw add-one at x));
        same = λ u us. step t (State.escape u us) i h (Took.yes p Took.go);
      }

  pub escape_refused : T (not (is_escape (get_or t i 0))) → (get_or t i 0 ≡ code "u" → ⊥) → Refused t State.escape i 4 i
  unfolding move
  escape_refused p q u us = fail t (State.escape u us) i h (Fault.no p (Fault.no (differs _ _ q) Fault.bad))

  -- At the `u` behind a backslash.
  unit : T (not (is_escape (get_or t i 0))) → get_or t i 0 ≡ code "u" → (u : Use) (us : Units) → at t (State.escape u us) i ≡ at t (four u us) (i + 1)
  unfolding move
  unit p e u us = step t (State.escape u us) i h (Took.no p (Took.yes (rw e tt) Took.go))

  pub unit_at : T (not (is_escape (get_or t i 0))) → get_or t i 0 ≡ code "u" → (r : Result ℕ Refusal) → FourAt t (i + 1) r → EscapeAt t i r
  unit_at p e (Ok j) (l, m, x) = (
    omega arith,
    m,
    record {
      read = x.read;
      rule = λ o us c. rw (drop-cons t i 0 h, e, ← add-one i) (x.rule o us c i (add-one i));
      same = λ u us. unit p e u us ∙ x.same u us;
    },
  )
  unit_at p e (Err f) x = λ u us. unit p e u us ∙ x u us

  pub hex_refused : T (not (is_hex (get_or t i 0))) → (l : Left) (a : ℕ) → Refused t (State.hex l a) i 4 i
  unfolding move
  hex_refused p l a u us = fail t (State.hex l a u us) i h (Fault.no p Fault.bad)

-- The end of the text.
module _ (t : Bytes) (i : ℕ) (h : length t ≤ i) where
  pub chars_short : Refused t State.chars i 3 i
  unfolding is_done
  chars_short u us = short t (State.chars u us) i h tt

  pub escape_short : Refused t State.escape i 3 i
  unfolding is_done
  escape_short u us = short t (State.escape u us) i h tt

  pub hex_short : (l : Left) (a : ℕ) → Refused t (State.hex l a) i 3 i
  unfolding is_done
  hex_short l a u us = short t (State.hex l a u us) i h tt

-- A digit behind `\u`, and what is refused behind it.
module _ (t : Bytes) (i : ℕ) {j : ℕ} (next : j ≡ i + 1) (digit : HexAt t i (Ok tt)) where
  hexed : (l : Left) (a : ℕ) (u : Use) (us : Units) → at t (State.hex l a u us) i ≡ at t (hex_state l (16 * a + hex_value (get_or t i 0)) u us) j
  unfolding move
  hexed l a u us = rw next (step t (State.hex l a u us) i digit.0 (Took.yes digit.1 Took.go))

  pub hexed_refused : {k p : ℕ} (l : Left) → ((a : ℕ) → Refused t (State.hex l a) j k p) → (a : ℕ) → Refused t (State.hex (Left.more l) a) i k p
  unfolding hex_state
  hexed_refused l x a u us = hexed (Left.more l) a u us ∙ x _ u us

  one_byte : drop i t ≡ get_or t i 0 ∷ drop j t
  one_byte = rw (next, add-one) (drop-cons t i 0 digit.0)

-- All four.
pub four_read : (t : Bytes) (i : ℕ) → HexAt t i (Ok tt) → HexAt t (i + 1) (Ok tt) → HexAt t (i + 2) (Ok tt) → HexAt t (i + 3) (Ok tt) → Goes t Hexed four i (i + 4)
unfolding hex_state onto
four_read t i w x y z =
    let e₁ : i + 2 ≡ i + 1 + 1 = omega arith in
    let e₂ : i + 3 ≡ i + 2 + 1 = omega arith in
    let e₃ : i + 4 ≡ i + 3 + 1 = omega arith in
    record {
      read = hex_unit (get_or t i 0) (get_or t (i + 1) 0) (get_or t (i + 2) 0) (get_or t (i + 3) 0) ∷ [];
      rule = λ o us c p e.
          let n : i + 4 ≡ suc (suc (suc (suc (suc p)))) = omega arith in
          rw (one_byte t i refl w, one_byte t (i + 1) e₁ x, one_byte t (i + 2) e₂ y, one_byte t (i + 3) e₃ z)
          (Escape.unit w.1 x.1 y.1 z.1 Is.is (subst (λ n. Chars house (from n (drop (i + 4) t)) o us) n c));
      same = λ u us.
          hexed t i refl w _ 0 u us ∙ hexed t (i + 1) e₁ x _ _ u us ∙ hexed t (i + 2) e₂ y _ _ u us ∙ hexed t (i + 3) e₃ z Left.last _ u us
          ∙ ap (λ a. at t (State.chars u (a ∷ us)) (i + 4)) (omega arith);
    }
