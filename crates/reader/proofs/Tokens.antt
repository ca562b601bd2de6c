-- What each token of a text does to the answer, in the terms of the functions that read it.
use Prim.Native.Char.{code}
use Prim.Native.Nat.{◌+◌, ◌<◌, ◌≤◌, ℕ}
use Rattle.members.specs.Records.{word_of}
use Rattle.names.proofs.Spelling.{closed, spelt}
use Rattle.reader.specs.Repeats.{repeats, repeats_all, repeats_members}
use Rattle.reader.specs.Tokens.{EntryAt, Flat, Name, Opened, Opening, ScalarAt, Whole, brace, bracket, opens_container, put_at}
use Rattle.scan.proofs.Steps.{Like, Within, alike, differs, fail, fails, short, stands, step, within}
use Rattle.scan.specs.Answers.{Judge, at, judging, loose, refused, shut}
use Rattle.scan.specs.Numbers.{Numbered, decimal_of, opens_number}
use Rattle.scan.specs.Refusals.{number_of, place_of}
use Rattle.scan.specs.Space.{Dense, Skipped, Spaced}
use Rattle.scan.specs.Strings.{StringAt, judged}
use Rattle.scan.specs.Words.{WordAt, due}
use Rattle.scan.specs.declared.number.Written.{Written}
use Rattle.scan.specs.declared.refusal.Refusal.{Refusal}
use Rattle.std.specs.Prelude.{Option, Some, None, Result, Ok, Err}
use Rattle.text.proofs.Machine.{Frame, Stack, State, Use, depth_of, member_move, move, other_move, value_move}
use Rattle.text.proofs.Offsets.{end, start}
use Rattle.text.proofs.Run.{Fault, Took, is_done}
use Rattle.text.proofs.Tests.{and_left, either, is_true, le_both, nonzero_most, not_byte, or_right}
use Rattle.text.specs.Bytes.{Bytes, Units, ascii, is_digit, is_nonzero, is_space}
use Rattle.text.specs.Ceilings as ceilings
use Rattle.text.specs.Ceilings.{Gate, house, max_depth}
use Rattle.text.specs.Decimal.{Decimal}
use Rattle.text.specs.Node.{Literal, Members, Node, Nodes}
use Rattle.text.specs.Table.{Words, records, records_all, records_members, size, size_all, size_members}
use Rattle.text.specs.Verdict.{Outcome}
use borrow.Author.Tests.{le-ltb, lt-ltb}
use lib.Dec.{T, T_not, eqb, eqb→eq, leb, leb→le, not_T}
use lib.ListN.{drop, get_or, length}
use mathlib.Core.Bool.{false, not, true}
use mathlib.Core.List.{[], ◌∷◌}
use mathlib.Core.Path.{◌∙◌, ◌≡◌, ap, refl, subst⁻¹, sym}
use native.Mathlib.Numerals.{add-one}
use native.Mathlib.Omega.{arith}

-- Values without values inside them.
module _ (i j : ℕ) where
  pub flat_literal : (w : Literal) → Flat (Node.literal i j w) i j
  unfolding size records repeats start end
  flat_literal w = record { one = refl; words = λ m k. refl; none = refl; starts = refl; ends = refl }

  flat_string : (us : Units) → Flat (Node.string i j us) i j
  unfolding size records repeats start end
  flat_string us = record { one = refl; words = λ m k. refl; none = refl; starts = refl; ends = refl }

  flat_number : (x : Decimal) → Flat (Node.number i j x) i j
  unfolding size records repeats start end
  flat_number x = record { one = refl; words = λ m k. refl; none = refl; starts = refl; ends = refl }

  flat_array : Flat (Node.array i j Nodes.nil) i j
  unfolding size size_all records records_all repeats repeats_all start end
  flat_array = record { one = refl; words = λ m k. ap (λ n. i ∷ j ∷ m ∷ n ∷ []) (add-one k); none = refl; starts = refl; ends = refl }

  flat_object : Flat (Node.object i j Members.empty) i j
  unfolding size size_members records records_members repeats repeats_members start end
  flat_object = record { one = refl; words = λ m k. ap (λ n. i ∷ j ∷ m ∷ n ∷ []) (add-one k); none = refl; starts = refl; ends = refl }

-- What the byte `b` does that stands at `i`.
module _ (t : Bytes) (i : ℕ) (h : i < length t) (b : ℕ) where
  pub took_at : (s s' : State) → get_or t i 0 ≡ b → Took shut (move s i b) s' → at t s i ≡ at t s' (i + 1)
  took_at s s' e k = step t s i h (subst⁻¹ (λ b. Took shut (move s i b) s') e k)

  fault_at : (k : ℕ) (s : State) → get_or t i 0 ≡ b → Fault loose (move s i b) k → at t s i ≡ refused k i
  fault_at k s e f = fail t s i h (subst⁻¹ (λ b. Fault loose (move s i b) k) e f)

-- A byte that opens a container, or does not.
data Opens (b : ℕ) : Type 0 where
  array : b ≡ bracket → Opens b
  object : b ≡ brace → Opens b

opens : (b : ℕ) → opens_container b ≡ true → Opens b
opens b e = either (eqb b bracket) (eqb b brace) (λ p. Opens.array (eqb→eq b bracket p)) (λ p. Opens.object (eqb→eq b brace p)) (is_true e)

pub opens_low : (b : ℕ) → opens_container b ≡ true → b ≤ brace
opens_low b e = by (opens b e)
  where
    by : Opens b → b ≤ brace
    by (Opens.array f) = omega arith
    by (Opens.object f) = omega arith

-- Whether it may, inside the open containers.
low_enough : (d : ℕ) → d < max_depth → T (shut (Gate.depth d))
unfolding judging house
low_enough d l = subst⁻¹ T (lt-ltb d max_depth l) tt

too_low : (d : ℕ) → max_depth ≤ d → T (not (loose (Gate.depth d)))
unfolding judging house
too_low d l = subst⁻¹ (λ x. T (not x)) (le-ltb d max_depth l) tt

-- Where a string or a container opens, and where an empty container closes.
module _ (t : Bytes) (i : ℕ) (h : i < length t) (st : Stack) where
  string_opens : get_or t i 0 ≡ code "\"" → at t (State.value st) i ≡ at t (State.chars (Use.value i st) []) (i + 1)
  unfolding move value_move other_move
  string_opens e =
      took_at t i h (code "\"") (State.value st) (State.chars (Use.value i st) []) e (Took.no tt (Took.no tt (Took.no tt (Took.no tt (Took.no tt (Took.no tt (Took.no tt (Took.yes tt Took.go))))))))

  array_opens : get_or t i 0 ≡ bracket → depth_of st < max_depth → at t (State.value st) i ≡ at t (State.array i st) (i + 1)
  unfolding move value_move other_move
  array_opens e l =
      took_at t i h bracket (State.value st) (State.array i st) e (Took.no tt (Took.no tt (Took.no tt (Took.no tt (Took.no tt (Took.no tt (Took.no tt (Took.no tt (Took.yes tt (Took.ask (low_enough (depth_of st) l)))))))))))

  object_opens : get_or t i 0 ≡ brace → depth_of st < max_depth → at t (State.value st) i ≡ at t (State.object i st) (i + 1)
  unfolding move value_move other_move
  object_opens e l =
      took_at t i h brace (State.value st) (State.object i st) e (Took.no tt (Took.no tt (Took.no tt (Took.no tt (Took.no tt (Took.no tt (Took.no tt (Took.no tt (Took.no tt (Took.yes tt (Took.ask (low_enough (depth_of st) l))))))))))))

  too_deep : Opens (get_or t i 0) → max_depth ≤ depth_of st → at t (State.value st) i ≡ refused 5 i
  unfolding move value_move other_move ceilings.number_of
  too_deep (Opens.array e) l =
      fault_at t i h bracket 5 (State.value st) e (Fault.no tt (Fault.no tt (Fault.no tt (Fault.no tt (Fault.no tt (Fault.no tt (Fault.no tt (Fault.no tt (Fault.yes tt (Fault.ask (too_low (depth_of st) l)))))))))))
  too_deep (Opens.object e) l =
      fault_at t i h brace 5 (State.value st) e (Fault.no tt (Fault.no tt (Fault.no tt (Fault.no tt (Fault.no tt (Fault.no tt (Fault.no tt (Fault.no tt (Fault.no tt (Fault.yes tt (Fault.ask (too_low (depth_of st) l))))))))))))

  array_closes : (a : ℕ) → get_or t i 0 ≡ code "]" → at t (State.array a st) i ≡ at t (State.after st (Node.array a (i + 1) Nodes.nil)) (i + 1)
  unfolding move
  array_closes a e = took_at t i h (code "]") (State.array a st) (State.after st (Node.array a (i + 1) Nodes.nil)) e (rw (add-one i) (Took.no tt (Took.yes tt Took.go)))

  object_closes : (a : ℕ) → get_or t i 0 ≡ code "}" → at t (State.object a st) i ≡ at t (State.after st (Node.object a (i + 1) Members.empty)) (i + 1)
  unfolding move
  object_closes a e = took_at t i h (code "}") (State.object a st) (State.after st (Node.object a (i + 1) Members.empty)) e (rw (add-one i) (Took.no tt (Took.yes tt Took.go)))

-- A byte that opens no number.
module _ (b : ℕ) (m : T (not (opens_number b))) where
  no_minus : T (not (eqb b (code "-")))
  no_minus = not_byte (λ b. not (opens_number b)) b (code "-") m tt

  no_nought : T (not (eqb b (code "0")))
  no_nought = not_byte (λ b. not (opens_number b)) b (code "0") m tt

  no_nonzero : T (not (is_nonzero b))
  no_nonzero = not_T (is_nonzero b) λ p.
      let lo : code "1" ≤ b = leb→le (code "1") b (and_left (leb (code "1") b) (leb b (code "9")) p) in
      T_not (opens_number b) m (or_right (eqb b (code "-")) (is_digit b) (le_both (code "0") b b (code "9") (omega arith) (nonzero_most b p)))

-- A number as a value.
pub number_scalar : {t : Bytes} {i : ℕ} {w : Written} → Numbered t i w → ScalarAt t i (Ok w.end)
number_scalar {i = i} {w = w} x = (x.onward, x.bound, record { what = Node.number i w.end (decimal_of w); flat = flat_number i w.end (decimal_of w); same = x.same })

-- A string or a literal as a value, and a byte with which no value begins.
module _ (t : Bytes) {i : ℕ} (h : i < length t) where
  pub string_scalar : (r : Result ℕ Refusal) → get_or t i 0 ≡ code "\"" → StringAt t (i + 1) r → ScalarAt t i r
  string_scalar (Ok p) e x =
      let (a, b, (q, j, y)) = x in
      (omega arith, b, record { what = Node.string i p y.units; flat = flat_string i p y.units; same = λ st. string_opens t i h st e ∙ y.value i st ∙ ap (λ n. at t (State.after st (Node.string i n y.units)) n) (sym j) })
  string_scalar (Err k) e x = λ st. string_opens t i h st e ∙ x (Use.value i st)

  literal_scalar : (w : Bytes) (v : Literal) (r : Result ℕ Refusal) → ((st : Stack) → at t (State.value st) i ≡ at t (due (drop 1 w) v i st (i + 1)) (i + 1)) → WordAt t w i r → ScalarAt t i r
  literal_scalar w v (Ok p) o (a, b, y) = (a, b, record { what = Node.literal i p v; flat = flat_literal i p v; same = λ st. o st ∙ y v i st })
  literal_scalar w v (Err k) o x = λ st. o st ∙ x v i st

  pub null_scalar : (r : Result ℕ Refusal) → get_or t i 0 ≡ code "n" → WordAt t (ascii "null") i r → ScalarAt t i r
  unfolding move value_move other_move due
  null_scalar r e =
      literal_scalar (ascii "null") Literal.null r
      (λ st. took_at t i h (code "n") (State.value st) (State.literal (code "u") (ascii "ll") Literal.null i st) e (Took.no tt (Took.no tt (Took.no tt (Took.no tt (Took.yes tt Took.go))))))

  pub true_scalar : (r : Result ℕ Refusal) → get_or t i 0 ≡ code "t" → WordAt t (ascii "true") i r → ScalarAt t i r
  unfolding move value_move other_move due
  true_scalar r e =
      literal_scalar (ascii "true") Literal.true r
      (λ st. took_at t i h (code "t") (State.value st) (State.literal (code "r") (ascii "ue") Literal.true i st) e (Took.no tt (Took.no tt (Took.no tt (Took.no tt (Took.no tt (Took.yes tt Took.go)))))))

  pub false_scalar : (r : Result ℕ Refusal) → get_or t i 0 ≡ code "f" → WordAt t (ascii "false") i r → ScalarAt t i r
  unfolding move value_move other_move due
  false_scalar r e =
      literal_scalar (ascii "false") Literal.false r
      (λ st. took_at t i h (code "f") (State.value st) (State.literal (code "a") (ascii "lse") Literal.false i st) e (Took.no tt (Took.no tt (Took.no tt (Took.no tt (Took.no tt (Took.no tt (Took.yes tt Took.go))))))))

  pub no_scalar : is_space (get_or t i 0) ≡ false → T (not (opens_number (get_or t i 0))) → (get_or t i 0 ≡ code "n" → ⊥) → (get_or t i 0 ≡ code "t" → ⊥) → (get_or t i 0 ≡ code "f" → ⊥)
      → (get_or t i 0 ≡ code "\"" → ⊥) → (get_or t i 0 ≡ bracket → ⊥) → (get_or t i 0 ≡ brace → ⊥) → ScalarAt t i (Err (Refusal.Wrong i))
  unfolding move value_move other_move
  no_scalar w m n u f q a o st =
      fail t (State.value st) i h (Fault.no (no_nonzero (get_or t i 0) m) (Fault.no (no_minus (get_or t i 0) m) (Fault.no (no_nought (get_or t i 0) m)
      (Fault.no (fails false _ (sym w) refl) (Fault.no (differs _ _ n) (Fault.no (differs _ _ u) (Fault.no (differs _ _ f) (Fault.no (differs _ _ q) (Fault.no (differs _ _ a) (Fault.no (differs _ _ o) Fault.bad))))))))))

-- A container that does not close at once: its first element or name is due.
module _ (t : Bytes) (i : ℕ) (d : Dense t i) (a : ℕ) (st : Stack) where
  first_element : (get_or t i 0 ≡ code "]" → ⊥) → at t (State.array a st) i ≡ at t (State.value (Frame.array a Nodes.nil ∷ st)) i
  unfolding move is_done
  first_element f = by (within t i)
    where
      by : Within t i → at t (State.array a st) i ≡ at t (State.value (Frame.array a Nodes.nil ∷ st)) i
      by (Within.inside h) = alike t (State.array a st) (State.value (Frame.array a Nodes.nil ∷ st)) i h (Like.left (fails false _ (sym (d h)) refl) (Like.left (differs _ _ f) Like.like))
      by (Within.behind h) = short t (State.array a st) i h tt ∙ sym (short t (State.value (Frame.array a Nodes.nil ∷ st)) i h tt)

  first_name : (get_or t i 0 ≡ code "}" → ⊥) → at t (State.object a st) i ≡ at t (State.member a Members.empty st) i
  unfolding move is_done
  first_name f = by (within t i)
    where
      by : Within t i → at t (State.object a st) i ≡ at t (State.member a Members.empty st) i
      by (Within.inside h) = alike t (State.object a st) (State.member a Members.empty st) i h (Like.left (fails false _ (sym (d h)) refl) (Like.left (differs _ _ f) Like.like))
      by (Within.behind h) = short t (State.object a st) i h tt ∙ sym (short t (State.member a Members.empty st) i h tt)

-- A container that opens too deep.
pub deep_refused : (t : Bytes) {i d : ℕ} → i < length t → opens_container (get_or t i 0) ≡ true → max_depth ≤ d → (st : Stack) → d ≡ depth_of st → at t (State.value st) i ≡ refused 5 i
deep_refused t {i} h o l st e = too_deep t i h st (opens (get_or t i 0) o) (omega arith)

-- A value that begins at `i`, inside `d` open containers, and its record.
module _ {t : Bytes} {i : ℕ} {tab : Words} {nm : Option ℕ} {n d : ℕ} where
  module _ {tab' : Words} {p : ℕ} (dense : Dense t p) where
    whole : (v : Node) {j : ℕ} → Flat v i j → i < j → Skipped t j p → tab' ≡ put_at tab n i j (word_of nm) (n + 1) → ((st : Stack) → d ≡ depth_of st → at t (State.value st) i ≡ at t (State.after st v) j)
        → Whole t tab tab' i nm n d p
    whole v {j} flat l s put same =
        record { what = v; behind = j; flat = flat; inside = (l, s.onward, s.inside); dense = dense; put = put; same = λ st e. same st e ∙ s.same (State.after st v) Spaced.after }

    pub scalar_read : {j : ℕ} → ScalarAt t i (Ok j) → Skipped t j p → tab' ≡ put_at tab n i j (word_of nm) (n + 1) → Whole t tab tab' i nm n d p
    scalar_read (l, b, y) s put = whole y.what y.flat l s put (λ st e. y.same st)

    module _ (h : i < length t) (o : opens_container (get_or t i 0) ≡ true) (low : d < max_depth) where
      pub empty_read : {j : ℕ} → Skipped t (i + 1) j → get_or t j 0 ≡ get_or t i 0 + 2 → Skipped t (j + 1) p → tab' ≡ put_at tab n i (j + 1) (word_of nm) (n + 1) → Whole t tab tab' i nm n d p
      empty_read {j} s c u put = by (opens (get_or t i 0) o)
        where
          inside : j < length t
          inside = stands t j (λ z. absurd (omega arith))

          by : Opens (get_or t i 0) → Whole t tab tab' i nm n d p
          by (Opens.array e) =
              whole (Node.array i (j + 1) Nodes.nil) (flat_array i (j + 1)) (omega (arith, s.onward)) u put
              (λ st z. array_opens t i h st e (omega arith) ∙ s.same (State.array i st) Spaced.array ∙ array_closes t j inside st i (c ∙ ap (λ b. b + 2) e))
          by (Opens.object e) =
              whole (Node.object i (j + 1) Members.empty) (flat_object i (j + 1)) (omega (arith, s.onward)) u put
              (λ st z. object_opens t i h st e (omega arith) ∙ s.same (State.object i st) Spaced.object ∙ object_closes t j inside st i (c ∙ ap (λ b. b + 2) e))

      pub opened_read : {op : ℕ} → Skipped t (i + 1) p → (get_or t p 0 ≡ get_or t i 0 + 2 → ⊥) → tab' ≡ put_at tab n i 0 (word_of nm) op → Opened t tab tab' i nm n op d p
      opened_read s c put = record { low = low; inside = (omega (arith, s.onward), s.inside); dense = dense; put = put; opening = by (opens (get_or t i 0) o) }
        where
          by : Opens (get_or t i 0) → Opening t i p d (get_or t i 0)
          by (Opens.array e) =
              Opening.array e (λ st z. array_opens t i h st e (omega arith) ∙ s.same (State.array i st) Spaced.array ∙ first_element t p dense i st (λ x. c (x ∙ sym (ap (λ b. b + 2) e))))
          by (Opens.object e) =
              Opening.object e (λ st z. object_opens t i h st e (omega arith) ∙ s.same (State.object i st) Spaced.object ∙ first_name t p dense i st (λ x. c (x ∙ sym (ap (λ b. b + 2) e))))

-- What is due at `i` does not stand there: the text ends, or a wrong byte stands there.
module _ (t : Bytes) (i : ℕ) (r : Refusal) (cut : length t ≤ i → r ≡ Refusal.Short i) (wrong : i < length t → r ≡ Refusal.Wrong i) where
  missing_refused : (s : State) → T (not (is_done s)) → (i < length t → Fault loose (move s i (get_or t i 0)) 4) → at t s i ≡ refused (number_of r) (place_of r)
  missing_refused s o f = by (within t i)
    where
      by : Within t i → at t s i ≡ refused (number_of r) (place_of r)
      by (Within.inside h) = fail t s i h (f h) ∙ ap (λ r. refused (number_of r) (place_of r)) (sym (wrong h))
      by (Within.behind h) = short t s i h o ∙ ap (λ r. refused (number_of r) (place_of r)) (sym (cut h))

  module _ (d : Dense t i) (a : ℕ) (ms : Members) (st : Stack) where
    no_name : (get_or t i 0 ≡ code "\"" → ⊥) → at t (State.member a ms st) i ≡ refused (number_of r) (place_of r)
    unfolding move member_move is_done
    no_name f = missing_refused (State.member a ms st) tt (λ h. Fault.no (fails false _ (sym (d h)) refl) (Fault.no (differs _ _ f) Fault.bad))

    no_colon : (q : ℕ) (us : Units) → (get_or t i 0 ≡ code ":" → ⊥) → at t (State.named q us a ms st) i ≡ refused (number_of r) (place_of r)
    unfolding move is_done
    no_colon q us f = missing_refused (State.named q us a ms st) tt (λ h. Fault.no (fails false _ (sym (d h)) refl) (Fault.no (differs _ _ f) Fault.bad))

-- The opening quote of a name, and its colon.
module _ (t : Bytes) (i a : ℕ) (ms : Members) (st : Stack) where
  name_opens : get_or t i 0 ≡ code "\"" → at t (State.member a ms st) i ≡ at t (State.chars (Use.name i a ms st) []) (i + 1)
  unfolding move member_move
  name_opens e =
      took_at t i (stands t i (λ z. absurd (omega arith))) (code "\"") (State.member a ms st) (State.chars (Use.name i a ms st) []) e (Took.no tt (Took.yes tt Took.go))

  colon_read : (q : ℕ) (us : Units) → get_or t i 0 ≡ code ":" → at t (State.named q us a ms st) i ≡ at t (State.value (Frame.object a ms q us ∷ st)) (i + 1)
  unfolding move
  colon_read q us e =
      took_at t i (stands t i (λ z. absurd (omega arith))) (code ":") (State.named q us a ms st) (State.value (Frame.object a ms q us ∷ st)) e (Took.no tt (Took.yes tt Took.go))

-- What stands before a value in an object.
module _ {t : Bytes} {i : ℕ} where
  pub name_missing : {r : Refusal} → (length t ≤ i → r ≡ Refusal.Short i) → (i < length t → r ≡ Refusal.Wrong i) → Dense t i → (get_or t i 0 ≡ code "\"" → ⊥) → EntryAt t i brace None (Err r)
  name_missing {r} cut wrong d f = EntryAt.nameless refl (λ a ms st. no_name t i r cut wrong d a ms st f)

  module _ (e : get_or t i 0 ≡ code "\"") where
    pub name_refused : {r : Refusal} → StringAt t (i + 1) (Err r) → EntryAt t i brace None (Err r)
    name_refused x = EntryAt.nameless refl (λ a ms st. name_opens t i a ms st e ∙ x (Use.name i a ms st))

    -- The name ends before `j`, and behind whitespace its colon is due at `c`.
    module _ {j : ℕ} (x : StringAt t (i + 1) (Ok j)) {c : ℕ} (s : Skipped t j c) where
      name_read : (A : ℕ → Members → Units → Stack → Judge → Outcome) → ((a : ℕ) (ms : Members) (us : Units) (st : Stack) → at t (State.named i us a ms st) c ≡ A a ms us st) → Name t i A
      name_read A f =
          let (l, b, (p, q, y)) = x in
          record {
            units = y.units;
            place = p;
            inside = stands t i (λ z. absurd (omega arith));
            means = spelt y.chars;
            closes = let z = closed y.chars in rw (← add-one i) (omega arith);
            same = λ a ms st. name_opens t i a ms st e ∙ y.name i a ms st
                ∙ ap (judged p ms y.units) (ap (at t (State.named i y.units a ms st)) (sym q) ∙ s.same (State.named i y.units a ms st) Spaced.named ∙ f a ms y.units st);
          }

      pub member_refused : {r : Refusal} → (length t ≤ c → r ≡ Refusal.Short c) → (c < length t → r ≡ Refusal.Wrong c) → Dense t c → (get_or t c 0 ≡ code ":" → ⊥) → EntryAt t i brace (Some i) (Err r)
      member_refused {r} cut wrong d f =
          EntryAt.named refl (name_read (λ a ms us st. refused (number_of r) (place_of r)) (λ a ms us st. no_colon t c r cut wrong d a ms st i us f))

      pub member_read : {p : ℕ} → get_or t c 0 ≡ code ":" → Skipped t (c + 1) p → Dense t p → EntryAt t i brace (Some i) (Ok p)
      member_read {p} f u d =
          EntryAt.member refl (omega (arith, x.0, s.onward, u.onward)) u.inside d
          (name_read (λ a ms us st. at t (State.value (Frame.object a ms i us ∷ st)) p) (λ a ms us st. colon_read t c a ms st i us f ∙ u.same (State.value (Frame.object a ms i us ∷ st)) Spaced.value))
