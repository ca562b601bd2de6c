-- One byte, both ways: what the grammar lets follow in a state, with the byte in front, is what it lets follow in the
-- state that the machine moves to.
use Prim.Native.Char.{code}
use Prim.Native.Nat.{◌*◌, ◌+◌, ◌≤◌, suc, ℕ}
use Rattle.text.proofs.Digits.{count_from}
use Rattle.text.proofs.Fitting.{Fitting, Sane, is_number}
use Rattle.text.proofs.Machine.{Frame, Left, Numeral, Stack, State, Use, close_move, depth_of, hex_state, member_move, move, names_of, onto, onto_members, onto_nodes, other_move, value_move, word_state}
use Rattle.text.proofs.Residual.{After, AfterName, Closed, Follows, HexRest, Leads, NumeralRest, Then, after_whole, number_of}
use Rattle.text.proofs.StepNumber.{backward_after, backward_number, forward_after, forward_number}
use Rattle.text.proofs.Tests.{byte_at, high_least, not_byte, not_space, plain_most, space_not}
use Rattle.text.specs.Bytes.{Bytes, Source, Units, from, hex_value, is_high, is_nonzero, is_plain, is_space, value_from}
use Rattle.text.specs.Ceilings.{Ceilings}
use Rattle.text.specs.Decimal.{Decimal}
use Rattle.text.specs.Grammar.{Member, Value}
use Rattle.text.specs.Node.{Literal, Members, Node, Nodes}
use Rattle.text.specs.Numbers.{Minus, Number, Whole}
use Rattle.text.specs.Strings.{Chars, Escape, Is, Word, hex_unit}
use lib.Dec.{T, T_not, eqb, eqb_refl, not_T}
use mathlib.Core.Bool.{false, not, true}
use mathlib.Core.List.{[], ◌∷◌}
use mathlib.Core.Path.{◌≡◌, subst}
use native.Mathlib.Omega.{arith}
use Rattle.text.specs.Grammar as rule

-- A high byte is no plain one.
pub high≢plain : (b : ℕ) → T (is_high b) → T (not (is_plain b))
high≢plain b h = not_T (is_plain b) λ p. let lo : 0x80 ≤ b = high_least b h in let hi : b ≤ 0x7f = plain_most b p in omega arith

-- The machine counts a `\u` up from 0.
pub from_zero : (a b c d : ℕ) {u : ℕ} → Is (hex_unit a b c d) u → Is (16 * (16 * (16 * (16 * 0 + hex_value a) + hex_value b) + hex_value c) + hex_value d) u
from_zero a b c d {u} e = subst (λ x. Is (16 * (16 * (16 * x + hex_value b) + hex_value c) + hex_value d) u) (let z : hex_value a ≡ 16 * 0 + hex_value a = omega arith in z) e

to_zero : (a b c d : ℕ) {u : ℕ} → Is (16 * (16 * (16 * (16 * 0 + hex_value a) + hex_value b) + hex_value c) + hex_value d) u → Is (hex_unit a b c d) u
to_zero a b c d {u} e = subst (λ x. Is (16 * (16 * (16 * x + hex_value b) + hex_value c) + hex_value d) u) (let z : 16 * 0 + hex_value a ≡ hex_value a = omega arith in z) e

module _ (C : Ceilings) where
  pub escape_of : {p : ℕ} {i us : Bytes} {o : Source} → HexRest C (Left.more (Left.more (Left.more Left.last))) 0 (from (suc p) i) o us → Escape C (from p (code "u" ∷ i)) o us
  escape_of (HexRest.more {b = a} p (HexRest.more {b = b} q (HexRest.more {b = c} r (HexRest.last {b = d} s e x)))) = Escape.unit p q r s (to_zero a b c d e) x

  -- The machine's move allows what the grammar allows.
  forward_other : (st : Stack) (ι b : ℕ) {w : Bytes} {r v : Node} {o : Source} → Value C (depth_of st) (from ι (b ∷ w)) o v → After C st v o r → T (not (is_nonzero b)) → T (not (eqb b (code "-"))) → T (not (eqb b (code "0"))) → Then C (other_move st ι b) (from (suc ι) w) r
  unfolding other_move onto
  forward_other st ι b (rule.value_space p t) a _ _ _ = Leads.yes p (Leads.go (Follows.value t a))
  forward_other st ι b (rule.null (Word.byte l)) a _ _ _ = Leads.no tt (Leads.yes tt (Leads.go (Follows.literal l a)))
  forward_other st ι b (rule.true (Word.byte l)) a _ _ _ = Leads.no tt (Leads.no tt (Leads.yes tt (Leads.go (Follows.literal l a))))
  forward_other st ι b (rule.false (Word.byte l)) a _ _ _ = Leads.no tt (Leads.no tt (Leads.no tt (Leads.yes tt (Leads.go (Follows.literal l a)))))
  forward_other st ι b (rule.string s) a _ _ _ = Leads.no tt (Leads.no tt (Leads.no tt (Leads.no tt (Leads.yes tt (Leads.go (Follows.chars s (Closed.value a)))))))
  forward_other st ι b (rule.array g l) a _ _ _ = Leads.no tt (Leads.no tt (Leads.no tt (Leads.no tt (Leads.no tt (Leads.yes tt (Leads.ask g (Follows.array l a)))))))
  forward_other st ι b (rule.object g l) a _ _ _ = Leads.no tt (Leads.no tt (Leads.no tt (Leads.no tt (Leads.no tt (Leads.no tt (Leads.yes tt (Leads.ask g (Follows.object l a))))))))
  forward_other st ι b (rule.number (Number.number Minus.none (Whole.nonzero p d) f e l)) a q _ _ = absurd (T_not (is_nonzero b) q p)
  forward_other st ι b (rule.number (Number.number Minus.none Whole.zero f e l)) a _ _ q = absurd q
  forward_other st ι b (rule.number (Number.number Minus.minus x f e l)) a _ q _ = absurd q

  -- The first byte of a number, and what it cannot be.
  pub number_starts : (F : State → Type 0) (st : Stack) (j ι b : ℕ) {w : Bytes} {o : Source} {x : Decimal} → Number C (from ι (b ∷ w)) o x
      → ((ns : Numeral) → NumeralRest C ns (from (suc ι) w) o x → F (State.number ns j st)) → Leads C F (value_move st j b)
  unfolding value_move value_from count_from
  number_starts F st j ι b (Number.number Minus.none (Whole.nonzero {ds = ds} p d) f e l) on = Leads.yes p (Leads.go (on _ (NumeralRest.whole d (after_whole C false (b ∷ ds) f e l))))
  number_starts F st j ι b (Number.number Minus.none Whole.zero f e l) on = Leads.no tt (Leads.no tt (Leads.yes tt (Leads.go (on _ (NumeralRest.zero (after_whole C false (code "0" ∷ []) f e l))))))
  number_starts F st j ι b (Number.number {ds = ds} Minus.minus x f e l) on = Leads.no tt (Leads.yes tt (Leads.go (on _ (NumeralRest.minus x (after_whole C true ds f e l)))))

  pub number_not : {ι b : ℕ} {w : Bytes} {o : Source} {x : Decimal} → Number C (from ι (b ∷ w)) o x → T (not (is_space b)) × T (not (eqb b (code "]")))
  number_not {b = b} (Number.number Minus.none (Whole.nonzero p d) f e l) = (not_space is_nonzero b p tt tt tt tt, not_byte is_nonzero b (code "]") p tt)
  number_not (Number.number Minus.none Whole.zero f e l) = (tt, tt)
  number_not (Number.number Minus.minus x f e l) = (tt, tt)

  forward_value : (st : Stack) (ι b : ℕ) {w : Bytes} {r v : Node} {o : Source} → Value C (depth_of st) (from ι (b ∷ w)) o v → After C st v o r → Then C (value_move st ι b) (from (suc ι) w) r
  unfolding value_move
  forward_value st ι b {w} {r} (rule.number h) a = number_starts (λ s. Follows C s (from (suc ι) w) r) st ι ι b h (λ _ h. Follows.number h a)
  forward_value st ι b (rule.value_space p t) a =
      let q₁ = space_not is_nonzero b p tt tt tt tt in let q₂ = space_not (λ b. eqb b (code "-")) b p tt tt tt tt in let q₃ = space_not (λ b. eqb b (code "0")) b p tt tt tt tt in
      Leads.no q₁ (Leads.no q₂ (Leads.no q₃ (forward_other st ι b (rule.value_space p t) a q₁ q₂ q₃)))
  forward_value st ι b (rule.null (Word.byte l)) a = Leads.no tt (Leads.no tt (Leads.no tt (forward_other st ι b (rule.null (Word.byte l)) a tt tt tt)))
  forward_value st ι b (rule.true (Word.byte l)) a = Leads.no tt (Leads.no tt (Leads.no tt (forward_other st ι b (rule.true (Word.byte l)) a tt tt tt)))
  forward_value st ι b (rule.false (Word.byte l)) a = Leads.no tt (Leads.no tt (Leads.no tt (forward_other st ι b (rule.false (Word.byte l)) a tt tt tt)))
  forward_value st ι b (rule.string s) a = Leads.no tt (Leads.no tt (Leads.no tt (forward_other st ι b (rule.string s) a tt tt tt)))
  forward_value st ι b (rule.array g l) a = Leads.no tt (Leads.no tt (Leads.no tt (forward_other st ι b (rule.array g l) a tt tt tt)))
  forward_value st ι b (rule.object g l) a = Leads.no tt (Leads.no tt (Leads.no tt (forward_other st ι b (rule.object g l) a tt tt tt)))

  forward_word : (ks : Bytes) (κ : ℕ) {w o : Bytes} {ι q : ℕ} {st : Stack} (v : Literal) {r : Node} → Word ks (from (suc ι) w) (from q o) → After C st (Node.literal κ q v) (from q o) r → Follows C (word_state ks v κ st ι) (from (suc ι) w) r
  unfolding word_state
  forward_word ks κ v Word.done a = Follows.after a
  forward_word ks κ v (Word.byte l) a = Follows.literal (Word.byte l) a

  forward_close : (u : Use) (us : Units) {ι : ℕ} {w : Bytes} {r : Node} → Closed C u us (from (suc ι) w) r → Then C (close_move u us ι) (from (suc ι) w) r
  unfolding close_move
  forward_close u us (Closed.value a) = Leads.go (Follows.after a)
  forward_close u us (Closed.name g n) = Leads.ask g (Follows.named n)

  forward_member : (κ : ℕ) (ms : Members) (st : Stack) (ι b : ℕ) {w o : Bytes} {q : ℕ} {l : Members} {r : Node}
      → Member C (suc (depth_of st)) (names_of ms) (from ι (b ∷ w)) (from q o) l → After C st (Node.object κ q (onto_members ms l)) (from q o) r → Then C (member_move κ ms st ι b) (from (suc ι) w) r
  unfolding member_move onto
  forward_member κ ms st ι b (rule.member_space p k) a = Leads.yes p (Leads.go (Follows.member k a))
  forward_member κ ms st ι b (rule.member_name s g c) a = Leads.no tt (Leads.yes tt (Leads.go (Follows.chars s (Closed.name g (AfterName.named c a)))))

  pub forward : Sane C → (s : State) (ι b : ℕ) {w : Bytes} {r : Node} → Follows C s (from ι (b ∷ w)) r → Then C (move s ι b) (from (suc ι) w) r
  unfolding move onto onto_nodes onto_members names_of depth_of hex_state is_number
  forward sane (State.value st) ι b (Follows.value t a) = forward_value st ι b t a
  forward sane (State.array κ st) ι b (Follows.array (rule.array_space p t) a) = Leads.yes p (Leads.go (Follows.array t a))
  forward sane (State.array κ st) ι b (Follows.array rule.array_close a) = Leads.no tt (Leads.yes tt (Leads.go (Follows.after a)))
  forward sane (State.array κ st) ι b (Follows.array (rule.array_first (rule.value_space p v) t) a) = Leads.yes p (Leads.go (Follows.array (rule.array_first v t) a))
  forward sane (State.array κ st) ι b (Follows.array (rule.array_first (rule.null (Word.byte l)) t) a) = Leads.no tt (Leads.no tt (forward_value (Frame.array κ Nodes.nil ∷ st) ι b (rule.null (Word.byte l)) (After.array t a)))
  forward sane (State.array κ st) ι b (Follows.array (rule.array_first (rule.true (Word.byte l)) t) a) = Leads.no tt (Leads.no tt (forward_value (Frame.array κ Nodes.nil ∷ st) ι b (rule.true (Word.byte l)) (After.array t a)))
  forward sane (State.array κ st) ι b (Follows.array (rule.array_first (rule.false (Word.byte l)) t) a) = Leads.no tt (Leads.no tt (forward_value (Frame.array κ Nodes.nil ∷ st) ι b (rule.false (Word.byte l)) (After.array t a)))
  forward sane (State.array κ st) ι b (Follows.array (rule.array_first (rule.string s) t) a) = Leads.no tt (Leads.no tt (forward_value (Frame.array κ Nodes.nil ∷ st) ι b (rule.string s) (After.array t a)))
  forward sane (State.array κ st) ι b (Follows.array (rule.array_first (rule.array g l) t) a) = Leads.no tt (Leads.no tt (forward_value (Frame.array κ Nodes.nil ∷ st) ι b (rule.array g l) (After.array t a)))
  forward sane (State.array κ st) ι b (Follows.array (rule.array_first (rule.object g l) t) a) = Leads.no tt (Leads.no tt (forward_value (Frame.array κ Nodes.nil ∷ st) ι b (rule.object g l) (After.array t a)))
  forward sane (State.array κ st) ι b (Follows.array (rule.array_first (rule.number h) t) a) = let (p, q) = number_not h in Leads.no p (Leads.no q (forward_value (Frame.array κ Nodes.nil ∷ st) ι b (rule.number h) (After.array t a)))
  forward sane (State.number ns κ st) ι b (Follows.number x a) = forward_number C sane ns κ st ι b x a
  forward sane (State.object κ st) ι b (Follows.object (rule.object_space p t) a) = Leads.yes p (Leads.go (Follows.object t a))
  forward sane (State.object κ st) ι b (Follows.object rule.object_close a) = Leads.no tt (Leads.yes tt (Leads.go (Follows.after a)))
  forward sane (State.object κ st) ι b (Follows.object (rule.object_first (rule.member_space p k)) a) = Leads.yes p (Leads.go (Follows.object (rule.object_first k) a))
  forward sane (State.object κ st) ι b (Follows.object (rule.object_first (rule.member_name s g c)) a) = Leads.no tt (Leads.no tt (forward_member κ Members.empty st ι b (rule.member_name s g c) a))
  forward sane (State.after st v) ι b (Follows.after a) = forward_after C st v ι b a
  forward sane (State.literal k ks v κ st) ι b (Follows.literal (Word.byte l) a) = Leads.yes (eqb_refl k) (Leads.go (forward_word ks κ v l a))
  forward sane (State.chars u us) ι b (Follows.chars (Chars.plain p s) h) = Leads.yes p (Leads.go (Follows.chars s h))
  forward sane (State.chars u us) ι b (Follows.chars (Chars.high p g s) h) = Leads.no (high≢plain b p) (Leads.yes p (Leads.ask g (Follows.chars s h)))
  forward sane (State.chars u us) ι b (Follows.chars Chars.close h) = Leads.no tt (Leads.no tt (Leads.yes tt (forward_close u (onto us []) h)))
  forward sane (State.chars u us) ι b (Follows.chars (Chars.escape x) h) = Leads.no tt (Leads.no tt (Leads.no tt (Leads.yes tt (Leads.go (Follows.escape x h)))))
  forward sane (State.escape u us) ι b (Follows.escape (Escape.short p Is.is s) h) = Leads.yes p (Leads.go (Follows.chars s h))
  forward sane (State.escape u us) ι b (Follows.escape (Escape.unit {a = x} {b = y} {c = z} {d = t} p q r s e l) h) =
      Leads.no tt (Leads.yes tt (Leads.go (Follows.hex (HexRest.more p (HexRest.more q (HexRest.more r (HexRest.last s (from_zero x y z t e) l)))) h)))
  forward sane (State.hex Left.last a u us) ι b (Follows.hex (HexRest.last p Is.is s) h) = Leads.yes p (Leads.go (Follows.chars s h))
  forward sane (State.hex (Left.more l) a u us) ι b (Follows.hex (HexRest.more p x) h) = Leads.yes p (Leads.go (Follows.hex x h))
  forward sane (State.member κ ms st) ι b (Follows.member k a) = forward_member κ ms st ι b k a
  forward sane (State.named q us κ ms st) ι b (Follows.named (AfterName.named (rule.named_space p c) a)) = Leads.yes p (Leads.go (Follows.named (AfterName.named c a)))
  forward sane (State.named q us κ ms st) ι b (Follows.named (AfterName.named (rule.named_colon v t) a)) = Leads.no tt (Leads.yes tt (Leads.go (Follows.value v (After.object t a))))

  -- And no more than that.
  backward_other : (st : Stack) (ι b : ℕ) {w : Bytes} {r : Node} → Then C (other_move st ι b) (from (suc ι) w) r → Follows C (State.value st) (from ι (b ∷ w)) r
  unfolding other_move onto
  backward_other st ι b (Leads.yes p (Leads.go (Follows.value t a))) = Follows.value (rule.value_space p t) a
  backward_other st ι b {w} {r} (Leads.no _ (Leads.yes p (Leads.go (Follows.literal l a)))) = byte_at (code "n") (λ k. Follows C (State.value st) (from ι (k ∷ w)) r) p (Follows.value (rule.null (Word.byte l)) a)
  backward_other st ι b {w} {r} (Leads.no _ (Leads.no _ (Leads.yes p (Leads.go (Follows.literal l a))))) = byte_at (code "t") (λ k. Follows C (State.value st) (from ι (k ∷ w)) r) p (Follows.value (rule.true (Word.byte l)) a)
  backward_other st ι b {w} {r} (Leads.no _ (Leads.no _ (Leads.no _ (Leads.yes p (Leads.go (Follows.literal l a)))))) = byte_at (code "f") (λ k. Follows C (State.value st) (from ι (k ∷ w)) r) p (Follows.value (rule.false (Word.byte l)) a)
  backward_other st ι b {w} {r} (Leads.no _ (Leads.no _ (Leads.no _ (Leads.no _ (Leads.yes p (Leads.go (Follows.chars s (Closed.value a)))))))) = byte_at (code "\"") (λ k. Follows C (State.value st) (from ι (k ∷ w)) r) p (Follows.value (rule.string s) a)
  backward_other st ι b {w} {r} (Leads.no _ (Leads.no _ (Leads.no _ (Leads.no _ (Leads.no _ (Leads.yes p (Leads.ask g (Follows.array l a)))))))) = byte_at (code "[") (λ k. Follows C (State.value st) (from ι (k ∷ w)) r) p (Follows.value (rule.array g l) a)
  backward_other st ι b {w} {r} (Leads.no _ (Leads.no _ (Leads.no _ (Leads.no _ (Leads.no _ (Leads.no _ (Leads.yes p (Leads.ask g (Follows.object l a))))))))) = byte_at (code "{") (λ k. Follows C (State.value st) (from ι (k ∷ w)) r) p (Follows.value (rule.object g l) a)
  backward_other st ι b (Leads.no _ (Leads.no _ (Leads.no _ (Leads.no _ (Leads.no _ (Leads.no _ (Leads.no _ x70))))))) = elim x70 [ ]

  backward_value : (st : Stack) (ι b : ℕ) {w : Bytes} {r : Node} → Then C (value_move st ι b) (from (suc ι) w) r → Follows C (State.value st) (from ι (b ∷ w)) r
  unfolding value_move value_from count_from
  backward_value st ι b (Leads.yes p (Leads.go (Follows.number (NumeralRest.whole {ds = ds} d y) a))) = Follows.value (rule.number (number_of C false (b ∷ ds) Minus.none (Whole.nonzero p d) y)) a
  backward_value st ι b {w} {r} (Leads.no _ (Leads.yes p (Leads.go (Follows.number (NumeralRest.minus {ds = ds} x y) a)))) = byte_at (code "-") (λ k. Follows C (State.value st) (from ι (k ∷ w)) r) p (Follows.value (rule.number (number_of C true ds Minus.minus x y)) a)
  backward_value st ι b {w} {r} (Leads.no _ (Leads.no _ (Leads.yes p (Leads.go (Follows.number (NumeralRest.zero y) a))))) = byte_at (code "0") (λ k. Follows C (State.value st) (from ι (k ∷ w)) r) p (Follows.value (rule.number (number_of C false (code "0" ∷ []) Minus.none Whole.zero y)) a)
  backward_value st ι b (Leads.no _ (Leads.no _ (Leads.no _ n))) = backward_other st ι b n

  backward_word : (ks : Bytes) (κ : ℕ) {w : Bytes} {ι : ℕ} {st : Stack} (v : Literal) {r : Node} → Follows C (word_state ks v κ st ι) (from (suc ι) w) r → (q : ℕ) × (o : Bytes) × Word ks (from (suc ι) w) (from q o) × After C st (Node.literal κ q v) (from q o) r
  unfolding word_state
  backward_word [] κ {w} {ι} v (Follows.after a) = (suc ι, w, Word.done, a)
  backward_word (k ∷ ks) κ v (Follows.literal {q = q} {o = o} l a) = (q, o, l, a)

  backward_close : (u : Use) (us : Units) {ι : ℕ} {w : Bytes} {r : Node} → Then C (close_move u us ι) (from (suc ι) w) r → Closed C u us (from (suc ι) w) r
  unfolding close_move
  backward_close (Use.value κ st) us (Leads.go (Follows.after a)) = Closed.value a
  backward_close (Use.name k κ ms st) us (Leads.ask g (Follows.named n)) = Closed.name g n

  backward_member : (κ : ℕ) (ms : Members) (st : Stack) (ι b : ℕ) {w : Bytes} {r : Node} → Then C (member_move κ ms st ι b) (from (suc ι) w) r → Follows C (State.member κ ms st) (from ι (b ∷ w)) r
  unfolding member_move onto
  backward_member κ ms st ι b (Leads.yes p (Leads.go (Follows.member k a))) = Follows.member (rule.member_space p k) a
  backward_member κ ms st ι b {w} {r} (Leads.no _ (Leads.yes p (Leads.go (Follows.chars s (Closed.name g (AfterName.named c a)))))) =
      byte_at (code "\"") (λ k. Follows C (State.member κ ms st) (from ι (k ∷ w)) r) p (Follows.member (rule.member_name s g c) a)
  backward_member κ ms st ι b (Leads.no _ (Leads.no _ x20)) = elim x20 [ ]

  first_val : (κ : ℕ) (st : Stack) {w : Source} {r : Node} → Follows C (State.value (Frame.array κ Nodes.nil ∷ st)) w r → Follows C (State.array κ st) w r
  unfolding onto_nodes depth_of
  first_val κ st (Follows.value v (After.array t a)) = Follows.array (rule.array_first v t) a

  first_mem : (κ : ℕ) (st : Stack) {w : Source} {r : Node} → Follows C (State.member κ Members.empty st) w r → Follows C (State.object κ st) w r
  unfolding onto_members names_of
  first_mem κ st (Follows.member k a) = Follows.object (rule.object_first k) a

  literal_of_lem : (k : ℕ) (ks : Bytes) {w : Bytes} {ι κ : ℕ} {st : Stack} {v : Literal} {r : Node} → (q : ℕ) × (o : Bytes) × Word ks (from (suc ι) w) (from q o) × After C st (Node.literal κ q v) (from q o) r → Follows C (State.literal k ks v κ st) (from ι (k ∷ w)) r
  literal_of_lem k ks (q, o, l, a) = Follows.literal (Word.byte l) a

  pub backward : (s : State) (ι b : ℕ) {w : Bytes} {r : Node} → Fitting C s → Then C (move s ι b) (from (suc ι) w) r → Follows C s (from ι (b ∷ w)) r
  unfolding move onto onto_nodes onto_members names_of depth_of hex_state is_number
  backward (State.value st) ι b φ n = backward_value st ι b n
  backward (State.array κ st) ι b φ (Leads.yes p (Leads.go (Follows.array t a))) = Follows.array (rule.array_space p t) a
  backward (State.array κ st) ι b {w} {r} φ (Leads.no _ (Leads.yes p (Leads.go (Follows.after a)))) = byte_at (code "]") (λ k. Follows C (State.array κ st) (from ι (k ∷ w)) r) p (Follows.array rule.array_close a)
  backward (State.array κ st) ι b φ (Leads.no _ (Leads.no _ n)) = first_val κ st (backward_value (Frame.array κ Nodes.nil ∷ st) ι b n)
  backward (State.object κ st) ι b φ (Leads.yes p (Leads.go (Follows.object t a))) = Follows.object (rule.object_space p t) a
  backward (State.object κ st) ι b {w} {r} φ (Leads.no _ (Leads.yes p (Leads.go (Follows.after a)))) = byte_at (code "}") (λ k. Follows C (State.object κ st) (from ι (k ∷ w)) r) p (Follows.object rule.object_close a)
  backward (State.object κ st) ι b φ (Leads.no _ (Leads.no _ n)) = first_mem κ st (backward_member κ Members.empty st ι b n)
  backward (State.after st v) ι b φ n = Follows.after (backward_after C st v ι b n)
  backward (State.number ns κ st) ι b (Fitting.number φ) n = backward_number C ns κ st ι b φ n
  backward (State.number ns κ st) ι b (Fitting.other q) n = absurd q
  backward (State.literal k ks v κ st) ι b {w} {r} φ (Leads.yes p (Leads.go n)) = byte_at k (λ k'. Follows C (State.literal k ks v κ st) (from ι (k' ∷ w)) r) p (literal_of_lem k ks (backward_word ks κ v n))
  backward (State.chars u us) ι b φ (Leads.yes p (Leads.go (Follows.chars s h))) = Follows.chars (Chars.plain p s) h
  backward (State.chars u us) ι b φ (Leads.no _ (Leads.yes p (Leads.ask g (Follows.chars s h)))) = Follows.chars (Chars.high p g s) h
  backward (State.chars u us) ι b {w} {r} φ (Leads.no _ (Leads.no _ (Leads.yes p n))) = byte_at (code "\"") (λ k. Follows C (State.chars u us) (from ι (k ∷ w)) r) p (Follows.chars Chars.close (backward_close u (onto us []) n))
  backward (State.chars u us) ι b {w} {r} φ (Leads.no _ (Leads.no _ (Leads.no _ (Leads.yes p (Leads.go (Follows.escape s h)))))) = byte_at (code "\\") (λ k. Follows C (State.chars u us) (from ι (k ∷ w)) r) p (Follows.chars (Chars.escape s) h)
  backward (State.escape u us) ι b φ (Leads.yes p (Leads.go (Follows.chars s h))) = Follows.escape (Escape.short p Is.is s) h
  backward (State.escape u us) ι b {w} {r} φ (Leads.no _ (Leads.yes p (Leads.go (Follows.hex x h)))) =
      byte_at (code "u") (λ k. Follows C (State.escape u us) (from ι (k ∷ w)) r) p (Follows.escape (escape_of x) h)
  backward (State.hex Left.last a u us) ι b φ (Leads.yes p (Leads.go (Follows.chars s h))) = Follows.hex (HexRest.last p Is.is s) h
  backward (State.hex (Left.more l) a u us) ι b φ (Leads.yes p (Leads.go (Follows.hex x h))) = Follows.hex (HexRest.more p x) h
  backward (State.member κ ms st) ι b φ n = backward_member κ ms st ι b n
  backward (State.named q us κ ms st) ι b φ (Leads.yes p (Leads.go (Follows.named (AfterName.named c a)))) = Follows.named (AfterName.named (rule.named_space p c) a)
  backward (State.named q us κ ms st) ι b {w} {r} φ (Leads.no _ (Leads.yes p (Leads.go (Follows.value v (After.object t a))))) =
      byte_at (code ":") (λ k. Follows C (State.named q us κ ms st) (from ι (k ∷ w)) r) p (Follows.named (AfterName.named (rule.named_colon v t) a))
  backward (State.literal k ks v κ st) ι b φ (Leads.no _ x11) = elim x11 [ ]
  backward (State.chars u us) ι b φ (Leads.no _ (Leads.no _ (Leads.no _ (Leads.no _ x42)))) = elim x42 [ ]
  backward (State.escape u us) ι b φ (Leads.no _ (Leads.no _ n)) = elim n [ ]
  backward (State.hex Left.last a u us) ι b φ (Leads.no _ x15) = elim x15 [ ]
  backward (State.hex (Left.more l) a u us) ι b φ (Leads.no _ x16) = elim x16 [ ]
  backward (State.named q us κ ms st) ι b φ (Leads.no _ (Leads.no _ n)) = elim n [ ]
