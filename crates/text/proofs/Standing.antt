-- In each state of the machine the bytes so far end in what the state says: a number's states count the digits that
-- stand last, and outside strings the others have none before them.
use Prim.Native.Char.{code}
use Prim.Native.Nat.{◌*◌, ◌+◌, ◌<◌, ◌≤◌, ℕ}
use Rattle.text.proofs.Endings.{Ending, and_one, and_sign, bare, ending, ending_from, next, next_digit, next_letter, next_mark}
use Rattle.text.proofs.Machine.{Frame, Left, Numeral, Stack, State, Use, after_move, close_move, hex_state, member_move, move, number_move, onto, other_move, value_move, word_state}
use Rattle.text.proofs.Place.{Over}
use Rattle.text.proofs.Run.{Took}
use Rattle.text.proofs.Tests.{and_left, and_right, byte_at, le_both, nonzero_most, space_at}
use Rattle.text.proofs.Way.{Went}
use Rattle.text.specs.Bytes.{Bytes, Units, hex_value, is_digit, is_e, is_nonzero, is_space}
use Rattle.text.specs.Ceilings.{Ceilings}
use Rattle.text.specs.Decimal.{normal}
use Rattle.text.specs.Node.{Literal, Members, Node, Nodes}
use lib.Dec.{T, eqb, leb, leb→le}
use mathlib.Core.Bool.{Bool, ◌&&◌, false, true}
use mathlib.Core.List.{[], ◌∷◌}
use mathlib.Core.Path.{subst⁻¹}
use native.Mathlib.Omega.{arith}

-- The letters of the literals.
unfoldable pub lower : Bytes → Bool
lower [] = true
lower (b ∷ bs) = leb (code "a") b && leb b (code "z") && lower bs

-- `Stands s x`: in the state `s` the bytes so far end in `x`. Inside a string they may end in anything.
pub data Stands : State → Ending → Type 0 where
  minus : {p : ℕ} {st : Stack} → Stands (State.number Numeral.minus p st) (Ending.digits 0)
  zero : {neg : Bool} {p : ℕ} {st : Stack} → Stands (State.number (Numeral.zero neg) p st) (Ending.digits 1)
  whole : {neg : Bool} {c n p : ℕ} {st : Stack} → 1 ≤ n → Stands (State.number (Numeral.whole neg c n) p st) (Ending.digits n)
  point : {neg : Bool} {c n p : ℕ} {st : Stack} → 1 ≤ n → Stands (State.number (Numeral.point neg c n) p st) (Ending.digits 0)
  fraction : {neg : Bool} {c n f p : ℕ} {st : Stack} → f < n → Stands (State.number (Numeral.fraction neg c n f) p st) (Ending.digits f)
  mark : {neg : Bool} {c n f p : ℕ} {st : Stack} → Stands (State.number (Numeral.mark neg c n f) p st) Ending.mark
  sign : {neg s : Bool} {c n f p : ℕ} {st : Stack} → Stands (State.number (Numeral.sign neg c n f s) p st) (Ending.power 0)
  power : {neg s : Bool} {c n f e k p : ℕ} {st : Stack} → Stands (State.number (Numeral.power neg c n f s e k) p st) (Ending.power k)
  value : {st : Stack} → Stands (State.value st) (Ending.digits 0)
  array : {a : ℕ} {st : Stack} → Stands (State.array a st) (Ending.digits 0)
  object : {a : ℕ} {st : Stack} → Stands (State.object a st) (Ending.digits 0)
  after : {st : Stack} {v : Node} {x : Ending} → T (bare x) → Stands (State.after st v) x
  literal : {k : ℕ} {ks : Bytes} {v : Literal} {a : ℕ} {st : Stack} {x : Ending} → T (lower (k ∷ ks)) → T (bare x) → Stands (State.literal k ks v a st) x
  chars : {u : Use} {us : Units} {x : Ending} → Stands (State.chars u us) x
  escape : {u : Use} {us : Units} {x : Ending} → Stands (State.escape u us) x
  hex : {l : Left} {a : ℕ} {u : Use} {us : Units} {x : Ending} → Stands (State.hex l a u us) x
  member : {a : ℕ} {ms : Members} {st : Stack} → Stands (State.member a ms st) (Ending.digits 0)
  named : {q : ℕ} {us : Units} {a : ℕ} {ms : Members} {st : Stack} → Stands (State.named q us a ms st) (Ending.digits 0)

-- Behind a space, a byte that is known, a digit, and an exponent's mark.
space : {s : State} (x : Ending) (b : ℕ) → T (is_space b) → Stands s (Ending.digits 0) → Stands s (next x b)
unfolding next
space {s} x b t h = space_at (λ b. Stands s (next x b)) b t h h h h

byte : {s : State} (x : Ending) (b k : ℕ) → T (eqb b k) → Stands s (next x k) → Stands s (next x b)
byte {s} x b k t h = byte_at k (λ b. Stands s (next x b)) t h

digit : {s : State} (x : Ending) (b : ℕ) → T (is_digit b) → Stands s (and_one x) → Stands s (next x b)
digit {s} x b t h = subst⁻¹ (Stands s) (next_digit x b t) h

marked : {s : State} (x : Ending) (b : ℕ) → T (is_e b) → Stands s Ending.mark → Stands s (next x b)
marked {s} x b t h = subst⁻¹ (Stands s) (next_mark x b t) h

-- A digit 1 to 9 is a digit.
nonzero_digit : (b : ℕ) → T (is_nonzero b) → T (is_digit b)
nonzero_digit b t =
    le_both (code "0") b b (code "9")
    (omega (arith, leb→le (code "1") b (and_left (leb (code "1") b) (leb b (code "9")) t)))
    (nonzero_most b t)

word_stands : {x : Ending} (ks : Bytes) (v : Literal) (a : ℕ) (st : Stack) (n : ℕ) → T (lower ks) → T (bare x) → Stands (word_state ks v a st n) x
unfolding word_state
word_stands [] v a st n l h = Stands.after h
word_stands (k ∷ ks) v a st n l h = Stands.literal l h

literal_stands : (x : Ending) (k : ℕ) (ks : Bytes) (v : Literal) (a : ℕ) (st : Stack) (n b : ℕ) → T (lower (k ∷ ks)) → T (eqb b k) → Stands (word_state ks v a st n) (next x b)
unfolding lower
literal_stands x k ks v a st n b l t =
    let m : T (leb (code "a") k && leb k (code "z")) = and_left (leb (code "a") k && leb k (code "z")) (lower ks) l in
    byte x b k t (word_stands ks v a st n (and_right (leb (code "a") k && leb k (code "z")) (lower ks) l)
    (next_letter x k (leb→le (code "a") k (and_left (leb (code "a") k) (leb k (code "z")) m))))

hex_stands : {x : Ending} (l : Left) (a : ℕ) (u : Use) (us : Units) → Stands (hex_state l a u us) x
unfolding hex_state
hex_stands Left.last a u us = Stands.chars
hex_stands (Left.more l) a u us = Stands.hex

module _ {C : Ceilings} where
  after_stands : (x : Ending) (st : Stack) (v : Node) (n b : ℕ) {s : State} → Took C (after_move st v n b) s → Stands s (next x b)
  unfolding after_move next bare
  after_stands x [] v n b (Took.yes p Took.go) = space x b p (Stands.after tt)
  after_stands x (Frame.array a vs ∷ st) v n b (Took.yes p Took.go) = space x b p (Stands.after tt)
  after_stands x (Frame.array a vs ∷ st) v n b (Took.no _ (Took.yes p Took.go)) = byte x b (code "]") p (Stands.after tt)
  after_stands x (Frame.array a vs ∷ st) v n b (Took.no _ (Took.no _ (Took.yes p Took.go))) = byte x b (code ",") p Stands.value
  after_stands x (Frame.object a ms q us ∷ st) v n b (Took.yes p Took.go) = space x b p (Stands.after tt)
  after_stands x (Frame.object a ms q us ∷ st) v n b (Took.no _ (Took.yes p Took.go)) = byte x b (code "}") p (Stands.after tt)
  after_stands x (Frame.object a ms q us ∷ st) v n b (Took.no _ (Took.no _ (Took.yes p Took.go))) = byte x b (code ",") p Stands.member
  after_stands x [] v n b (Took.no _ x14) = elim x14 [ ]
  after_stands x (Frame.array a vs ∷ st) v n b (Took.no _ (Took.no _ (Took.no _ x41))) = elim x41 [ ]
  after_stands x (Frame.object a ms q us ∷ st) v n b (Took.no _ (Took.no _ (Took.no _ x42))) = elim x42 [ ]

  number_stands : (ns : Numeral) (i : ℕ) (st : Stack) (n b : ℕ) {x : Ending} {s : State} → Stands (State.number ns i st) x → Took C (number_move ns i st n b) s → Stands s (next x b)
  unfolding number_move next and_one and_sign
  number_stands Numeral.minus i st n b {x} Stands.minus (Took.yes p Took.go) = digit x b (nonzero_digit b p) (Stands.whole {n = 1} (omega arith))
  number_stands Numeral.minus i st n b {x} Stands.minus (Took.no _ (Took.yes p Took.go)) = byte x b (code "0") p Stands.zero
  number_stands (Numeral.zero neg) i st n b {x} Stands.zero (Took.yes p (Took.ask _)) = byte x b (code ".") p (Stands.point {n = 1} (omega arith))
  number_stands (Numeral.zero neg) i st n b {x} Stands.zero (Took.no _ (Took.yes p Took.go)) = marked x b p Stands.mark
  number_stands (Numeral.zero neg) i st n b {x} Stands.zero (Took.no _ (Took.no _ k)) = after_stands x st (Node.number i n (normal neg 0 1 0 false 0)) n b k
  number_stands (Numeral.whole neg c m) i st n b {x} (Stands.whole h) (Took.yes p (Took.ask _)) = digit x b p (Stands.whole (omega arith))
  number_stands (Numeral.whole neg c m) i st n b {x} (Stands.whole h) (Took.no _ (Took.yes p (Took.ask _))) = byte x b (code ".") p (Stands.point h)
  number_stands (Numeral.whole neg c m) i st n b {x} (Stands.whole h) (Took.no _ (Took.no _ (Took.yes p Took.go))) = marked x b p Stands.mark
  number_stands (Numeral.whole neg c m) i st n b {x} (Stands.whole h) (Took.no _ (Took.no _ (Took.no _ k))) = after_stands x st (Node.number i n (normal neg c m 0 false 0)) n b k
  number_stands (Numeral.point neg c m) i st n b {x} (Stands.point h) (Took.yes p Took.go) = digit x b p (Stands.fraction (omega arith))
  number_stands (Numeral.fraction neg c m f) i st n b {x} (Stands.fraction h) (Took.yes p (Took.ask _)) = digit x b p (Stands.fraction (omega arith))
  number_stands (Numeral.fraction neg c m f) i st n b {x} (Stands.fraction h) (Took.no _ (Took.yes p Took.go)) = marked x b p Stands.mark
  number_stands (Numeral.fraction neg c m f) i st n b {x} (Stands.fraction h) (Took.no _ (Took.no _ k)) = after_stands x st (Node.number i n (normal neg c m f false 0)) n b k
  number_stands (Numeral.mark neg c m f) i st n b {x} Stands.mark (Took.yes p Took.go) = digit x b p Stands.power
  number_stands (Numeral.mark neg c m f) i st n b {x} Stands.mark (Took.no _ (Took.yes p Took.go)) = byte x b (code "+") p Stands.sign
  number_stands (Numeral.mark neg c m f) i st n b {x} Stands.mark (Took.no _ (Took.no _ (Took.yes p Took.go))) = byte x b (code "-") p Stands.sign
  number_stands (Numeral.sign neg c m f d) i st n b {x} Stands.sign (Took.yes p Took.go) = digit x b p Stands.power
  number_stands (Numeral.power neg c m f d e j) i st n b {x} Stands.power (Took.yes p (Took.yes _ Took.go)) = digit x b p Stands.power
  number_stands (Numeral.power neg c m f d e j) i st n b {x} Stands.power (Took.yes p (Took.no _ (Took.ask _))) = digit x b p Stands.power
  number_stands (Numeral.power neg c m f d e j) i st n b {x} Stands.power (Took.no _ k) = after_stands x st (Node.number i n (normal neg c m f d e)) n b k
  number_stands Numeral.minus i st n b minus (Took.no _ (Took.no _ k)) = elim k [ ]
  number_stands (Numeral.point neg c m) i st n b (point h) (Took.no _ k) = elim k [ ]
  number_stands (Numeral.mark neg c m f) i st n b mark (Took.no _ (Took.no _ (Took.no _ k))) = elim k [ ]
  number_stands (Numeral.sign neg c m f d) i st n b sign (Took.no _ k) = elim k [ ]

  value_stands : (st : Stack) (n b : ℕ) {s : State} → Took C (value_move st n b) s → Stands s (next (Ending.digits 0) b)
  unfolding value_move other_move next and_one and_sign bare lower
  value_stands st n b (Took.yes p Took.go) = digit (Ending.digits 0) b (nonzero_digit b p) (Stands.whole {n = 1} (omega arith))
  value_stands st n b (Took.no _ (Took.yes p Took.go)) = byte (Ending.digits 0) b (code "-") p Stands.minus
  value_stands st n b (Took.no _ (Took.no _ (Took.yes p Took.go))) = byte (Ending.digits 0) b (code "0") p Stands.zero
  value_stands st n b (Took.no _ (Took.no _ (Took.no _ (Took.yes p Took.go)))) = space (Ending.digits 0) b p Stands.value
  value_stands st n b (Took.no _ (Took.no _ (Took.no _ (Took.no _ (Took.yes p Took.go))))) = byte (Ending.digits 0) b (code "n") p (Stands.literal tt tt)
  value_stands st n b (Took.no _ (Took.no _ (Took.no _ (Took.no _ (Took.no _ (Took.yes p Took.go)))))) = byte (Ending.digits 0) b (code "t") p (Stands.literal tt tt)
  value_stands st n b (Took.no _ (Took.no _ (Took.no _ (Took.no _ (Took.no _ (Took.no _ (Took.yes p Took.go))))))) = byte (Ending.digits 0) b (code "f") p (Stands.literal tt tt)
  value_stands st n b (Took.no _ (Took.no _ (Took.no _ (Took.no _ (Took.no _ (Took.no _ (Took.no _ (Took.yes p Took.go)))))))) = Stands.chars
  value_stands st n b (Took.no _ (Took.no _ (Took.no _ (Took.no _ (Took.no _ (Took.no _ (Took.no _ (Took.no _ (Took.yes p (Took.ask _)))))))))) = byte (Ending.digits 0) b (code "[") p Stands.array
  value_stands st n b (Took.no _ (Took.no _ (Took.no _ (Took.no _ (Took.no _ (Took.no _ (Took.no _ (Took.no _ (Took.no _ (Took.yes p (Took.ask _))))))))))) = byte (Ending.digits 0) b (code "{") p Stands.object
  value_stands st n b (Took.no _ (Took.no _ (Took.no _ (Took.no _ (Took.no _ (Took.no _ (Took.no _ (Took.no _ (Took.no _ (Took.no _ x120)))))))))) = elim x120 [ ]

  member_stands : (a : ℕ) (ms : Members) (st : Stack) (n b : ℕ) {s : State} → Took C (member_move a ms st n b) s → Stands s (next (Ending.digits 0) b)
  unfolding member_move next
  member_stands a ms st n b (Took.yes p Took.go) = space (Ending.digits 0) b p Stands.member
  member_stands a ms st n b (Took.no _ (Took.yes p Took.go)) = Stands.chars
  member_stands a ms st n b (Took.no _ (Took.no _ x24)) = elim x24 [ ]

  close_stands : (x : Ending) (u : Use) (us : Units) (n b : ℕ) {s : State} → T (eqb b (code "\"")) → Took C (close_move u us n) s → Stands s (next x b)
  unfolding close_move next bare
  close_stands x (Use.value a st) us n b p Took.go = byte x b (code "\"") p (Stands.after tt)
  close_stands x (Use.name q a ms st) us n b p (Took.ask _) = byte x b (code "\"") p Stands.named

  -- One step.
  pub step_stands : (s : State) (n b : ℕ) {x : Ending} {s' : State} → Stands s x → Took C (move s n b) s' → Stands s' (next x b)
  unfolding move next bare
  step_stands (State.number ns i st) n b h k = number_stands ns i st n b h k
  step_stands (State.value st) n b Stands.value k = value_stands st n b k
  step_stands (State.array a st) n b {x} Stands.array (Took.yes p Took.go) = space x b p Stands.array
  step_stands (State.array a st) n b {x} Stands.array (Took.no _ (Took.yes p Took.go)) = byte x b (code "]") p (Stands.after tt)
  step_stands (State.array a st) n b Stands.array (Took.no _ (Took.no _ k)) = value_stands (Frame.array a Nodes.nil ∷ st) n b k
  step_stands (State.object a st) n b {x} Stands.object (Took.yes p Took.go) = space x b p Stands.object
  step_stands (State.object a st) n b {x} Stands.object (Took.no _ (Took.yes p Took.go)) = byte x b (code "}") p (Stands.after tt)
  step_stands (State.object a st) n b Stands.object (Took.no _ (Took.no _ k)) = member_stands a Members.empty st n b k
  step_stands (State.after st v) n b {x} (Stands.after h) k = after_stands x st v n b k
  step_stands (State.literal c ks v a st) n b {x} (Stands.literal l h) (Took.yes p Took.go) = literal_stands x c ks v a st n b l p
  step_stands (State.chars u us) n b Stands.chars (Took.yes p Took.go) = Stands.chars
  step_stands (State.chars u us) n b Stands.chars (Took.no _ (Took.yes p (Took.ask _))) = Stands.chars
  step_stands (State.chars u us) n b {x} Stands.chars (Took.no _ (Took.no _ (Took.yes p k))) = close_stands x u (onto us []) n b p k
  step_stands (State.chars u us) n b Stands.chars (Took.no _ (Took.no _ (Took.no _ (Took.yes p Took.go)))) = Stands.escape
  step_stands (State.escape u us) n b Stands.escape (Took.yes p Took.go) = Stands.chars
  step_stands (State.escape u us) n b Stands.escape (Took.no _ (Took.yes p Took.go)) = Stands.hex
  step_stands (State.hex l a u us) n b Stands.hex (Took.yes p Took.go) = hex_stands l (16 * a + hex_value b) u us
  step_stands (State.member a ms st) n b Stands.member k = member_stands a ms st n b k
  step_stands (State.named q us a ms st) n b {x} Stands.named (Took.yes p Took.go) = space x b p Stands.named
  step_stands (State.named q us a ms st) n b {x} Stands.named (Took.no _ (Took.yes p Took.go)) = byte x b (code ":") p Stands.value
  step_stands (State.literal c ks v a st) n b (literal l h) (Took.no _ x21) = elim x21 [ ]
  step_stands (State.chars u us) n b chars (Took.no _ (Took.no _ (Took.no _ (Took.no _ x55)))) = elim x55 [ ]
  step_stands (State.escape u us) n b escape (Took.no _ (Took.no _ k)) = elim k [ ]
  step_stands (State.hex l a u us) n b hex (Took.no _ x23) = elim x23 [ ]
  step_stands (State.named q us a ms st) n b named (Took.no _ (Took.no _ k)) = elim k [ ]

  -- The way over some bytes.
  went_stands : {s s' : State} {n j : ℕ} {p : Bytes} {x : Ending} → Stands s x → Went C s n p s' j → Stands s' (ending_from x p)
  unfolding ending_from
  went_stands h Went.none = h
  went_stands {s} h (Went.step {n = n} {b = b} k w) = went_stands (step_stands s n b h k) w

-- The state behind `p` stands by what `p` ends in.
pub stands : {p : Bytes} {s : State} {j : ℕ} → Over p s j → Stands s (ending p)
stands w = went_stands Stands.value w
