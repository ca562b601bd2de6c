-- A machine that reads a text byte by byte: what each byte does to what is open. It is a tool of the proofs; what is
-- promised is said by the grammar, and Demand3 shows that the two agree.
use Prim.Native.Char.{code}
use Prim.Native.Nat.{◌*◌, ◌+◌, suc, ℕ}
use Rattle.text.proofs.Digits.{and_digit}
use Rattle.text.specs.Bytes.{Bytes, Units, ascii, escape_unit, hex_value, is_digit, is_e, is_escape, is_hex, is_high, is_nonzero, is_plain, is_space}
use Rattle.text.specs.Ceilings.{Gate}
use Rattle.text.specs.Decimal.{normal}
use Rattle.text.specs.Node.{Literal, Members, Node, Nodes}
use lib.Dec.{eqb, ltb}
use mathlib.Core.Bool.{Bool, false, true}
use mathlib.Core.List.{List, [], ◌∷◌}

-- The names of members, and lists turned onto others: what stands in an open container is kept last first.
unfoldable pub names_of : Members → List Units
names_of Members.empty = []
names_of (Members.member q us v ms) = us ∷ names_of ms

unfoldable pub onto : Units → Units → Units
onto [] l = l
onto (x ∷ xs) l = onto xs (x ∷ l)

unfoldable pub onto_nodes : Nodes → Nodes → Nodes
onto_nodes Nodes.nil l = l
onto_nodes (Nodes.cons x xs) l = onto_nodes xs (Nodes.cons x l)

unfoldable pub onto_members : Members → Members → Members
onto_members Members.empty l = l
onto_members (Members.member q us v xs) l = onto_members xs (Members.member q us v l)

-- An open container with what stands in it, last first; of an object also the name whose value is being read.
pub data Frame : Type 0 where
  array : ℕ → Nodes → Frame
  object : ℕ → Members → ℕ → Units → Frame

abbrev pub Stack : Type 0
Stack = List Frame

-- What a string is for: a value, or the name of a member.
pub data Use : Type 0 where
  value : ℕ → Stack → Use
  name : ℕ → ℕ → Members → Stack → Use

-- What has been read of a number: `n` digits come to `c`, `f` of them behind the point, and `k` exponent digits to `e`.
pub data Numeral : Type 0 where
  minus : Numeral
  zero : Bool → Numeral
  whole point : (neg : Bool) (c n : ℕ) → Numeral
  fraction mark : (neg : Bool) (c n f : ℕ) → Numeral
  sign : (neg : Bool) (c n f : ℕ) (s : Bool) → Numeral
  power : (neg : Bool) (c n f : ℕ) (s : Bool) (e k : ℕ) → Numeral

-- The hexadecimal digits that a `\u` still wants.
pub data Left : Type 0 where
  last : Left
  more : Left → Left

pub data State : Type 0 where
  number : Numeral → ℕ → Stack → State
  value : Stack → State
  array object : ℕ → Stack → State
  after : Stack → Node → State
  literal : ℕ → Bytes → Literal → ℕ → Stack → State
  chars escape : Use → Units → State
  hex : Left → ℕ → Use → Units → State
  member : ℕ → Members → Stack → State
  named : ℕ → Units → ℕ → Members → Stack → State

-- A move as a decision tree. Each way through it asks at one gate at most, so a byte is claimed by one ceiling only.
pub data Move : Type 0 where
  bad : Move
  go : State → Move
  ask : Gate → State → Move
  when : Bool → Move → Move → Move

unfoldable pub depth_of : Stack → ℕ
depth_of [] = 0
depth_of (f ∷ st) = suc (depth_of st)

-- From here on `n` is the offset of the byte `b` that is read.
unfoldable pub word_state : Bytes → Literal → ℕ → Stack → ℕ → State
word_state [] v a st n = State.after st (Node.literal a (suc n) v)
word_state (k ∷ ks) v a st n = State.literal k ks v a st

unfoldable pub close_move : Use → Units → ℕ → Move
close_move (Use.value a st) us n = go (State.after st (Node.string a (suc n) us))
close_move (Use.name q a ms st) us n = ask (Gate.name us (names_of ms)) (State.named q us a ms st)

unfoldable pub other_move : Stack → ℕ → ℕ → Move
other_move st n b =
    when (is_space b) (go (State.value st))
    (when (eqb b (code "n")) (go (State.literal (code "u") (ascii "ll") Literal.null n st))
    (when (eqb b (code "t")) (go (State.literal (code "r") (ascii "ue") Literal.true n st))
    (when (eqb b (code "f")) (go (State.literal (code "a") (ascii "lse") Literal.false n st))
    (when (eqb b (code "\"")) (go (State.chars (Use.value n st) []))
    (when (eqb b (code "[")) (ask (Gate.depth (depth_of st)) (State.array n st))
    (when (eqb b (code "{")) (ask (Gate.depth (depth_of st)) (State.object n st)) bad))))))

unfoldable pub value_move : Stack → ℕ → ℕ → Move
unfolding other_move
value_move st n b =
    when (is_nonzero b) (go (State.number (Numeral.whole false (and_digit 0 b) 1) n st))
    (when (eqb b (code "-")) (go (State.number Numeral.minus n st)) (when (eqb b (code "0")) (go (State.number (Numeral.zero false) n st)) (other_move st n b)))

-- Behind a value.
unfoldable pub after_move : Stack → Node → ℕ → ℕ → Move
after_move [] v n b = when (is_space b) (go (State.after [] v)) bad
after_move (Frame.array a vs ∷ st) v n b =
    when (is_space b) (go (State.after (Frame.array a vs ∷ st) v))
    (when (eqb b (code "]")) (go (State.after st (Node.array a (suc n) (onto_nodes vs (Nodes.cons v Nodes.nil))))) (when (eqb b (code ",")) (go (State.value (Frame.array a (Nodes.cons v vs) ∷ st))) bad))
after_move (Frame.object a ms q us ∷ st) v n b =
    when (is_space b) (go (State.after (Frame.object a ms q us ∷ st) v))
    (when (eqb b (code "}")) (go (State.after st (Node.object a (suc n) (onto_members ms (Members.member q us v Members.empty))))) (when (eqb b (code ",")) (go (State.member a (Members.member q us v ms) st)) bad))

unfoldable pub number_move : Numeral → ℕ → Stack → ℕ → ℕ → Move
number_move Numeral.minus p st i b = when (is_nonzero b) (go (State.number (Numeral.whole true (and_digit 0 b) 1) p st)) (when (eqb b (code "0")) (go (State.number (Numeral.zero true) p st)) bad)
number_move (Numeral.zero neg) p st i b =
    when (eqb b (code ".")) (ask (Gate.digits 2) (State.number (Numeral.point neg 0 1) p st))
    (when (is_e b) (go (State.number (Numeral.mark neg 0 1 0) p st)) (after_move st (Node.number p i (normal neg 0 1 0 false 0)) i b))
number_move (Numeral.whole neg c n) p st i b =
    when (is_digit b) (ask (Gate.digits (suc n)) (State.number (Numeral.whole neg (and_digit c b) (suc n)) p st))
    (when (eqb b (code ".")) (ask (Gate.digits (suc n)) (State.number (Numeral.point neg c n) p st))
    (when (is_e b) (go (State.number (Numeral.mark neg c n 0) p st)) (after_move st (Node.number p i (normal neg c n 0 false 0)) i b)))
number_move (Numeral.point neg c n) p st i b = when (is_digit b) (go (State.number (Numeral.fraction neg (and_digit c b) (suc n) 1) p st)) bad
number_move (Numeral.fraction neg c n f) p st i b =
    when (is_digit b) (ask (Gate.digits (suc n)) (State.number (Numeral.fraction neg (and_digit c b) (suc n) (suc f)) p st))
    (when (is_e b) (go (State.number (Numeral.mark neg c n f) p st)) (after_move st (Node.number p i (normal neg c n f false 0)) i b))
number_move (Numeral.mark neg c n f) p st i b =
    when (is_digit b) (go (State.number (Numeral.power neg c n f false (and_digit 0 b) 1) p st))
    (when (eqb b (code "+")) (go (State.number (Numeral.sign neg c n f false) p st)) (when (eqb b (code "-")) (go (State.number (Numeral.sign neg c n f true) p st)) bad))
number_move (Numeral.sign neg c n f s) p st i b = when (is_digit b) (go (State.number (Numeral.power neg c n f s (and_digit 0 b) 1) p st)) bad
number_move (Numeral.power neg c n f s e k) p st i b =
    when (is_digit b)
    (when (ltb k 2) (go (State.number (Numeral.power neg c n f s (and_digit e b) (suc k)) p st))
    (ask (Gate.power c n f s (and_digit e b) (suc k)) (State.number (Numeral.power neg c n f s (and_digit e b) (suc k)) p st)))
    (after_move st (Node.number p i (normal neg c n f s e)) i b)

unfoldable pub member_move : ℕ → Members → Stack → ℕ → ℕ → Move
member_move a ms st n b = when (is_space b) (go (State.member a ms st)) (when (eqb b (code "\"")) (go (State.chars (Use.name n a ms st) [])) bad)

unfoldable pub hex_state : Left → ℕ → Use → Units → State
hex_state Left.last a u us = State.chars u (a ∷ us)
hex_state (Left.more l) a u us = State.hex l a u us

unfoldable pub move : State → ℕ → ℕ → Move
move (State.value st) n b = value_move st n b
move (State.array a st) n b = when (is_space b) (go (State.array a st)) (when (eqb b (code "]")) (go (State.after st (Node.array a (suc n) Nodes.nil))) (value_move (Frame.array a Nodes.nil ∷ st) n b))
move (State.object a st) n b = when (is_space b) (go (State.object a st)) (when (eqb b (code "}")) (go (State.after st (Node.object a (suc n) Members.empty))) (member_move a Members.empty st n b))
move (State.number ns p st) n b = number_move ns p st n b
move (State.after st v) n b = after_move st v n b
move (State.literal k ks v a st) n b = when (eqb b k) (go (word_state ks v a st n)) bad
move (State.chars u us) n b =
    when (is_plain b) (go (State.chars u (b ∷ us)))
    (when (is_high b) (ask (Gate.high b) (State.chars u (b ∷ us)))
    (when (eqb b (code "\"")) (close_move u (onto us []) n) (when (eqb b (code "\\")) (go (State.escape u us)) bad)))
move (State.escape u us) n b = when (is_escape b) (go (State.chars u (escape_unit b ∷ us))) (when (eqb b (code "u")) (go (State.hex (Left.more (Left.more (Left.more Left.last))) 0 u us)) bad)
move (State.hex l a u us) n b = when (is_hex b) (go (hex_state l (16 * a + hex_value b) u us)) bad
move (State.member a ms st) n b = member_move a ms st n b
move (State.named q us a ms st) n b = when (is_space b) (go (State.named q us a ms st)) (when (eqb b (code ":")) (go (State.value (Frame.object a ms q us ∷ st))) bad)
