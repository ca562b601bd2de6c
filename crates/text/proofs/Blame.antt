-- 01's consequences of the verdict: which byte stands at the place of a refusal. A depth is refused at the bracket, a
-- digit ceiling at a digit or the point, an exponent at a digit, a repeated name at a quote.
use Prim.Native.Char.{code}
use Prim.Native.Nat.{◌<◌, suc, ℕ}
use Rattle.text.proofs.Digits.{and_digit}
use Rattle.text.proofs.Machine.{Frame, Numeral, Stack, State, Use, after_move, close_move, member_move, move, names_of, number_move, onto, other_move, value_move}
use Rattle.text.proofs.Place.{Refused, refused_inside}
use Rattle.text.proofs.Run.{Fault}
use Rattle.text.proofs.Tests.{or_left, or_right}
use Rattle.text.specs.Bytes.{Bytes, Units, is_digit, is_high}
use Rattle.text.specs.Ceilings.{Ceilings, Gate, house, number_of}
use Rattle.text.specs.Decimal.{normal}
use Rattle.text.specs.Node.{Members, Node, Nodes}
use Rattle.text.specs.Verdict.{Outcome, Verdict}
use lib.Dec.{T, eqb, ltb}
use lib.ListN.{get_or, length, take}
use mathlib.Core.Bool.{Bool, ◌||◌, false, not}
use mathlib.Core.List.{[], ◌∷◌}

-- The byte `b` may be blamed with the number `k`.
pub data Blamed : ℕ → ℕ → Type 0 where
  wrong : {b : ℕ} → Blamed 4 b
  depth : {b : ℕ} → T (eqb b (code "[") || eqb b (code "{")) → Blamed 5 b
  digits : {b : ℕ} → T (is_digit b || eqb b (code ".")) → Blamed 6 b
  power : {b : ℕ} → T (is_digit b) → Blamed 7 b
  name : {b : ℕ} → T (eqb b (code "\"")) → Blamed 8 b
  high : {b : ℕ} → T (is_high b) → Blamed 9 b

-- The same with the state that refuses, where the ceilings of numbers and names speak.
pub data Refuses (C : Ceilings) : State → ℕ → ℕ → Type 0 where
  wrong : {s : State} {b : ℕ} → Refuses C s b 4
  depth : {s : State} {b : ℕ} → T (eqb b (code "[") || eqb b (code "{")) → Refuses C s b 5
  zero : {neg : Bool} {p : ℕ} {st : Stack} {b : ℕ} → T (eqb b (code ".")) → T (not (C (Gate.digits 2))) → Refuses C (State.number (Numeral.zero neg) p st) b 6
  whole : {neg : Bool} {c n p : ℕ} {st : Stack} {b : ℕ}
      → T (is_digit b || eqb b (code ".")) → T (not (C (Gate.digits (suc n)))) → Refuses C (State.number (Numeral.whole neg c n) p st) b 6
  fraction : {neg : Bool} {c n f p : ℕ} {st : Stack} {b : ℕ} → T (is_digit b) → Refuses C (State.number (Numeral.fraction neg c n f) p st) b 6
  power : {neg : Bool} {c n f : ℕ} {s : Bool} {e k p : ℕ} {st : Stack} {b : ℕ}
      → T (is_digit b) → T (not (ltb k 2)) → T (not (C (Gate.power c n f s (and_digit e b) (suc k)))) → Refuses C (State.number (Numeral.power neg c n f s e k) p st) b 7
  name : {q a b : ℕ} {l : Units} {ms : Members} {st : Stack} → T (eqb b (code "\"")) → T (not (C (Gate.name (onto l []) (names_of ms)))) → Refuses C (State.chars (Use.name q a ms st) l) b 8
  high : {s : State} {b : ℕ} → T (is_high b) → Refuses C s b 9

module _ {C : Ceilings} where
  after_refuses : {s : State} (st : Stack) (v : Node) (n b : ℕ) {k : ℕ} → Fault C (after_move st v n b) k → Refuses C s b k
  unfolding after_move
  after_refuses [] v n b (Fault.no _ Fault.bad) = Refuses.wrong
  after_refuses (Frame.array a vs ∷ st) v n b (Fault.no _ (Fault.no _ (Fault.no _ Fault.bad))) = Refuses.wrong
  after_refuses (Frame.object a ms q us ∷ st) v n b (Fault.no _ (Fault.no _ (Fault.no _ Fault.bad))) = Refuses.wrong
  after_refuses [] v n b (Fault.yes _ x13) = elim x13 [ ]
  after_refuses (Frame.array a vs ∷ st) v n b (Fault.yes _ x16) = elim x16 [ ]
  after_refuses (Frame.array a vs ∷ st) v n b (Fault.no _ (Fault.yes _ x29)) = elim x29 [ ]
  after_refuses (Frame.array a vs ∷ st) v n b (Fault.no _ (Fault.no _ (Fault.yes _ x42))) = elim x42 [ ]
  after_refuses (Frame.object a ms q us ∷ st) v n b (Fault.yes _ x17) = elim x17 [ ]
  after_refuses (Frame.object a ms q us ∷ st) v n b (Fault.no _ (Fault.yes _ x30)) = elim x30 [ ]
  after_refuses (Frame.object a ms q us ∷ st) v n b (Fault.no _ (Fault.no _ (Fault.yes _ x43))) = elim x43 [ ]

  value_refuses : {s : State} (st : Stack) (n b : ℕ) {k : ℕ} → Fault C (value_move st n b) k → Refuses C s b k
  unfolding value_move other_move number_of
  value_refuses st n b (Fault.no _ (Fault.no _ (Fault.no _ (Fault.no _ (Fault.no _ (Fault.no _ (Fault.no _ (Fault.no _ (Fault.yes p (Fault.ask _)))))))))) =
      Refuses.depth (or_left (eqb b (code "[")) (eqb b (code "{")) p)
  value_refuses st n b (Fault.no _ (Fault.no _ (Fault.no _ (Fault.no _ (Fault.no _ (Fault.no _ (Fault.no _ (Fault.no _ (Fault.no _ (Fault.yes p (Fault.ask _))))))))))) =
      Refuses.depth (or_right (eqb b (code "[")) (eqb b (code "{")) p)
  value_refuses st n b (Fault.no _ (Fault.no _ (Fault.no _ (Fault.no _ (Fault.no _ (Fault.no _ (Fault.no _ (Fault.no _ (Fault.no _ (Fault.no _ Fault.bad)))))))))) = Refuses.wrong
  value_refuses st n b (Fault.yes _ x12) = elim x12 [ ]
  value_refuses st n b (Fault.no _ (Fault.yes _ x25)) = elim x25 [ ]
  value_refuses st n b (Fault.no _ (Fault.no _ (Fault.yes _ x38))) = elim x38 [ ]
  value_refuses st n b (Fault.no _ (Fault.no _ (Fault.no _ (Fault.yes _ x51)))) = elim x51 [ ]
  value_refuses st n b (Fault.no _ (Fault.no _ (Fault.no _ (Fault.no _ (Fault.yes _ x64))))) = elim x64 [ ]
  value_refuses st n b (Fault.no _ (Fault.no _ (Fault.no _ (Fault.no _ (Fault.no _ (Fault.yes _ x77)))))) = elim x77 [ ]
  value_refuses st n b (Fault.no _ (Fault.no _ (Fault.no _ (Fault.no _ (Fault.no _ (Fault.no _ (Fault.yes _ x90))))))) = elim x90 [ ]
  value_refuses st n b (Fault.no _ (Fault.no _ (Fault.no _ (Fault.no _ (Fault.no _ (Fault.no _ (Fault.no _ (Fault.yes _ x103)))))))) = elim x103 [ ]

  number_refuses : (ns : Numeral) (p : ℕ) (st : Stack) (n b : ℕ) {k : ℕ} → Fault C (number_move ns p st n b) k → Refuses C (State.number ns p st) b k
  unfolding number_move number_of
  number_refuses Numeral.minus p st n b (Fault.no _ (Fault.no _ Fault.bad)) = Refuses.wrong
  number_refuses (Numeral.zero neg) p st n b (Fault.yes t (Fault.ask g)) = Refuses.zero t g
  number_refuses (Numeral.zero neg) p st n b (Fault.no _ (Fault.no _ f)) = after_refuses st (Node.number p n (normal neg 0 1 0 false 0)) n b f
  number_refuses (Numeral.whole neg c m) p st n b (Fault.yes t (Fault.ask g)) = Refuses.whole (or_left (is_digit b) (eqb b (code ".")) t) g
  number_refuses (Numeral.whole neg c m) p st n b (Fault.no _ (Fault.yes t (Fault.ask g))) = Refuses.whole (or_right (is_digit b) (eqb b (code ".")) t) g
  number_refuses (Numeral.whole neg c m) p st n b (Fault.no _ (Fault.no _ (Fault.no _ f))) = after_refuses st (Node.number p n (normal neg c m 0 false 0)) n b f
  number_refuses (Numeral.point neg c m) p st n b (Fault.no _ Fault.bad) = Refuses.wrong
  number_refuses (Numeral.fraction neg c m f) p st n b (Fault.yes t (Fault.ask _)) = Refuses.fraction t
  number_refuses (Numeral.fraction neg c m f) p st n b (Fault.no _ (Fault.no _ x)) = after_refuses st (Node.number p n (normal neg c m f false 0)) n b x
  number_refuses (Numeral.mark neg c m f) p st n b (Fault.no _ (Fault.no _ (Fault.no _ Fault.bad))) = Refuses.wrong
  number_refuses (Numeral.sign neg c m f s) p st n b (Fault.no _ Fault.bad) = Refuses.wrong
  number_refuses (Numeral.power neg c m f s e j) p st n b (Fault.yes t (Fault.no q (Fault.ask g))) = Refuses.power t q g
  number_refuses (Numeral.power neg c m f s e j) p st n b (Fault.no _ x) = after_refuses st (Node.number p n (normal neg c m f s e)) n b x
  number_refuses Numeral.minus p st n b (Fault.yes t x12) = elim x12 [ ]
  number_refuses Numeral.minus p st n b (Fault.no _ (Fault.yes t x25)) = elim x25 [ ]
  number_refuses (Numeral.zero neg) p st n b (Fault.no _ (Fault.yes t x25)) = elim x25 [ ]
  number_refuses (Numeral.whole neg c m) p st n b (Fault.no _ (Fault.no _ (Fault.yes _ x39))) = elim x39 [ ]
  number_refuses (Numeral.point neg c m) p st n b (Fault.yes t x15) = elim x15 [ ]
  number_refuses (Numeral.fraction neg c m f) p st n b (Fault.no _ (Fault.yes t x28)) = elim x28 [ ]
  number_refuses (Numeral.mark neg c m f) p st n b (Fault.yes t x17) = elim x17 [ ]
  number_refuses (Numeral.mark neg c m f) p st n b (Fault.no _ (Fault.yes t x30)) = elim x30 [ ]
  number_refuses (Numeral.mark neg c m f) p st n b (Fault.no _ (Fault.no _ (Fault.yes _ x44))) = elim x44 [ ]
  number_refuses (Numeral.sign neg c m f s) p st n b (Fault.yes t x18) = elim x18 [ ]
  number_refuses (Numeral.power neg c m f s e j) p st n b (Fault.yes t (Fault.yes _ x27)) = elim x27 [ ]

  close_refuses : (u : Use) (l : Units) (n : ℕ) {b k : ℕ} → T (eqb b (code "\"")) → Fault C (close_move u (onto l []) n) k → Refuses C (State.chars u l) b k
  unfolding close_move number_of
  close_refuses (Use.name q a ms st) l n t (Fault.ask g) = Refuses.name t g
  close_refuses (Use.value _ _) l n t x4 = elim x4 [ ]

  member_refuses : {s : State} (a : ℕ) (ms : Members) (st : Stack) (n b : ℕ) {k : ℕ} → Fault C (member_move a ms st n b) k → Refuses C s b k
  unfolding member_move
  member_refuses a ms st n b (Fault.no _ (Fault.no _ Fault.bad)) = Refuses.wrong
  member_refuses a ms st n b (Fault.yes _ x12) = elim x12 [ ]
  member_refuses a ms st n b (Fault.no _ (Fault.yes _ x25)) = elim x25 [ ]

  pub move_refuses : (s : State) (n b : ℕ) {k : ℕ} → Fault C (move s n b) k → Refuses C s b k
  unfolding move number_of
  move_refuses (State.number ns p st) n b f = number_refuses ns p st n b f
  move_refuses (State.value st) n b f = value_refuses st n b f
  move_refuses (State.array a st) n b (Fault.no _ (Fault.no _ f)) = value_refuses (Frame.array a Nodes.nil ∷ st) n b f
  move_refuses (State.object a st) n b (Fault.no _ (Fault.no _ f)) = member_refuses a Members.empty st n b f
  move_refuses (State.after st v) n b f = after_refuses st v n b f
  move_refuses (State.literal k ks v a st) n b (Fault.no _ Fault.bad) = Refuses.wrong
  move_refuses (State.chars u us) n b (Fault.no _ (Fault.yes p (Fault.ask _))) = Refuses.high p
  move_refuses (State.chars u us) n b (Fault.no _ (Fault.no _ (Fault.yes p f))) = close_refuses u us n p f
  move_refuses (State.chars u us) n b (Fault.no _ (Fault.no _ (Fault.no _ (Fault.no _ Fault.bad)))) = Refuses.wrong
  move_refuses (State.escape u us) n b (Fault.no _ (Fault.no _ Fault.bad)) = Refuses.wrong
  move_refuses (State.hex l a u us) n b (Fault.no _ Fault.bad) = Refuses.wrong
  move_refuses (State.member a ms st) n b f = member_refuses a ms st n b f
  move_refuses (State.named q us a ms st) n b (Fault.no _ (Fault.no _ Fault.bad)) = Refuses.wrong
  move_refuses (Rattle.text.proofs.Machine.array a st) n b (Fault.yes _ x12) = elim x12 [ ]
  move_refuses (Rattle.text.proofs.Machine.array a st) n b (Fault.no _ (Fault.yes p x24)) = elim x24 [ ]
  move_refuses (Rattle.text.proofs.Machine.object a st) n b (Fault.yes _ x13) = elim x13 [ ]
  move_refuses (Rattle.text.proofs.Machine.object a st) n b (Fault.no _ (Fault.yes p x25)) = elim x25 [ ]
  move_refuses (State.literal k ks v a st) n b (Fault.yes _ x14) = elim x14 [ ]
  move_refuses (State.chars u us) n b (Fault.yes _ x15) = elim x15 [ ]
  move_refuses (State.chars u us) n b (Fault.no _ (Fault.no _ (Fault.no _ (Fault.yes _ x52)))) = elim x52 [ ]
  move_refuses (State.escape u us) n b (Fault.yes _ x16) = elim x16 [ ]
  move_refuses (State.escape u us) n b (Fault.no _ (Fault.yes p x28)) = elim x28 [ ]
  move_refuses (State.hex l a u us) n b (Fault.yes _ x17) = elim x17 [ ]
  move_refuses (State.named q us a ms st) n b (Fault.yes _ x18) = elim x18 [ ]
  move_refuses (State.named q us a ms st) n b (Fault.no _ (Fault.yes p x30)) = elim x30 [ ]

-- The state left out, the byte may be blamed.
blamed : {C : Ceilings} {s : State} {b k : ℕ} → Refuses C s b k → Blamed k b
blamed Refuses.wrong = Blamed.wrong
blamed (Refuses.depth t) = Blamed.depth t
blamed {b = b} (Refuses.zero t g) = Blamed.digits (or_right (is_digit b) (eqb b (code ".")) t)
blamed (Refuses.whole t g) = Blamed.digits t
blamed {b = b} (Refuses.fraction t) = Blamed.digits (or_left (is_digit b) (eqb b (code ".")) t)
blamed (Refuses.power t q g) = Blamed.power t
blamed (Refuses.name t g) = Blamed.name t
blamed (Refuses.high t) = Blamed.high t

pub refused_byte : {t : Bytes} {n P : ℕ} → Verdict house t (Outcome.refused n P) → P < length t → Blamed n (get_or t P 0)
refused_byte {t} {n} {P} v l = by (refused_inside v l)
  where
    by : {b : ℕ} → Refused (take P t) b n → Blamed n b
    by {b} (Refused.refused {s = s} {j = j} w f) = blamed (move_refuses s j b f)
