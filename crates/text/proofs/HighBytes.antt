-- 01's consequence for bytes of 80 or more: each is refused, as 9 where a string's character is due and as 4 elsewhere,
-- so outside strings and inside escapes.
use Prim.Native.Char.{code}
use Prim.Native.Nat.{◌≤◌, ℕ}
use Rattle.text.proofs.Endings.{Ending}
use Rattle.text.proofs.Limits.{house_limits}
use Rattle.text.proofs.Machine.{Frame, Move, Numeral, Stack, State, Use, after_move, member_move, move, number_move, other_move, value_move}
use Rattle.text.proofs.Place.{Over, Passed, Refused, goes_on, over, passes, refusal, refused_by, stuck}
use Rattle.text.proofs.Run.{Fault, Took, fault_one, took_fault}
use Rattle.text.proofs.Standing.{Stands, lower, stands}
use Rattle.text.proofs.Step.{high≢plain}
use Rattle.text.proofs.Tests.{and_left, and_right, below, both, each, high_least}
use Rattle.text.proofs.Way.{viable}
use Rattle.text.specs.Bytes.{Bytes, Units, is_digit, is_e, is_high}
use Rattle.text.specs.Ceilings.{house, number_of}
use Rattle.text.specs.Decimal.{normal}
use Rattle.text.specs.Node.{Literal, Node}
use Rattle.text.specs.Verdict.{Outcome, Verdict, Viable}
use lib.Dec.{T, T_not, eqb, eqb→eq, leb, leb→le, le→leb, not_T}
use lib.ListN.{length}
use mathlib.Core.Bool.{Bool, ◌&&◌, cond, false, not, true}
use mathlib.Core.List.{[], ◌++◌, ◌∷◌}
use mathlib.Core.Logic.{◌↔◌}
use native.Mathlib.Omega.{arith}

-- `~` may follow. It stands nowhere but as a string's character, so behind `p` such a character is due.
abbrev pub InString : Bytes → Type 0
InString p = Viable house (p ++ (code "~" ∷ []))

-- Some way through a move is open.
unfoldable pub opens : Move → Bool
opens Move.bad = false
opens (Move.go s) = true
opens (Move.ask g s) = true
opens (Move.when c x y) = cond c (opens x) (opens y)

-- A move that is shut refuses its byte as wrong.
pub shut : (m : Move) → T (not (opens m)) → Fault house m 4
unfolding opens
shut Move.bad t = Fault.bad
shut (Move.go s) t = absurd t
shut (Move.ask g s) t = absurd t
shut (Move.when true x y) t = Fault.yes tt (shut x t)
shut (Move.when false x y) t = Fault.no tt (shut y t)

-- Outside a string's characters no byte from `~` on has a meaning: a test that each byte up to FF fails, by computation,
-- and a move that none of them opens.
abbrev Beyond : (ℕ → Type 0) → Type 0
Beyond P = (b : ℕ) → code "~" ≤ b → b ≤ 0xff → P b

abbrev none : (ℕ → Bool) → Bool
none P = each (λ b. not (leb (code "~") b && P b)) 0x100

beyond : (P : ℕ → Bool) → T (none P) → Beyond (λ b. T (not (P b)))
beyond P t b l h =
    not_T (P b) λ p. T_not (leb (code "~") b && P b) (below (λ b. not (leb (code "~") b && P b)) 0x100 t b (omega arith)) (both (leb (code "~") b) (P b) (le→leb (code "~") b l) p)

closed : (m : ℕ → Move) → T (none (λ b. opens (m b))) → Beyond (λ b. Fault house (m b) 4)
closed m t b l h = shut (m b) (beyond (λ b. opens (m b)) t b l h)

-- So are the moves behind a value, inside a number and inside a literal.
after_closed : (st : Stack) (v : Node) (n : ℕ) → Beyond (λ b. Fault house (after_move st v n b) 4)
unfolding after_move opens each
after_closed [] v n = closed (after_move [] v n) tt
after_closed (Frame.array a vs ∷ st) v n = closed (after_move (Frame.array a vs ∷ st) v n) tt
after_closed (Frame.object a ms q us ∷ st) v n = closed (after_move (Frame.object a ms q us ∷ st) v n) tt

module _ (b : ℕ) (l : code "~" ≤ b) (h : b ≤ 0xff) where
  -- A test that fails leaves the move behind it.
  past : {x y : Move} (P : ℕ → Bool) → T (none P) → Fault house y 4 → Fault house (Move.when (P b) x y) 4
  past P t f = Fault.no (beyond P t b l h) f

  number_closed : (ns : Numeral) (i : ℕ) (st : Stack) (n : ℕ) → Fault house (number_move ns i st n b) 4
  unfolding number_move opens each
  number_closed Numeral.minus i st n = closed (number_move Numeral.minus i st n) tt b l h
  number_closed (Numeral.zero neg) i st n = past (λ b. eqb b (code ".")) tt (past is_e tt (after_closed st (Node.number i n (normal neg 0 1 0 false 0)) n b l h))
  number_closed (Numeral.whole neg c m) i st n = past is_digit tt (past (λ b. eqb b (code ".")) tt (past is_e tt (after_closed st (Node.number i n (normal neg c m 0 false 0)) n b l h)))
  number_closed (Numeral.point neg c m) i st n = closed (number_move (Numeral.point neg c m) i st n) tt b l h
  number_closed (Numeral.fraction neg c m f) i st n = past is_digit tt (past is_e tt (after_closed st (Node.number i n (normal neg c m f false 0)) n b l h))
  number_closed (Numeral.mark neg c m f) i st n = closed (number_move (Numeral.mark neg c m f) i st n) tt b l h
  number_closed (Numeral.sign neg c m f s) i st n = closed (number_move (Numeral.sign neg c m f s) i st n) tt b l h
  number_closed (Numeral.power neg c m f s e k) i st n = past is_digit tt (after_closed st (Node.number i n (normal neg c m f s e)) n b l h)

literal_closed : (k : ℕ) (ks : Bytes) (v : Literal) (a : ℕ) (st : Stack) (n : ℕ) → T (lower (k ∷ ks)) → Beyond (λ b. Fault house (move (State.literal k ks v a st) n b) 4)
unfolding move lower
literal_closed k ks v a st n t b l h =
    let m : k ≤ code "z" = leb→le k (code "z") (and_right (leb (code "a") k) (leb k (code "z")) (and_left (leb (code "a") k && leb k (code "z")) (lower ks) t)) in
    Fault.no (not_T (eqb b k) λ e. omega (arith, eqb→eq b k e)) Fault.bad

-- A string's character is due, or these bytes are all wrong.
data Due : State → ℕ → Type 0 where
  character : {u : Use} {us : Units} {n : ℕ} → Due (State.chars u us) n
  other : {s : State} {n : ℕ} → Beyond (λ b. Fault house (move s n b) 4) → Due s n

due : (s : State) (n : ℕ) {x : Ending} → Stands s x → Due s n
unfolding move value_move other_move member_move opens each
due (State.number ns i st) n h = Due.other (λ b l h. number_closed b l h ns i st n)
due (State.value st) n h = Due.other (closed (move (State.value st) n) tt)
due (State.array a st) n h = Due.other (closed (move (State.array a st) n) tt)
due (State.object a st) n h = Due.other (closed (move (State.object a st) n) tt)
due (State.after st v) n h = Due.other (after_closed st v n)
due (State.literal k ks v a st) n (Stands.literal l _) = Due.other (literal_closed k ks v a st n l)
due (State.chars u us) n h = Due.character
due (State.escape u us) n h = Due.other (closed (move (State.escape u us) n) tt)
due (State.hex l a u us) n h = Due.other (closed (move (State.hex l a u us) n) tt)
due (State.member a ms st) n h = Due.other (closed (move (State.member a ms st) n) tt)
due (State.named q us a ms st) n h = Due.other (closed (move (State.named q us a ms st) n) tt)

-- What becomes of a byte of 80 or more, and of `~` in its place.
data High (s : State) (n b : ℕ) : Type 0 where
  nine : (s' : State) → Fault house (move s n b) 9 → Took house (move s n (code "~")) s' → High s n b
  four : Fault house (move s n b) 4 → Fault house (move s n (code "~")) 4 → High s n b

high : (s : State) (n b : ℕ) → T (is_high b) → Due s n → High s n b
unfolding move house number_of
high (State.chars u us) n b t Due.character =
    High.nine (State.chars u (code "~" ∷ us)) (Fault.no (high≢plain b t) (Fault.yes t (Fault.ask tt))) (Took.yes tt Took.go)
high s n b t (Due.other f) = High.four (f b (omega (arith, high_least b t)) (leb→le b 0xff (and_right (leb 0x80 b) (leb b 0xff) t))) (f (code "~") (omega arith) (omega arith))

module _ (p r : Bytes) (b : ℕ) (t : T (is_high b)) where
  over_high : {s : State} {j : ℕ} → Over p s j → High s j b
  over_high {s} {j} w = high s j b t (due s j (stands w))

  -- A byte of 80 or more is refused as 9 exactly where a string's character is due, ...
  pub high_9 : Verdict house (p ++ (b ∷ r)) (Outcome.refused 9 (length p)) ↔ InString p
  high_9 = (λ v. there (refused_by p b r v), λ v. back (passes p (code "~") v))
    where
      string : {s : State} {j : ℕ} → Over p s j → Fault house (move s j b) 9 → High s j b → InString p
      string w f (High.nine s g k) = goes_on (code "~") w k
      string w f (High.four g k) = absurd (omega (arith, fault_one f g))

      there : Refused p b 9 → InString p
      there (Refused.refused w f) = string w f (over_high w)

      refused : {s s' : State} {j : ℕ} → Over p s j → Took house (move s j (code "~")) s' → High s j b → Verdict house (p ++ (b ∷ r)) (Outcome.refused 9 (length p))
      refused w k (High.nine s f _) = refusal b r w f
      refused w k (High.four f g) = absurd (took_fault k g)

      back : Passed p (code "~") → Verdict house (p ++ (b ∷ r)) (Outcome.refused 9 (length p))
      back (Passed.passed w k) = refused w k (over_high w)

  -- ... and as 4 exactly where the bytes before it may stand and no such character is due.
  pub high_4 : Verdict house (p ++ (b ∷ r)) (Outcome.refused 4 (length p)) ↔ (Viable house p × ¬ (InString p))
  high_4 = (λ v. there (refused_by p b r v), λ (v, n). let (s, j, w) = over p v in refused w n (over_high w))
    where
      outside : {s : State} {j : ℕ} → Over p s j → Fault house (move s j b) 4 → High s j b → ¬ (InString p)
      outside w f (High.nine s g k) = absurd (omega (arith, fault_one f g))
      outside w f (High.four g k) = stuck (code "~") w k

      there : Refused p b 4 → Viable house p × ¬ (InString p)
      there (Refused.refused w f) = (viable house house_limits w, outside w f (over_high w))

      refused : {s : State} {j : ℕ} → Over p s j → ¬ (InString p) → High s j b → Verdict house (p ++ (b ∷ r)) (Outcome.refused 4 (length p))
      refused w n (High.nine s f k) = absurd (n (goes_on (code "~") w k))
      refused w n (High.four f g) = refusal b r w f
