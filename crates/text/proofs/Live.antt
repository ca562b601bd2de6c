-- Every state that is met can be completed to a text.
use Prim.Native.Char.{code}
use Prim.Native.Nat.{◌*◌, ◌+◌, suc, ℕ}
use Rattle.text.proofs.Digits.{and_digit, count_from}
use Rattle.text.proofs.Fitting.{Fits, Fitting, is_number}
use Rattle.text.proofs.Fresh.{letters}
use Rattle.text.proofs.Limits.{Roomy, some}
use Rattle.text.proofs.Machine.{Frame, Left, Numeral, Stack, State, Use, hex_state, member_move, move, names_of, onto, onto_members, onto_nodes}
use Rattle.text.proofs.Residual.{After, AfterFraction, AfterName, AfterWhole, Closed, Follows, NumeralRest}
use Rattle.text.proofs.Run.{Took, follows_before}
use Rattle.text.specs.Bytes.{Bytes, Units, ascii, from, hex_value, value_from}
use Rattle.text.specs.Ceilings.{Ceilings}
use Rattle.text.specs.Decimal.{normal}
use Rattle.text.specs.Grammar.{End, Value}
use Rattle.text.specs.Node.{Literal, Members, Node, Nodes}
use Rattle.text.specs.Numbers.{Digits, Fraction, Power, Sign, Whole}
use Rattle.text.specs.Strings.{Chars, Word}
use mathlib.Core.Bool.{false, true}
use mathlib.Core.List.{List, [], ◌++◌, ◌∷◌}
use native.Mathlib.Omega.{arith}
use Rattle.text.specs.Grammar as rule

-- The shortest way out of what is open.
unfoldable pub closers : Stack → Bytes
closers [] = []
closers (Frame.array a vs ∷ st) = code "]" ∷ closers st
closers (Frame.object a ms q us ∷ st) = code "}" ∷ closers st

-- Letters and the quote that closes the string.
quoted : List (Unit {0}) → Bytes → Bytes
quoted [] o = code "\"" ∷ o
quoted (x ∷ n) o = code "a" ∷ quoted n o

module _ (C : Ceilings) where
  close : (st : Stack) (v : Node) (i : ℕ) → (r : Node) × After C st v (from i (closers st)) r
  unfolding closers
  close [] v i = (v, After.top End.end)
  close (Frame.array a vs ∷ st) v i = let (r, x) = close st (Node.array a (suc i) (onto_nodes vs (Nodes.cons v Nodes.nil))) (suc i) in (r, After.array rule.elements_close x)
  close (Frame.object a ms q us ∷ st) v i = let (r, x) = close st (Node.object a (suc i) (onto_members ms (Members.member q us v Members.empty))) (suc i) in (r, After.object rule.rest_close x)

  abbrev pub Live : State → ℕ → Type 0
  Live s i = (w : Bytes) × (r : Node) × Follows C s (from i w) r

  before : {s s' : State} {i : ℕ} (b : ℕ) → Fitting C s → Took C (move s i b) s' → Live s' (suc i) → Live s i
  before b φ k (w, r, h) = (b ∷ w, r, follows_before C φ k h)

  -- Where the rest begins behind so many letters and a quote.
  past : List (Unit {0}) → ℕ → ℕ
  past [] i = suc i
  past (x ∷ n) i = past n (suc i)

  spell : (n : List (Unit {0})) (i : ℕ) (o : Bytes) → Chars C (from i (quoted n o)) (from (past n i) o) (letters n)
  unfolding quoted letters past
  spell [] i o = Chars.close
  spell (x ∷ n) i o = Chars.plain tt (spell n (suc i) o)

  behind : Bytes → ℕ → ℕ
  behind [] i = i
  behind (k ∷ ks) i = behind ks (suc i)

  spelt : (ks o : Bytes) (i : ℕ) → Word ks (from i (ks ++ o)) (from (behind ks i) o)
  unfolding behind
  spelt [] o i = Word.done
  spelt (k ∷ ks) o i = Word.byte (spelt ks o (suc i))

  a_null : {d : ℕ} (o : Bytes) (i : ℕ) → Value C d (from i (ascii "null" ++ o)) (from (suc (suc (suc (suc i)))) o) (Node.literal i (suc (suc (suc (suc i)))) Literal.null)
  a_null o i = rule.null (Word.byte (Word.byte (Word.byte (Word.byte Word.done))))

  live_after : (st : Stack) (v : Node) (i : ℕ) → Live (State.after st v) i
  live_after st v i = let (r, a) = close st v i in (closers st, r, Follows.after a)

  live_named : (q a : ℕ) (ms : Members) (st : Stack) (us : Units) (i : ℕ) → (w : Bytes) × (r : Node) × AfterName C q a ms st us (from i w) r
  live_named q a ms st us i =
      let j : ℕ = suc (suc (suc (suc (suc i)))) in
      let (r, x) = close st (Node.object a (suc j) (onto_members ms (Members.member q us (Node.literal (suc i) j Literal.null) Members.empty))) (suc j) in
      (code ":" ∷ code "n" ∷ code "u" ∷ code "l" ∷ code "l" ∷ code "}" ∷ closers st, r, AfterName.named (rule.named_colon (a_null (code "}" ∷ closers st) (suc i)) rule.rest_close) x)

  module _ (roomy : Roomy C) where
    live_chars : (u : Use) (us : Units) (i : ℕ) → Live (State.chars u us) i
    live_chars (Use.value a st) us i = let (r, x) = close st (Node.string a (suc i) (onto us [])) (suc i) in (code "\"" ∷ closers st, r, Follows.chars Chars.close (Closed.value x))
    live_chars (Use.name q a ms st) us i =
        let (n, g) = roomy.fresh us (names_of ms) in
        let (w, r, h) = live_named q a ms st (onto us (letters n)) (past n i) in
        (quoted n w, r, Follows.chars (spell n i w) (Closed.name g h))

    live_hex : (l : Left) (a : ℕ) (u : Use) (us : Units) (i : ℕ) → Live (State.hex l a u us) i
    unfolding hex_state move is_number
    live_hex Left.last a u us i = before (code "0") (Fitting.other tt) (Took.yes tt Took.go) (live_chars u ((16 * a + hex_value 48) ∷ us) (suc i))
    live_hex (Left.more l) a u us i = before (code "0") (Fitting.other tt) (Took.yes tt Took.go) (live_hex l (16 * a + hex_value 48) u us (suc i))

    live_number : (ns : Numeral) (κ : ℕ) (st : Stack) (ι : ℕ) → Fits C ns → Live (State.number ns κ st) ι
    unfolding value_from count_from
    live_number Numeral.minus κ st ι φ =
        let (r, a) = close st (Node.number κ (suc ι) (normal true 0 1 0 false 0)) (suc ι) in
        (code "0" ∷ closers st, r, Follows.number (NumeralRest.minus Whole.zero (AfterWhole.fraction Fraction.none (AfterFraction.power Power.none (some C roomy 0 1 0 false 0 0 roomy.one (omega arith) (omega arith) (omega arith) (omega arith))))) a)
    live_number (Numeral.zero neg) κ st ι (Fits.zero l) =
        let (r, a) = close st (Node.number κ ι (normal neg 0 1 0 false 0)) ι in (closers st, r, Follows.number (NumeralRest.zero (AfterWhole.fraction Fraction.none (AfterFraction.power Power.none l))) a)
    live_number (Numeral.whole neg c n) κ st ι (Fits.whole _ l) =
        let (r, a) = close st (Node.number κ ι (normal neg c n 0 false 0)) ι in (closers st, r, Follows.number (NumeralRest.whole Digits.none (AfterWhole.fraction Fraction.none (AfterFraction.power Power.none l))) a)
    live_number (Numeral.point neg c n) κ st ι (Fits.point h d) =
        let (r, a) = close st (Node.number κ (suc ι) (normal neg (and_digit c 48) (suc n) 1 false 0)) (suc ι) in
        (code "0" ∷ closers st, r, Follows.number (NumeralRest.point tt Digits.none (AfterFraction.power Power.none (some C roomy (and_digit c 48) (suc n) 1 false 0 0 d (omega arith) (omega arith) (omega arith) (omega arith)))) a)
    live_number (Numeral.fraction neg c n f) κ st ι (Fits.fraction _ _ l) =
        let (r, a) = close st (Node.number κ ι (normal neg c n f false 0)) ι in (closers st, r, Follows.number (NumeralRest.fraction Digits.none (AfterFraction.power Power.none l)) a)
    live_number (Numeral.mark neg c n f) κ st ι (Fits.mark h h₂ d) =
        let (r, a) = close st (Node.number κ (suc ι) (normal neg c n f false 0)) (suc ι) in
        (code "0" ∷ closers st, r, Follows.number (NumeralRest.mark Sign.none tt Digits.none (some C roomy c n f false 0 1 d h h₂ (omega arith) (omega arith))) a)
    live_number (Numeral.sign neg c n f s) κ st ι (Fits.sign h h₂ d) =
        let (r, a) = close st (Node.number κ (suc ι) (normal neg c n f s 0)) (suc ι) in
        (code "0" ∷ closers st, r, Follows.number (NumeralRest.sign tt Digits.none (some C roomy c n f s 0 1 d h h₂ (omega arith) (omega arith))) a)
    live_number (Numeral.power neg c n f s e k) κ st ι (Fits.power _ _ _ _ l) =
        let (r, a) = close st (Node.number κ ι (normal neg c n f s e)) ι in (closers st, r, Follows.number (NumeralRest.power Digits.none l) a)

    pub live : (s : State) (i : ℕ) → Fitting C s → Live s i
    unfolding move member_move is_number
    live (State.number ns p st) i (Fitting.other q) = absurd q
    live (State.number ns p st) i (Fitting.number φ) = live_number ns p st i φ
    live (State.value st) i φ = let j : ℕ = suc (suc (suc (suc i))) in let (r, a) = close st (Node.literal i j Literal.null) j in (code "n" ∷ code "u" ∷ code "l" ∷ code "l" ∷ closers st, r, Follows.value (a_null (closers st) i) a)
    live (State.array a st) i φ = before (code "]") (Fitting.other tt) (Took.no tt (Took.yes tt Took.go)) (live_after st (Node.array a (suc i) Nodes.nil) (suc i))
    live (State.object a st) i φ = before (code "}") (Fitting.other tt) (Took.no tt (Took.yes tt Took.go)) (live_after st (Node.object a (suc i) Members.empty) (suc i))
    live (State.after st v) i φ = live_after st v i
    live (State.literal k ks v a st) i φ = let (r, x) = close st (Node.literal a (behind ks (suc i)) v) (behind ks (suc i)) in (k ∷ (ks ++ closers st), r, Follows.literal (Word.byte (spelt ks (closers st) (suc i))) x)
    live (State.chars u us) i φ = live_chars u us i
    live (State.escape u us) i φ = before (code "n") (Fitting.other tt) (Took.yes tt Took.go) (live_chars u (10 ∷ us) (suc i))
    live (State.hex l a u us) i φ = live_hex l a u us i
    live (State.member a ms st) i φ = before (code "\"") (Fitting.other tt) (Took.no tt (Took.yes tt Took.go)) (live_chars (Use.name i a ms st) [] (suc i))
    live (State.named q us a ms st) i φ = let (w, r, h) = live_named q a ms st us i in (w, r, Follows.named h)
