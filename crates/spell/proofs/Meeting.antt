-- What the number leaf reads of bytes that are a number is the number that the grammar says they are.
use Prim.Native.Char.{code}
use Prim.Native.Nat.{◌<◌, ◌^◌, ◌≤◌, ℕ}
use Rattle.meaning.proofs.Keeps as kept
use Rattle.meaning.proofs.NumberTrip.{nonzero_digit}
use Rattle.meaning.proofs.Reading.{number_keeps}
use Rattle.scan.specs.Answers.{Judge, at, judging}
use Rattle.scan.specs.Numbers.{Numbered, Unnumbered, decimal_of, opens_number}
use Rattle.scan.specs.declared.number.Written.{Written}
use Rattle.spell.specs.Normals.{NormalOf, meant}
use Rattle.spell.specs.Scalars.{Numeral}
use Rattle.spell.specs.declared.normal.Normal.{Normal}
use Rattle.text.proofs.Fitting.{Sane}
use Rattle.text.proofs.Limits.{house_limits}
use Rattle.text.proofs.Machine.{Move, State, after_move, move}
use Rattle.text.proofs.Run.{Done, Run, Took, complete, done_one, run}
use Rattle.text.proofs.Tests.{or_right, true_is}
use Rattle.text.proofs.Way.{initial, text_follows}
use Rattle.text.specs.Bytes.{Bytes, Source, from, is_digit}
use Rattle.text.specs.Ceilings.{Ceilings, house, max_digits, max_power}
use Rattle.text.specs.Decimal.{Decimal}
use Rattle.text.specs.Grammar.{End, Text}
use Rattle.text.specs.Grammar as rule
use Rattle.text.specs.Node.{Node}
use Rattle.text.specs.Numbers.{Allowed, Minus, Whole}
use Rattle.text.specs.Numbers as grammar
use Rattle.text.specs.Verdict.{Outcome}
use lib.Dec.{eqb}
use lib.ListN.{drop, get_or, length}
use mathlib.Core.Bool.{Bool, true}
use mathlib.Core.List.{[]}
use mathlib.Core.Path.{◌∙◌, ◌≡◌, ap, refl, subst, sym}
use native.Mathlib.Omega.{arith}

-- A number has a first byte.
pub number_opens : {C : Ceilings} {p : ℕ} {i : Bytes} {o : Source} {x : Decimal} → grammar.Number C (from p i) o x → (0 < length i) × (opens_number (get_or i 0 0) ≡ true)
number_opens (grammar.Number.number Minus.minus w f e a) = (omega arith, refl)
number_opens (grammar.Number.number Minus.none Whole.zero f e a) = (omega arith, refl)
number_opens (grammar.Number.number Minus.none (Whole.nonzero {b = b} t d) f e a) =
    (omega arith, true_is (opens_number b) (or_right (eqb b (code "-")) (is_digit b) (nonzero_digit b t)))

-- No name stands in a number, so it is one however names are judged, and the machine accepts it.
module _ (f : Judge) where
  judged : {i o : Source} {x : Decimal} → grammar.Number house i o x → grammar.Number (judging f) i o x
  unfolding judging
  judged (grammar.Number.number m w g e (Allowed.allowed a b)) = grammar.Number.number m w g e (Allowed.allowed a b)

  sane : Sane (judging f)
  unfolding judging
  sane = record { fewer = house_limits.roomy.sane.fewer; longer = house_limits.roomy.sane.longer }

  accepted : {s : Bytes} {x : Decimal} → Numeral s x → at s initial 0 f ≡ Outcome.accepted (Node.number 0 (length s) x)
  unfolding at
  accepted {s} n = complete (judging f) sane (run (judging f) initial 0 s).1 (text_follows (Text.text (rule.number (judged n)) End.end))

-- Behind a value that no container holds stands whitespace only, so that value is the whole text's.
stays : {C : Ceilings} {v : Node} {t : Bool} {s : State} → Took C (Move.when t (Move.go (State.after [] v)) Move.bad) s → s ≡ State.after [] v
stays (Took.yes p Took.go) = refl
stays (Took.no _ x12) = elim x12 [ ]

value_stays : {C : Ceilings} {s : State} {n : ℕ} {t : Bytes} {a : Outcome} {v u : Node} → Run C s n t a → s ≡ State.after [] v → a ≡ Outcome.accepted u → v ≡ u
unfolding move after_move
value_stays {C} {u = u} (Run.ends {n = n} {v = w} d) e g = done_one C Done.after (subst (λ s. Done s n w) e d) ∙ (cc)
value_stays (Run.short f) e g = let z : ◌≡◌ {A = ℕ} 0 1 = cc in absurd (omega arith)
value_stays {C} (Run.on {s' = s'} {n = n} {b = b} k r) e g = value_stays r (stays (subst (λ s. Took C (move s n b) s') e k)) g
value_stays (Run.off f) e g = let z : ◌≡◌ {A = ℕ} 0 1 = cc in absurd (omega arith)

-- The leaf's answer, judged by a judge that lets every name pass.
every : Judge
every us ns = true

read_as : {s : Bytes} {w : Written} {x : Decimal} → Numbered s 0 w → Numeral s x → decimal_of w ≡ x
unfolding at
read_as {s} {w} {x} r n =
    let v : Node.number 0 w.end (decimal_of w) ≡ Node.number 0 (length s) x =
    value_stays (run (judging every) (State.after [] (Node.number 0 w.end (decimal_of w))) w.end (drop w.end s)).1 refl (sym (ap (λ h. h every) (r.same [])) ∙ accepted every n) in
    cc

pub read_some : {s : Bytes} {k p : ℕ} {x : Decimal} → Unnumbered s 0 k p → Numeral s x → ⊥
read_some r n =
    let a = ap (λ h. h every) (r.same []) in
    let b = accepted every n in
    let z : ◌≡◌ {A = ℕ} 0 1 = cc in absurd (omega arith)

-- A number is within the ceilings.
normal_kept : {neg : Bool} {c : ℕ} {down : Bool} {e : ℕ} → kept.Normal (Decimal.decimal neg c down e) → (c < 10 ^ max_digits) × (e ≤ max_power)
normal_kept kept.Normal.zero = (omega arith, omega arith)
normal_kept (kept.Normal.up a b c d) = (b, d)
normal_kept (kept.Normal.down a b c d e) = (b, e)

pub read_normal : {s : Bytes} {w : Written} {n : Normal} {x : Decimal} → Numbered s 0 w → Numeral s x → meant n ≡ decimal_of w → NormalOf s n
read_normal r m e =
    let k = normal_kept (subst kept.Normal (sym (e ∙ read_as r m)) (number_keeps m)) in
    record { same = λ y o. e ∙ read_as r o; small = k.0; near = k.1 }
