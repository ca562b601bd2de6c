-- What a string does to the answer, from behind its opening quote on, whatever it is for.
use Prim.Native.Char.{code}
use Rattle.std.specs.Prelude.{◌+◌, ◌<◌, ◌≤◌, suc, ℕ, T, drop, get_or, length, cond, false, [], ◌++◌, ◌∷◌, ◌≡◌, Result, Ok, Err}
use Rattle.scan.specs.Answers.{Judge, Leaf, at, refused}
use Rattle.scan.specs.Refusals.{number_of, place_of}
use Rattle.scan.specs.declared.refusal.Refusal.{Refusal}
use Rattle.text.proofs.Machine.{Left, Stack, State, Use, names_of, onto}
use Rattle.text.specs.Bytes.{Bytes, Source, Units, from, is_hex, is_plain}
use Rattle.text.specs.Ceilings.{house}
use Rattle.text.specs.Node.{Members, Node}
use Rattle.text.specs.Strings.{Chars, Escape}
use Rattle.text.specs.Verdict.{Outcome}

-- What the grammar says of bytes behind a string's opening quote, behind a backslash in it, and behind that one's `u`.
abbrev pub Rule : Type 1
Rule = Source → Source → Units → Type 0

abbrev pub Hexed : Rule
Hexed (from n s) o us = (p : ℕ) → n ≡ suc p → Escape house (from p (code "u" ∷ s)) o us

-- From `i` up to `j` stands what means `read`: by the grammar's rule, and the machine goes from the state `s` to that
-- between two characters.
pub record Goes (t : Bytes) (R : Rule) (s : Use → Units → State) (i j : ℕ) : Type 0 where
  pub read : Units
  pub rule : (o : Source) (us : Units) → Chars house (from j (drop j t)) o us → R (from i (drop i t)) o (read ++ us)
  pub same : (u : Use) (us : Units) → at t (s u us) i ≡ at t (State.chars u (onto read us)) j

-- From the state `s` at `i` on the text is refused with the number `k` at `p`.
abbrev pub Refused : Bytes → (Use → Units → State) → ℕ → ℕ → ℕ → Type 0
Refused t s i k p = (u : Use) (us : Units) → at t (s u us) i ≡ refused k p

-- The characters from `i` up to `j` are read.
abbrev pub Read : Bytes → ℕ → ℕ → Type 0
Read t i j = Goes t (Chars house) State.chars i j

-- The same, where `j` is an offset of the text from `i` on.
abbrev pub ReadTo : Bytes → ℕ → ℕ → Type 0
ReadTo t i j = (i ≤ j) × (j ≤ length t) × Read t i j

-- No plain character stands at `r`.
abbrev pub NotPlain : Bytes → ℕ → Type 0
NotPlain t r = r < length t → is_plain (get_or t r 0) ≡ false

-- What stands at `i` is a hexadecimal digit, else no digit that a `\u` still wants.
abbrev pub HexAt : Bytes → ℕ → Result (Unit {0}) Refusal → Type 0
HexAt t i (Ok u) = (i < length t) × T (is_hex (get_or t i 0))
HexAt t i (Err e) = (l : Left) (a : ℕ) → Refused t (State.hex l a) i (number_of e) (place_of e)

-- The four digits behind `\u`.
abbrev pub four : Use → Units → State
four = State.hex (Left.more (Left.more (Left.more Left.last))) 0

abbrev pub FourAt : Bytes → ℕ → Result ℕ Refusal → Type 0
FourAt t i = Leaf t i (Goes t Hexed four i) (Refused t four i)

-- What stands behind a backslash.
abbrev pub EscapeAt : Bytes → ℕ → Result ℕ Refusal → Type 0
EscapeAt t i = Leaf t i (Goes t (Escape house) State.escape i) (Refused t State.escape i)

-- The answer at the closing quote of the name `us`, whose place is `p`, behind the members `ms`: the name is judged, and
-- if it passes the answer is `a`.
unfoldable pub judged : ℕ → Members → Units → (Judge → Outcome) → Judge → Outcome
judged p ms us a f = cond (f us (names_of ms)) (a f) (Outcome.refused 8 p)

-- The string that begins behind the quote before `i` has its closing quote at `p`.
pub record Ended (t : Bytes) (i p : ℕ) : Type 0 where
  pub units : Units
  pub chars : Chars house (from i (drop i t)) (from (p + 1) (drop (p + 1) t)) units
  pub value : (a : ℕ) (st : Stack) → at t (State.chars (Use.value a st) []) i ≡ at t (State.after st (Node.string a (p + 1) units)) (p + 1)
  pub name : (q a : ℕ) (ms : Members) (st : Stack) → at t (State.chars (Use.name q a ms st) []) i ≡ judged p ms units (at t (State.named q units a ms st) (p + 1))

abbrev pub StringAt : Bytes → ℕ → Result ℕ Refusal → Type 0
StringAt t i = Leaf t i (λ j. (p : ℕ) × (j ≡ p + 1) × Ended t i p) (λ k p. (u : Use) → at t (State.chars u []) i ≡ refused k p)
