-- What the first byte of a value says of its canonical text.
use Prim.Native.Char.{code}
use Prim.Native.Nat.{ℕ, ◌+◌, ◌-◌, ◌≤◌}
use Rattle.meaning.specs.Canonical.{put, put_number, spelling}
use Rattle.meaning.specs.Meaning.{Tree}
use Rattle.names.specs.Units.{units}
use Rattle.scan.specs.Numbers.{opens_number}
use Rattle.spell.proofs.Cutting.{number_cut}
use Rattle.spell.specs.Scalars.{Numeral, Scalar, quoted}
use Rattle.text.specs.Bytes.{Bytes, ascii}
use Rattle.text.specs.Decimal.{Decimal}
use Rattle.text.specs.Node.{Literal}
use lib.Dec.{eqb}
use lib.ListN.{drop, get_or, length, take}
use mathlib.Core.Bool.{cond, false, false≢true}
use mathlib.Core.List.{[], append-nil}
use mathlib.Core.Path.{◌∙◌, ◌≡◌, ap, refl, sym}

-- The first byte of a literal, which says which it is, and opens no string and no number.
abbrev first : Literal → ℕ
first l = get_or (spelling l) 0 0

abbrev literal_of : ℕ → Literal
literal_of b = cond (eqb b (code "t")) Literal.true (cond (eqb b (code "f")) Literal.false Literal.null)

first_tells : (l : Literal) → literal_of (first l) ≡ l
unfolding spelling
first_tells Literal.null = refl
first_tells Literal.true = refl
first_tells Literal.false = refl

first_apart : (l : Literal) → (eqb (first l) (code "\"") ≡ false) × (opens_number (first l) ≡ false)
unfolding spelling
first_apart Literal.null = (refl, refl)
first_apart Literal.true = (refl, refl)
first_apart Literal.false = (refl, refl)

-- The value is a number that stands from `p` up to `q` by itself.
pub record NumberFrom (t : Bytes) (p q : ℕ) (v : Tree) : Type 0 where
  pub number : Decimal
  pub same : put v [] ≡ put_number number []
  pub onward : p ≤ q
  pub bound : q ≤ length t
  pub alone : Numeral (take (q - p) (drop p t)) number

module _ {t : Bytes} {p q : ℕ} where
  pub quote_text : {v : Tree} → Scalar t p q v → get_or t p 0 ≡ code "\"" → put v [] ≡ quoted (units (drop (p + 1) t))
  unfolding put
  quote_text (Scalar.word {l = l} e) b = absurd (false≢true (sym (first_apart l).0 ∙ ap (λ b. eqb b (code "\"")) (sym e ∙ b)))
  quote_text (Scalar.string e r) b = ap quoted (sym r)
  quote_text (Scalar.number e h k n) b = absurd (false≢true (ap opens_number (sym b) ∙ e))

  word_text : (l : Literal) {v : Tree} → Scalar t p q v → get_or t p 0 ≡ first l → put v [] ≡ spelling l
  unfolding put
  word_text l (Scalar.word {l = m} e) b = append-nil (spelling m) ∙ ap spelling (sym (first_tells m) ∙ ap literal_of (sym e ∙ b) ∙ first_tells l)
  word_text l (Scalar.string e r) b = absurd (false≢true (sym (first_apart l).0 ∙ ap (λ b. eqb b (code "\"")) (sym b ∙ e)))
  word_text l (Scalar.number e h k n) b = absurd (false≢true (sym (first_apart l).1 ∙ ap opens_number (sym b) ∙ e))

  pub true_text : {v : Tree} → Scalar t p q v → get_or t p 0 ≡ code "t" → put v [] ≡ ascii "true"
  unfolding spelling
  true_text = word_text Literal.true

  pub false_text : {v : Tree} → Scalar t p q v → get_or t p 0 ≡ code "f" → put v [] ≡ ascii "false"
  unfolding spelling
  false_text = word_text Literal.false

  pub null_text : {v : Tree} → Scalar t p q v → get_or t p 0 ≡ code "n" → put v [] ≡ ascii "null"
  unfolding spelling
  null_text = word_text Literal.null

  pub number_text : {v : Tree} → Scalar t p q v → (get_or t p 0 ≡ code "\"" → ⊥) → (get_or t p 0 ≡ code "t" → ⊥) → (get_or t p 0 ≡ code "f" → ⊥) → (get_or t p 0 ≡ code "n" → ⊥)
      → NumberFrom t p q v
  unfolding put spelling
  number_text (Scalar.word {l = Literal.null} e) a b c d = absurd (d e)
  number_text (Scalar.word {l = Literal.true} e) a b c d = absurd (b e)
  number_text (Scalar.word {l = Literal.false} e) a b c d = absurd (c e)
  number_text (Scalar.string e r) a b c d = absurd (a e)
  number_text (Scalar.number {x = x} e h k n) a b c d = record { number = x; same = refl; onward = h; bound = k; alone = number_cut t h k n }

pub ruleset texts = (quote_text, true_text, false_text, null_text, number_text)
