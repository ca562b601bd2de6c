-- Each rule of the grammar, begun at an offset of a text, leaves off at an offset of the same text.
use Prim.Native.Nat.{◌<◌, suc, ℕ}
use Rattle.text.specs.Bytes.{Bytes, Source, Units, from}
use Rattle.text.specs.Ceilings.{Ceilings}
use Rattle.text.specs.Decimal.{Decimal}
use Rattle.text.specs.Grammar.{Array, Elements, Member, Named, Object, Rest, Value}
use Rattle.text.specs.Grammar as rule
use Rattle.text.specs.Node.{Members, Node, Nodes}
use Rattle.text.specs.Numbers.{Digits, Fraction, Minus, Number, Power, Sign, Whole}
use Rattle.text.specs.Strings.{Chars, Escape, Word}
use lib.ListN.{drop, get_or, length, length-drop}
use lib.Seq.{drop-cons}
use mathlib.Core.Bool.{Bool}
use mathlib.Core.List.{List, ◌∷◌, head-eq_of_cons-eq, tail-eq_of_cons-eq}
use mathlib.Core.Path.{◌∙◌, ◌≡◌, ap, sym}
use native.Mathlib.Omega.{arith}

-- The bytes of a source are those of the text `t` from its offset on.
pub data At (t : Bytes) : Source → Type 0 where
  at : {p : ℕ} {i : Bytes} → i ≡ drop p t → At t (from p i)

pub at_drop : {t i : Bytes} {p : ℕ} → At t (from p i) → i ≡ drop p t
at_drop (At.at e) = e

-- A byte of a source.
module _ (t : Bytes) {p b : ℕ} {i : Bytes} (x : At t (from p (b ∷ i))) where
  pub at_inside : p < length t
  at_inside = omega (arith, ap length (at_drop x), length-drop p t)

  pub at_byte : get_or t p 0 ≡ b
  at_byte = sym (head-eq_of_cons-eq (at_drop x ∙ drop-cons t p 0 at_inside))

  pub at_next : At t (from (suc p) i)
  at_next = At.at (tail-eq_of_cons-eq (at_drop x ∙ drop-cons t p 0 at_inside))

module _ (t : Bytes) where
  word_at : {ks : Bytes} {i o : Source} → Word ks i o → At t i → At t o
  word_at Word.done e = e
  word_at (Word.byte w) e = word_at w (at_next t e)

  mutual
    pub chars_at : {C : Ceilings} {i o : Source} {us : Units} → Chars C i o us → At t i → At t o
    chars_at Chars.close e = at_next t e
    chars_at (Chars.plain x c) e = chars_at c (at_next t e)
    chars_at (Chars.high x h c) e = chars_at c (at_next t e)
    chars_at (Chars.escape c) e = escape_at c (at_next t e)

    escape_at : {C : Ceilings} {i o : Source} {us : Units} → Escape C i o us → At t i → At t o
    escape_at (Escape.short x u c) e = chars_at c (at_next t e)
    escape_at (Escape.unit x y z w u c) e = chars_at c (at_next t (at_next t (at_next t (at_next t (at_next t e)))))

  minus_at : {i o : Source} {neg : Bool} → Minus i o neg → At t i → At t o
  minus_at Minus.none e = e
  minus_at Minus.minus e = at_next t e

  digits_at : {i o : Source} {ds : Bytes} → Digits i o ds → At t i → At t o
  digits_at Digits.none e = e
  digits_at (Digits.more x d) e = digits_at d (at_next t e)

  whole_at : {i o : Source} {ds : Bytes} → Whole i o ds → At t i → At t o
  whole_at Whole.zero e = at_next t e
  whole_at (Whole.nonzero x d) e = digits_at d (at_next t e)

  fraction_at : {i o : Source} {fs : Bytes} → Fraction i o fs → At t i → At t o
  fraction_at Fraction.none e = e
  fraction_at (Fraction.point x d) e = digits_at d (at_next t (at_next t e))

  sign_at : {i o : Source} {down : Bool} → Sign i o down → At t i → At t o
  sign_at Sign.none e = e
  sign_at Sign.plus e = at_next t e
  sign_at Sign.minus e = at_next t e

  power_at : {i o : Source} {down : Bool} {es : Bytes} → Power i o down es → At t i → At t o
  power_at Power.none e = e
  power_at (Power.mark x s y d) e = digits_at d (at_next t (sign_at s (at_next t e)))

  pub number_at : {C : Ceilings} {i o : Source} {x : Decimal} → Number C i o x → At t i → At t o
  number_at (Number.number m w f p a) e = power_at p (fraction_at f (whole_at w (minus_at m e)))

  module _ {C : Ceilings} where
    mutual
      pub value_at : {d : ℕ} {i o : Source} {v : Node} → Value C d i o v → At t i → At t o
      value_at (rule.value_space w x) e = value_at x (at_next t e)
      value_at (rule.null w) e = word_at w e
      value_at (rule.true w) e = word_at w e
      value_at (rule.false w) e = word_at w e
      value_at (rule.string x) e = chars_at x (at_next t e)
      value_at (rule.number x) e = number_at x e
      value_at (rule.array g x) e = array_at x (at_next t e)
      value_at (rule.object g x) e = object_at x (at_next t e)

      array_at : {d : ℕ} {i o : Source} {vs : Nodes} → Array C d i o vs → At t i → At t o
      array_at (rule.array_space w x) e = array_at x (at_next t e)
      array_at rule.array_close e = at_next t e
      array_at (rule.array_first x y) e = elements_at y (value_at x e)

      elements_at : {d : ℕ} {i o : Source} {vs : Nodes} → Elements C d i o vs → At t i → At t o
      elements_at (rule.elements_space w x) e = elements_at x (at_next t e)
      elements_at rule.elements_close e = at_next t e
      elements_at (rule.elements_comma x y) e = elements_at y (value_at x (at_next t e))

      object_at : {d : ℕ} {i o : Source} {ms : Members} → Object C d i o ms → At t i → At t o
      object_at (rule.object_space w x) e = object_at x (at_next t e)
      object_at rule.object_close e = at_next t e
      object_at (rule.object_first x) e = member_at x e

      member_at : {d : ℕ} {ns : List Units} {i o : Source} {ms : Members} → Member C d ns i o ms → At t i → At t o
      member_at (rule.member_space w x) e = member_at x (at_next t e)
      member_at (rule.member_name s g x) e = named_at x (chars_at s (at_next t e))

      named_at : {d q : ℕ} {ns : List Units} {us : Units} {i o : Source} {ms : Members} → Named C d ns q us i o ms → At t i → At t o
      named_at (rule.named_space w x) e = named_at x (at_next t e)
      named_at (rule.named_colon x y) e = rest_at y (value_at x (at_next t e))

      rest_at : {d : ℕ} {ns : List Units} {i o : Source} {ms : Members} → Rest C d ns i o ms → At t i → At t o
      rest_at (rule.rest_space w x) e = rest_at x (at_next t e)
      rest_at rule.rest_close e = at_next t e
      rest_at (rule.rest_comma x) e = member_at x (at_next t e)
