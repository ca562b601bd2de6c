-- How many bytes each rule takes, whatever the ceilings.
use Prim.Native.Nat.{◌+◌, ◌≤◌, suc, ℕ}
use Rattle.text.specs.Bytes.{Bytes, Source, Units, from}
use Rattle.text.specs.Ceilings.{Ceilings}
use Rattle.text.specs.Decimal.{Decimal}
use Rattle.text.specs.Grammar.{Array, Elements, Member, Named, Object, Rest, Value}
use Rattle.text.specs.Node.{Members, Node, Nodes}
use Rattle.text.specs.Numbers.{Digits, Fraction, Minus, Number, Power, Sign, Whole}
use Rattle.text.specs.Strings.{Chars, Escape, Word}
use Rattle.text.specs.Table.{size, size_all, size_members}
use lib.ListN.{length}
use mathlib.Core.Bool.{Bool, false, true}
use mathlib.Core.List.{List}
use mathlib.Core.Path.{◌≡◌}
use native.Mathlib.Omega.{arith}
use Rattle.text.specs.Grammar as rule

-- The offset where a source stands, and how many bytes are left from there on.
abbrev pub place : Source → ℕ
place (from p i) = p

abbrev pub left : Source → ℕ
left (from p i) = length i

-- From `i` to `o` at least `n` bytes are taken, and the offset moves with the bytes.
abbrev pub Takes : ℕ → Source → Source → Type 0
Takes n i o = (place i + left i ≡ place o + left o) × (n + left o ≤ left i)

pub word_takes : {ks : Bytes} {i o : Source} → Word ks i o → Takes (length ks) i o
word_takes Word.done = omega arith
word_takes (Word.byte w) = omega (arith, word_takes w)

-- A string's characters take a byte for each unit, and one for the closing quote.
mutual
  pub chars_take : {C : Ceilings} {i o : Source} {us : Units} → Chars C i o us → Takes (suc (length us)) i o
  chars_take Chars.close = omega arith
  chars_take (Chars.plain t x) = omega (arith, chars_take x)
  chars_take (Chars.high t h x) = omega (arith, chars_take x)
  chars_take (Chars.escape x) = omega (arith, escape_takes x)

  escape_takes : {C : Ceilings} {i o : Source} {us : Units} → Escape C i o us → Takes (suc (length us)) i o
  escape_takes (Escape.short t e x) = omega (arith, chars_take x)
  escape_takes (Escape.unit s t u v e x) = omega (arith, chars_take x)

-- The parts of a number. A minus takes a byte.
unfoldable pub bit : Bool → ℕ
bit true = 1
bit false = 0

pub minus_takes : {i o : Source} {neg : Bool} → Minus i o neg → Takes (bit neg) i o
unfolding bit
minus_takes Minus.none = omega arith
minus_takes Minus.minus = omega arith

digits_take : {i o : Source} {ds : Bytes} → Digits i o ds → Takes (length ds) i o
digits_take Digits.none = omega arith
digits_take (Digits.more t d) = omega (arith, digits_take d)

pub whole_takes : {i o : Source} {ds : Bytes} → Whole i o ds → Takes (length ds) i o × (1 ≤ length ds)
whole_takes Whole.zero = omega arith
whole_takes (Whole.nonzero t d) = omega (arith, digits_take d)

pub fraction_takes : {i o : Source} {fs : Bytes} → Fraction i o fs → Takes (length fs) i o
fraction_takes Fraction.none = omega arith
fraction_takes (Fraction.point t d) = omega (arith, digits_take d)

sign_takes : {i o : Source} {down : Bool} → Sign i o down → Takes 0 i o
sign_takes Sign.none = omega arith
sign_takes Sign.plus = omega arith
sign_takes Sign.minus = omega arith

pub power_takes : {i o : Source} {down : Bool} {es : Bytes} → Power i o down es → Takes (length es) i o
power_takes Power.none = omega arith
power_takes (Power.mark t s u d) = omega (arith, sign_takes s, digits_take d)

pub number_takes : {C : Ceilings} {i o : Source} {x : Decimal} → Number C i o x → Takes 1 i o
number_takes (Number.number m w f p a) = omega (arith, minus_takes m, whole_takes w, fraction_takes f, power_takes p)

-- Every value takes at least a byte of its own, and so does what closes a container.
mutual
  unfolding size

  pub value_takes : {C : Ceilings} {d : ℕ} {i o : Source} {v : Node} → Value C d i o v → Takes (size v) i o
  value_takes (rule.value_space w x) = omega (arith, value_takes x)
  value_takes (rule.null w) = omega (arith, word_takes w)
  value_takes (rule.true w) = omega (arith, word_takes w)
  value_takes (rule.false w) = omega (arith, word_takes w)
  value_takes (rule.string x) = omega (arith, chars_take x)
  value_takes (rule.number x) = number_takes x
  value_takes (rule.array t x) = omega (arith, array_takes x)
  value_takes (rule.object t x) = omega (arith, object_takes x)

  array_takes : {C : Ceilings} {d : ℕ} {i o : Source} {vs : Nodes} → Array C d i o vs → Takes (suc (size_all vs)) i o
  array_takes (rule.array_space w x) = omega (arith, array_takes x)
  array_takes rule.array_close = omega arith
  array_takes (rule.array_first x y) = omega (arith, value_takes x, elements_take y)

  elements_take : {C : Ceilings} {d : ℕ} {i o : Source} {vs : Nodes} → Elements C d i o vs → Takes (suc (size_all vs)) i o
  elements_take (rule.elements_space w x) = omega (arith, elements_take x)
  elements_take rule.elements_close = omega arith
  elements_take (rule.elements_comma x y) = omega (arith, value_takes x, elements_take y)

  object_takes : {C : Ceilings} {d : ℕ} {i o : Source} {ms : Members} → Object C d i o ms → Takes (suc (size_members ms)) i o
  object_takes (rule.object_space w x) = omega (arith, object_takes x)
  object_takes rule.object_close = omega arith
  object_takes (rule.object_first x) = omega (arith, member_takes x)

  member_takes : {C : Ceilings} {d : ℕ} {ns : List Units} {i o : Source} {ms : Members} → Member C d ns i o ms → Takes (suc (size_members ms)) i o
  member_takes (rule.member_space w x) = omega (arith, member_takes x)
  member_takes (rule.member_name s t x) = omega (arith, chars_take s, named_takes x)

  named_takes : {C : Ceilings} {d q : ℕ} {ns : List Units} {us : Units} {i o : Source} {ms : Members} → Named C d ns q us i o ms → Takes (suc (size_members ms)) i o
  named_takes (rule.named_space w x) = omega (arith, named_takes x)
  named_takes (rule.named_colon x y) = omega (arith, value_takes x, rest_takes y)

  rest_takes : {C : Ceilings} {d : ℕ} {ns : List Units} {i o : Source} {ms : Members} → Rest C d ns i o ms → Takes (suc (size_members ms)) i o
  rest_takes (rule.rest_space w x) = omega (arith, rest_takes x)
  rest_takes rule.rest_close = omega arith
  rest_takes (rule.rest_comma x) = omega (arith, member_takes x)
