-- A value that was read keeps to the house ceilings.
use Prim.Native.Char.{code}
use Prim.Native.Nat.{◌%◌, ◌+◌, ◌-◌, ◌<◌, ◌^◌, ◌≤◌, ℕ}
use Rattle.meaning.proofs.Keeps.{Keeps, KeepsAll, KeepsPairs, Normal, Units16}
use Rattle.meaning.proofs.Members.{Apart, at_other}
use Rattle.meaning.specs.Meaning.{Pairs, Tree, at, pairs, tree, trees}
use Rattle.text.proofs.Decimals.{strip_most, strip_normal}
use Rattle.text.proofs.Digits.{number_below}
use Rattle.text.proofs.Names.{among_first, among_later}
use Rattle.text.proofs.Tests.{and_left, and_right, below, byte_at, digit_most, each, either, plain_most}
use Rattle.text.specs.Bytes.{Bytes, Source, Units, ascii, escape_unit, hex_value, is_digit, is_escape, is_hex, value_from}
use Rattle.text.specs.Ceilings.{Gate, among, house, max_depth, max_digits, max_power, max_power_digits}
use Rattle.text.specs.Decimal.{Decimal, exponent_of, normal, scaled, strip, zeros}
use Rattle.text.specs.Grammar.{Array, Elements, Member, Named, Object, Rest, Text, Value}
use Rattle.text.specs.Node.{Members, Node, Nodes}
use Rattle.text.specs.Numbers.{Allowed, Number}
use Rattle.text.specs.Strings.{Chars, Escape, Is, hex_unit}
use borrow.Author.Tests.{eqb-false, leb-false}
use lib.Dec.{T, T_not, eqb, leb, leb→le, ltb, ltb→lt}
use lib.ListN.{length}
use mathlib.Core.Bool.{Bool, ◌&&◌, ◌||◌, cond, false, not, true}
use mathlib.Core.List.{List, [], ◌++◌, ◌∷◌}
use mathlib.Core.Path.{◌∙◌, ◌≡◌, refl, subst}
use native.Mathlib.Nat.{pow-le-pow_right}
use native.Mathlib.Omega.{arith}
use Rattle.text.specs.Grammar as rule

-- `b` is one of the bytes `ks`, unless `a` holds; a test that holds of each of them holds of `b`.
one_of : ℕ → Bool → Bytes → Bool
one_of b a [] = a
one_of b a (k ∷ ks) = one_of b (a || eqb b k) ks

all : (ℕ → Bool) → Bytes → Bool
all f [] = true
all f (k ∷ ks) = f k && all f ks

one_of_all : (f : ℕ → Bool) (b : ℕ) (a : Bool) (ks : Bytes) → (T a → T (f b)) → T (all f ks) → T (one_of b a ks) → T (f b)
unfolding one_of all
one_of_all f b a [] g h t = g t
one_of_all f b a (k ∷ ks) g h t =
    one_of_all f b (a || eqb b k) ks (either a (eqb b k) g (λ e. byte_at k (λ b. T (f b)) e (and_left (f k) (all f ks) h))) (and_right (f k) (all f ks) h) t

-- The unit of a short escape.
escape_small : (b : ℕ) → T (is_escape b) → escape_unit b < 65536
unfolding one_of all
escape_small b t = ltb→lt (escape_unit b) 65536 (one_of_all (λ b. ltb (escape_unit b) 65536) b false (ascii "\"\\/bfnrt") (λ n. absurd n) tt t)

-- The value of a hexadecimal digit.
hex_small : (b : ℕ) → T (is_hex b) → hex_value b < 16
unfolding each
hex_small b t =
    either (is_digit b || (leb (code "A") b && leb b (code "F"))) (leb (code "a") b && leb b (code "f"))
    (either (is_digit b) (leb (code "A") b && leb b (code "F")) (λ d. by (omega (arith, digit_most b d)))
    (λ d. by (omega (arith, leb→le b (code "F") (and_right (leb (code "A") b) (leb b (code "F")) d)))))
    (λ d. by (omega (arith, leb→le b (code "f") (and_right (leb (code "a") b) (leb b (code "f")) d)))) t
  where
    by : b < code "g" → hex_value b < 16
    by l =
        ltb→lt (hex_value b) 16
        (either (not (is_hex b)) (ltb (hex_value b) 16) (λ n. absurd (T_not (is_hex b) n t)) (λ r. r) (below (λ b. not (is_hex b) || ltb (hex_value b) 16) (code "g") tt b l))

-- The units of a string.
mutual
  unfolding house

  chars_keep : {i o : Source} {us : Units} → Chars house i o us → Units16 us
  chars_keep Chars.close = Units16.none
  chars_keep (Chars.plain {b = b} t x) = Units16.next {u = b} (omega (arith, plain_most b t)) (chars_keep x)
  chars_keep (Chars.high t h x) = absurd h
  chars_keep (Chars.escape x) = escape_keeps x

  escape_keeps : {i o : Source} {us : Units} → Escape house i o us → Units16 us
  escape_keeps (Escape.short {b = b} t Is.is x) = Units16.next (escape_small b t) (chars_keep x)
  escape_keeps (Escape.unit {a = a} {b = b} {c = c} {d = d} s t u v Is.is x) =
      Units16.next {u = hex_unit a b c d} (omega (arith, hex_small a s, hex_small b t, hex_small c u, hex_small d v)) (chars_keep x)

-- A number that the ceilings let pass has a normal form within them.
scaled_keeps : (neg : Bool) (c p m : ℕ) → 0 < c → c < 10 ^ max_digits → ¬ (c % 10 ≡ 0) → exponent_of (scaled false c p m) ≤ max_power → Normal (scaled neg c p m)
unfolding scaled exponent_of
scaled_keeps neg c p m c0 c9 h l = by (leb m p) refl l
  where
    by : (t : Bool) → leb m p ≡ t → exponent_of (cond t (Decimal.decimal false c false (p - m)) (Decimal.decimal false c true (m - p))) ≤ max_power
        → Normal (cond t (Decimal.decimal neg c false (p - m)) (Decimal.decimal neg c true (m - p)))
    by true e l = Normal.up c0 c9 h l
    by false e l = let k : p < m = leb-false m p e in Normal.down {e = m - p} c0 c9 h (omega arith) l

normal_keeps : (neg : Bool) (c n f : ℕ) (down : Bool) (e k : ℕ) → c < 10 ^ n → Allowed house c n f down e k → Normal (normal neg c n f down e)
unfolding normal house
normal_keeps neg c n f down e k l (Allowed.allowed a b) =
    by (eqb c 0) refl (leb→le (exponent_of (normal false c n f down e)) max_power (and_right (leb k max_power_digits) (leb (exponent_of (normal false c n f down e)) max_power) b))
  where
    m : ℕ
    m = strip n c

    z : ℕ
    z = zeros n c

    most : m < 10 ^ max_digits
    most = omega (arith, strip_most n c, pow-le-pow_right {n = 10} (omega arith) (leb→le n max_digits a))

    range : (down : Bool) → 0 < m → ¬ (m % 10 ≡ 0) → exponent_of (cond down (scaled false m z (e + f)) (scaled false m (e + z) f)) ≤ max_power
        → Normal (cond down (scaled neg m z (e + f)) (scaled neg m (e + z) f))
    range true m0 h t = scaled_keeps neg m z (e + f) m0 most h t
    range false m0 h t = scaled_keeps neg m (e + z) f m0 most h t

    by : (t : Bool) → eqb c 0 ≡ t → exponent_of (cond t (Decimal.decimal false 0 false 0) (cond down (scaled false m z (e + f)) (scaled false m (e + z) f))) ≤ max_power
        → Normal (cond t (Decimal.decimal false 0 false 0) (cond down (scaled neg m z (e + f)) (scaled neg m (e + z) f)))
    by true p t = Normal.zero
    by false p t =
        let nonzero : c ≡ 0 → ⊥ = eqb-false c 0 p in
        let (x, h) = strip_normal n c (omega arith) l in
        range down (omega arith) h t

pub number_keeps : {i o : Source} {x : Decimal} → Number house i o x → Normal x
number_keeps (Number.number {neg = neg} {down = down} {ds = ds} {fs = fs} {es = es} m w f p a) =
    normal_keeps neg (value_from 0 (ds ++ fs)) (length (ds ++ fs)) (length fs) down (value_from 0 es) (length es) (number_below w f) a

depth_keeps : (d : ℕ) → T (house (Gate.depth d)) → d < max_depth
unfolding house
depth_keeps d t = ltb→lt d max_depth t

-- The names before a member stay apart from it and from those behind it.
apart_member : (ns : List Units) (k : Units) (t : Tree) (ps : Pairs) → T (house (Gate.name k ns)) → Apart (k ∷ ns) ps → Apart ns (Pairs.pair k t ps)
unfolding house
apart_member ns k t ps h f j a =
    at_other k t ps j (λ e. T_not (among k ns) h (subst (λ x. T (among x ns)) e a)) ∙ f j (among_later j k ns a)

-- A value, and what stands in it.
mutual
  unfolding tree at

  value_keeps : {d : ℕ} {i o : Source} {v : Node} → Value house d i o v → Keeps d (tree v)
  value_keeps (rule.value_space w x) = value_keeps x
  value_keeps (rule.null w) = Keeps.literal
  value_keeps (rule.true w) = Keeps.literal
  value_keeps (rule.false w) = Keeps.literal
  value_keeps (rule.string x) = Keeps.string (chars_keep x)
  value_keeps (rule.number x) = Keeps.number (number_keeps x)
  value_keeps (rule.array {d = d} t x) = Keeps.array (depth_keeps d t) (array_keeps x)
  value_keeps (rule.object {d = d} t x) = Keeps.object (depth_keeps d t) (object_keeps x)

  array_keeps : {d : ℕ} {i o : Source} {vs : Nodes} → Array house d i o vs → KeepsAll d (trees vs)
  array_keeps (rule.array_space w x) = array_keeps x
  array_keeps rule.array_close = KeepsAll.nil
  array_keeps (rule.array_first x y) = KeepsAll.cons (value_keeps x) (elements_keep y)

  elements_keep : {d : ℕ} {i o : Source} {vs : Nodes} → Elements house d i o vs → KeepsAll d (trees vs)
  elements_keep (rule.elements_space w x) = elements_keep x
  elements_keep rule.elements_close = KeepsAll.nil
  elements_keep (rule.elements_comma x y) = KeepsAll.cons (value_keeps x) (elements_keep y)

  object_keeps : {d : ℕ} {i o : Source} {ms : Members} → Object house d i o ms → KeepsPairs d (pairs ms)
  object_keeps (rule.object_space w x) = object_keeps x
  object_keeps rule.object_close = KeepsPairs.empty
  object_keeps (rule.object_first x) = (member_keeps x).0

  member_keeps : {d : ℕ} {ns : List Units} {i o : Source} {ms : Members} → Member house d ns i o ms → KeepsPairs d (pairs ms) × Apart ns (pairs ms)
  member_keeps (rule.member_space w x) = member_keeps x
  member_keeps (rule.member_name s t x) = named_keeps x (chars_keep s) t

  named_keeps : {d q : ℕ} {ns : List Units} {us : Units} {i o : Source} {ms : Members} → Named house d ns q us i o ms → Units16 us → T (house (Gate.name us ns)) → KeepsPairs d (pairs ms) × Apart ns (pairs ms)
  named_keeps (rule.named_space w x) u t = named_keeps x u t
  named_keeps (rule.named_colon {ns = ns} {us = us} {v = v} {ms = ms} x y) u t =
      let (ks, f) = rest_keeps y in
      (KeepsPairs.pair u (f us (among_first us ns)) (value_keeps x) ks, apart_member ns us (tree v) (pairs ms) t f)

  rest_keeps : {d : ℕ} {ns : List Units} {i o : Source} {ms : Members} → Rest house d ns i o ms → KeepsPairs d (pairs ms) × Apart ns (pairs ms)
  rest_keeps (rule.rest_space w x) = rest_keeps x
  rest_keeps rule.rest_close = (KeepsPairs.empty, λ k t. refl)
  rest_keeps (rule.rest_comma x) = member_keeps x

pub text_keeps : {t : Bytes} {v : Node} → Text house t v → Keeps 0 (tree v)
text_keeps (Text.text x e) = value_keeps x
