-- What is written is a text within the house ceilings, and is read back as the tree it was written for.
use Prim.Native.Char.{code}
use Prim.Native.Nat.{◌%◌, ◌*◌, ◌+◌, ◌/◌, ◌<◌, ◌≤◌, suc, ℕ}
use Rattle.meaning.proofs.Keeps.{Keeps, KeepsAll, KeepsPairs, Units16}
use Rattle.meaning.proofs.Members.{Apart, fresh_first, fresh_rest}
use Rattle.meaning.proofs.NumberTrip.{number_back}
use Rattle.meaning.specs.Canonical.{hex_digit, is_bare, put, put_array, put_elements, put_object, put_rest, put_unit, put_units, spelling}
use Rattle.meaning.specs.Meaning.{Maybe, Pairs, Tree, Trees, at, pairs, tree, trees}
use Rattle.text.proofs.Names.{same_is}
use Rattle.text.proofs.Tests.{and_left, and_right, below, byte_at, each, either, is_true}
use Rattle.text.specs.Bytes.{Bytes, Units, ascii, escape_unit, from, hex_value, is_escape, is_hex, is_plain}
use Rattle.text.specs.Ceilings.{Gate, among, house, max_depth, same}
use Rattle.text.specs.Grammar.{Array, Elements, End, Member, Object, Rest, Text, Value}
use Rattle.text.specs.Node.{Literal, Members, Node, Nodes}
use Rattle.text.specs.Strings.{Chars, Escape, Is, Word, hex_unit}
use lib.Dec.{T, T_not, eqb, eqb→eq, leb, leb→le, le→leb, not_T}
use mathlib.Core.Bool.{Bool, ◌&&◌, ◌||◌, false, not, true}
use mathlib.Core.List.{List, [], ◌++◌, ◌∷◌}
use mathlib.Core.Path.{◌∙◌, ◌≡◌, ap, ap₂, refl, subst}
use native.Mathlib.Omega.{arith}
use Rattle.text.specs.Grammar as rule

-- A hexadecimal digit that is written, and its value.
hex_digit_lem : (n : ℕ) → n < 16 → T (is_hex (hex_digit n) && eqb (hex_value (hex_digit n)) n)
unfolding each
hex_digit_lem n l = below (λ n. is_hex (hex_digit n) && eqb (hex_value (hex_digit n)) n) 16 tt n l

hex_is : (n : ℕ) → n < 16 → T (is_hex (hex_digit n))
hex_is n l = and_left (is_hex (hex_digit n)) (eqb (hex_value (hex_digit n)) n) (hex_digit_lem n l)

hex_value_lem : (n : ℕ) → n < 16 → hex_value (hex_digit n) ≡ n
hex_value_lem n l = eqb→eq (hex_value (hex_digit n)) n (and_right (is_hex (hex_digit n)) (eqb (hex_value (hex_digit n)) n) (hex_digit_lem n l))

-- The four digits of a unit come to it.
unit_is : (u : ℕ) → u < 65536 → Is (hex_unit (hex_digit (u / 4096 % 16)) (hex_digit (u / 256 % 16)) (hex_digit (u / 16 % 16)) (hex_digit (u % 16))) u
unit_is u l =
    rw (hex_value_lem (u / 4096 % 16) (omega arith), hex_value_lem (u / 256 % 16) (omega arith), hex_value_lem (u / 16 % 16) (omega arith), hex_value_lem (u % 16) (omega arith))
    (let a : u / 256 ≡ u / 16 / 16 = omega arith in
    let b : u / 4096 ≡ u / 16 / 16 / 16 = omega arith in
    let c : u / 16 ≡ 16 * (u / 16 / 16) + u / 16 % 16 = omega arith in
    let d : u / 16 / 16 ≡ 16 * (u / 16 / 16 / 16) + u / 16 / 16 % 16 = omega arith in
    let f : u / 256 % 16 ≡ u / 16 / 16 % 16 = ap (λ x. x % 16) a in
    let g : u / 4096 % 16 ≡ u / 16 / 16 / 16 = omega arith in
    subst (Is _) (let e : 16 * (16 * (16 * (u / 4096 % 16) + u / 256 % 16) + u / 16 % 16) + u % 16 ≡ u = omega arith in e) Is.is)

-- A unit that is written plain is read plain, and one that is written behind a backslash stands for itself.
bare_plain : (u : ℕ) → T (is_bare u) → T (is_plain u)
unfolding each
bare_plain u t =
    let l : u ≤ 0x7e = leb→le u 0x7e (and_right (leb 0x20 u) (leb u 0x7e) (and_left (leb 0x20 u && leb u 0x7e) (not (eqb u (code "\""))) (and_left (leb 0x20 u && leb u 0x7e && not (eqb u (code "\""))) (not (eqb u (code "\\"))) t))) in
    either (not (is_bare u)) (is_plain u) (λ n. absurd (T_not (is_bare u) n t)) (λ p. p) (below (λ u. not (is_bare u) || is_plain u) 0x7f tt u (omega arith))

escape_is : (u : ℕ) → T (eqb u (code "\"") || eqb u (code "\\")) → T (is_escape u) × Is (escape_unit u) u
escape_is u = either (eqb u (code "\"")) (eqb u (code "\\")) (λ e. byte_at (code "\"") (λ u. T (is_escape u) × Is (escape_unit u) u) e (tt, Is.is)) (λ e. byte_at (code "\\") (λ u. T (is_escape u) × Is (escape_unit u) u) e (tt, Is.is))

-- The parts of a text that aren't numbers: strings, and fixed words.
chars_back : {us : Units} → Units16 us → (p : ℕ) (o : Bytes) → (q : ℕ) × Chars house (from p (put_units us (code "\"" ∷ o))) (from q o) us
unfolding put_units put_unit
chars_back Units16.none p o = (suc p, Chars.close)
chars_back (Units16.next {u = u} {us = us} l us16) p o = by (is_bare u) (eqb u (code "\"") || eqb u (code "\\")) refl refl (λ p. chars_back us16 p o)
  where
    rest : Bytes
    rest = put_units us (code "\"" ∷ o)

    by : (a b : Bool) → is_bare u ≡ a → (eqb u (code "\"") || eqb u (code "\\")) ≡ b → ((p : ℕ) → (q : ℕ) × Chars house (from p rest) (from q o) us)
        → (q : ℕ) × Chars house (from p (elim a as (λ _. Bytes) [
          | true ↦ u ∷ rest
          | false ↦ elim b as (λ _. Bytes) [
            | true ↦ code "\\" ∷ u ∷ rest
            | false ↦ code "\\" ∷ code "u" ∷ hex_digit (u / 4096 % 16) ∷ hex_digit (u / 256 % 16) ∷ hex_digit (u / 16 % 16) ∷ hex_digit (u % 16) ∷ rest
          ]
        ]))
        (from q o) (u ∷ us)
    by true b e f r = let (q, x) = r (suc p) in (q, Chars.plain (bare_plain u (is_true e)) x)
    by false true e f r = let (q, x) = r (suc (suc p)) in let (t, s) = escape_is u (is_true f) in (q, Chars.escape (Escape.short t s x))
    by false false e f r =
        let (q, x) = r (suc (suc (suc (suc (suc (suc p)))))) in
        (q, Chars.escape (Escape.unit (hex_is (u / 4096 % 16) (omega arith)) (hex_is (u / 256 % 16) (omega arith)) (hex_is (u / 16 % 16) (omega arith)) (hex_is (u % 16) (omega arith)) (unit_is u l) x))

word_back : (ks : Bytes) (p : ℕ) (o : Bytes) → (q : ℕ) × Word ks (from p (ks ++ o)) (from q o)
word_back [] p o = (p, Word.done)
word_back (k ∷ ks) p o = let (q, x) = word_back ks (suc p) o in (q, Word.byte x)

-- The bytes `i`, at the place `p` and inside `d` open containers, are read as this tree and leave `o`; so with what
-- stands behind `[`, behind an element, behind `{`, in a member's place, and behind a member.
abbrev Back : ℕ → ℕ → Bytes → Bytes → Tree → Type 0
Back d p i o t = (q : ℕ) × (v : Node) × Value house d (from p i) (from q o) v × (tree v ≡ t)

abbrev BackArray : ℕ → ℕ → Bytes → Bytes → Trees → Type 0
BackArray d p i o ts = (q : ℕ) × (vs : Nodes) × Array house d (from p i) (from q o) vs × (trees vs ≡ ts)

abbrev BackElements : ℕ → ℕ → Bytes → Bytes → Trees → Type 0
BackElements d p i o ts = (q : ℕ) × (vs : Nodes) × Elements house d (from p i) (from q o) vs × (trees vs ≡ ts)

abbrev BackObject : ℕ → ℕ → Bytes → Bytes → Pairs → Type 0
BackObject d p i o ps = (q : ℕ) × (ms : Members) × Object house d (from p i) (from q o) ms × (pairs ms ≡ ps)

abbrev BackMember : ℕ → List Units → ℕ → Bytes → Bytes → Pairs → Type 0
BackMember d ns p i o ps = (q : ℕ) × (ms : Members) × Member house d ns (from p i) (from q o) ms × (pairs ms ≡ ps)

abbrev BackRest : ℕ → List Units → ℕ → Bytes → Bytes → Pairs → Type 0
BackRest d ns p i o ps = (q : ℕ) × (ms : Members) × Rest house d ns (from p i) (from q o) ms × (pairs ms ≡ ps)

literal_back : {d : ℕ} (w : Literal) (p : ℕ) (o : Bytes) → Back d p (spelling w ++ o) o (Tree.literal w)
unfolding spelling tree
literal_back Literal.null p o = let (q, x) = word_back (ascii "null") p o in (q, Node.literal p q Literal.null, rule.null x, refl)
literal_back Literal.true p o = let (q, x) = word_back (ascii "true") p o in (q, Node.literal p q Literal.true, rule.true x, refl)
literal_back Literal.false p o = let (q, x) = word_back (ascii "false") p o in (q, Node.literal p q Literal.false, rule.false x, refl)

-- The gates of names and of depth are open.
name_open : (ns : List Units) (k : Units) (t : Tree) (ps : Pairs) → Apart ns (Pairs.pair k t ps) → T (house (Gate.name k ns))
unfolding house
name_open ns k t ps f = not_T (among k ns) (λ a. fresh_first k t ps k (f k a) refl)

depth_open : (d : ℕ) → d < max_depth → T (house (Gate.depth d))
unfolding house
depth_open d l = le→leb (suc d) max_depth l

-- No name stands before the first member; each member's name is one more before those behind it.
apart_none : (ps : Pairs) → Apart [] ps
unfolding among
apart_none ps k t = absurd t

apart_rest : (ns : List Units) (k : Units) (t : Tree) (ps : Pairs) → at ps k ≡ Maybe.none → Apart ns (Pairs.pair k t ps) → Apart (k ∷ ns) ps
unfolding among
apart_rest ns k t ps e f j a = by (same j k) refl a
  where
    by : (b : Bool) → same j k ≡ b → T (b || among j ns) → at ps j ≡ Maybe.none
    by true p t = ap (at ps) (same_is j k p) ∙ e
    by false p a = fresh_rest k t ps j (f j a)

-- A member is read back if its value is, and those behind it.
member_back : {d : ℕ} (ns : List Units) (k : Units) (t : Tree) (ps : Pairs) (p : ℕ) (r o : Bytes) → Units16 k → T (house (Gate.name k ns))
    → ((p : ℕ) → Back d p (put t r) r t) → ((p : ℕ) → BackRest d (k ∷ ns) p r o ps)
    → BackMember d ns p (code "\"" ∷ put_units k (code "\"" ∷ code ":" ∷ put t r)) o (Pairs.pair k t ps)
unfolding pairs
member_back ns k t ps p r o u h value rest =
    let (q, x) = chars_back u (suc p) (code ":" ∷ put t r) in
    let (q', v, y, e) = value (suc q) in
    let (q'', ms, z, e') = rest q' in
    (q'', Members.member p k v ms, rule.member_name x h (rule.named_colon y z), ap₂ (Pairs.pair k) e e')

-- A value, and what stands in it.
mutual
  unfolding put tree

  value_back : {d : ℕ} {t : Tree} → Keeps d t → (p : ℕ) (o : Bytes) → Back d p (put t o) o t
  value_back (Keeps.literal {w = w}) p o = literal_back w p o
  value_back (Keeps.string {us = us} u) p o = let (q, x) = chars_back u (suc p) o in (q, Node.string p q us, rule.string x, refl)
  value_back (Keeps.number {x = x} n) p o = let (q, y) = number_back n p o in (q, Node.number p q x, rule.number y, refl)
  value_back (Keeps.array {d = d} l ks) p o = let (q, vs, x, e) = array_back ks (suc p) o in (q, Node.array p q vs, rule.array (depth_open d l) x, ap Tree.array e)
  value_back (Keeps.object {d = d} l ks) p o = let (q, ms, x, e) = object_back ks (suc p) o in (q, Node.object p q ms, rule.object (depth_open d l) x, ap Tree.object e)

  array_back : {d : ℕ} {ts : Trees} → KeepsAll d ts → (p : ℕ) (o : Bytes) → BackArray d p (put_array ts o) o ts
  array_back KeepsAll.nil p o = (suc p, Nodes.nil, rule.array_close, refl)
  array_back (KeepsAll.cons {ts = ts} k ks) p o =
      let (q, v, x, e) = value_back k p (put_elements ts o) in
      let (r, vs, y, f) = elements_back ks q o in
      (r, Nodes.cons v vs, rule.array_first x y, ap₂ Trees.cons e f)

  elements_back : {d : ℕ} {ts : Trees} → KeepsAll d ts → (p : ℕ) (o : Bytes) → BackElements d p (put_elements ts o) o ts
  elements_back KeepsAll.nil p o = (suc p, Nodes.nil, rule.elements_close, refl)
  elements_back (KeepsAll.cons {ts = ts} k ks) p o =
      let (q, v, x, e) = value_back k (suc p) (put_elements ts o) in
      let (r, vs, y, f) = elements_back ks q o in
      (r, Nodes.cons v vs, rule.elements_comma x y, ap₂ Trees.cons e f)

  object_back : {d : ℕ} {ps : Pairs} → KeepsPairs d ps → (p : ℕ) (o : Bytes) → BackObject d p (put_object ps o) o ps
  object_back KeepsPairs.empty p o = (suc p, Members.empty, rule.object_close, refl)
  object_back (KeepsPairs.pair {k = k} {t = t} {ps = ps} u f y ks) p o =
      let h : Apart [] (Pairs.pair k t ps) = apart_none (Pairs.pair k t ps) in
      let (q, ms, x, e) = member_back [] k t ps p (put_rest ps o) o u (name_open [] k t ps h) (λ p. value_back y p (put_rest ps o)) (λ p. rest_back ks (k ∷ []) (apart_rest [] k t ps f h) p o) in
      (q, ms, rule.object_first x, e)

  rest_back : {d : ℕ} {ps : Pairs} → KeepsPairs d ps → (ns : List Units) → Apart ns ps → (p : ℕ) (o : Bytes) → BackRest d ns p (put_rest ps o) o ps
  rest_back KeepsPairs.empty ns h p o = (suc p, Members.empty, rule.rest_close, refl)
  rest_back (KeepsPairs.pair {k = k} {t = t} {ps = ps} u f y ks) ns h p o =
      let (q, ms, x, e) = member_back ns k t ps (suc p) (put_rest ps o) o u (name_open ns k t ps h) (λ p. value_back y p (put_rest ps o)) (λ p. rest_back ks (k ∷ ns) (apart_rest ns k t ps f h) p o) in
      (q, ms, rule.rest_comma x, e)

pub put_text : {t : Tree} → Keeps 0 t → (v : Node) × Text house (put t []) v × (tree v ≡ t)
put_text k = let (q, v, x, e) = value_back k 0 [] in (v, Text.text x End.end, e)
