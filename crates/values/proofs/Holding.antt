-- The values of a text are held by the table that the reader leaves.
use Prim.Native.Char.{code}
use Prim.Native.Nat.{◌*◌, ◌+◌, ◌<◌, ◌≤◌, suc, ℕ}
use Rattle.entries.specs.Answer.{Read, Reading, max_text, over}
use Rattle.members.specs.Records.{max_records, word}
use Rattle.members.specs.Names.{name_at}
use Rattle.names.proofs.Spelling.{spelt}
use Rattle.names.specs.Units.{units}
use Rattle.spell.proofs.Meeting.{number_opens}
use Rattle.spell.specs.Scalars.{Scalar}
use Rattle.meaning.specs.Canonical.{spelling}
use Rattle.meaning.specs.Meaning.{Tree}
use Rattle.text.proofs.Offsets.{Inside, InsideAll, InsideMembers, end, head_words, inside_span, start, text_inside, text_size}
use Rattle.text.proofs.Records.{records_length, size_some, table_length}
use Rattle.text.proofs.Sources.{At, at_byte, at_drop, at_inside, at_next, chars_at, number_at, value_at}
use Rattle.text.proofs.Takes.{chars_take, place, value_takes}
use Rattle.text.specs.Bytes.{Bytes, Source, Units, from}
use Rattle.text.specs.Ceilings.{house}
use Rattle.text.specs.Decimal.{Decimal}
use Rattle.text.specs.Grammar.{Array, Elements, Member, Named, Object, Rest, Text, Value}
use Rattle.text.specs.Grammar as rule
use Rattle.text.specs.Node.{Literal, Members, Node, Nodes}
use Rattle.text.specs.Numbers.{Number}
use Rattle.text.specs.Strings.{Chars, Word}
use Rattle.text.specs.Table.{Words, records, records_all, records_members, size, size_all, size_members, table, unnamed}
use Rattle.values.proofs.Stretches.{Has, has_front, has_left, has_right}
use Rattle.values.specs.Children.{Child, elements, members}
use Rattle.values.specs.Held.{Held, HeldAll, Holds, Recorded, Spelt, Unlinked}
use lib.ListN.{drop, get_or, length, length-append, length-drop}
use lib.Seq.{get_or-drop}
use mathlib.Core.List.{List, ◌++◌, ◌∷◌}
use mathlib.Core.Path.{◌∙◌, ◌≡◌, ap, refl, subst, sym}
use native.Mathlib.Nat.{add-zero}
use native.Mathlib.Numerals.{add-one}
use native.Mathlib.Omega.{arith}

module _ (t : Bytes) (h : length t ≤ max_text) where
  -- A name, or a string, behind its quote.
  units_at : {p : ℕ} {i : Bytes} {o : Source} {us : Units} → At t (from p (code "\"" ∷ i)) → Chars house (from (suc p) i) o us → name_at t p ≡ us
  units_at {p} {o = from q o} e c = ap (λ n. units (drop n t)) (add-one p) ∙ ap units (sym (at_drop (at_next t e))) ∙ spelt c

  -- The names of an object stand in the text in their order.
  mutual
    object_names : {d b : ℕ} {i o : Source} {ms : Members} → Object house d i o ms → At t i → b ≤ place i → Spelt t b ms
    object_names (rule.object_space x y) e l = object_names y (at_next t e) (omega arith)
    object_names rule.object_close e l = Spelt.none
    object_names (rule.object_first x) e l = member_names x e l

    member_names : {d b : ℕ} {ns : List Units} {i o : Source} {ms : Members} → Member house d ns i o ms → At t i → b ≤ place i → Spelt t b ms
    member_names (rule.member_space x y) e l = member_names y (at_next t e) (omega arith)
    member_names (rule.member_name c g x) e l =
        named_names x (chars_at t c (at_next t e)) l (at_inside t e) (units_at e c) (omega (arith, chars_take c))

    named_names : {d b q : ℕ} {ns : List Units} {us : Units} {i o : Source} {ms : Members} → Named house d ns q us i o ms → At t i → b ≤ q → q < length t → name_at t q ≡ us → q < place i → Spelt t b ms
    named_names (rule.named_space x y) e l m n r = named_names y (at_next t e) l m n (omega arith)
    named_names (rule.named_colon x y) e l m n r =
        Spelt.more l m (omega arith) n (rest_names y (value_at t x (at_next t e)) (omega (arith, value_takes x)))

    rest_names : {d b : ℕ} {ns : List Units} {i o : Source} {ms : Members} → Rest house d ns i o ms → At t i → b ≤ place i → Spelt t b ms
    rest_names (rule.rest_space x y) e l = rest_names y (at_next t e) (omega arith)
    rest_names rule.rest_close e l = Spelt.none
    rest_names (rule.rest_comma x) e l = member_names x (at_next t e) (omega arith)

module _ (t : Bytes) (w : Words) (h : length t ≤ max_text) where
  -- What the record of a value says.
  record Seated (v : Node) (m k : ℕ) : Type 0 where
    pub recorded : Recorded w k (start v) (end v) (k + size v)
    pub inside : start v < length t
    pub unlinked : Unlinked w k
    pub name : word w k 2 ≡ m

  -- The table has room for records up to `n`.
  abbrev Fit : ℕ → Type 0
  Fit n = (n ≤ max_records) × (4 * n ≤ length w)

  seated : (v : Node) (m k : ℕ) → Inside (length t) v → Has w (4 * k) (records v m k) → Fit (k + size v) → Seated v m k
  unfolding Has
  seated v m k s a f =
      let (r, e) = head_words v m k in
      let (a₀, (a₁, (a₂, (a₃, _)))) = subst (Has w (4 * k)) e a in
      let (b, c) = inside_span v s in
      let n = size_some v in
      let i₀ : 4 * k + 0 ≡ 4 * k = omega arith in
      let i₁ : 4 * k + 1 ≡ suc (4 * k) = omega arith in
      let i₂ : 4 * k + 2 ≡ suc (suc (4 * k)) = omega arith in
      let i₃ : 4 * k + 3 ≡ suc (suc (suc (4 * k))) = omega arith in
      let w₀ : word w k 0 ≡ start v = ap (λ i. get_or w i 0) i₀ ∙ a₀ in
      let w₁ : word w k 1 ≡ end v = ap (λ i. get_or w i 0) i₁ ∙ a₁ in
      record {
        recorded = record {
          first = omega (arith, w₀);
          last = omega (arith, w₁);
          next = ap (λ i. get_or w i 0) i₃ ∙ a₃;
          onward = omega arith;
          long = f.1;
          few = f.0;
        };
        inside = omega arith;
        unlinked = (omega (arith, w₀), omega (arith, w₁));
        name = ap (λ i. get_or w i 0) i₂ ∙ a₂;
      }

  flat : {v : Node} {m k : ℕ} → Seated v m k → Holds t w k v → Held t w k v
  flat s x = Held.held s.recorded s.inside x

  -- The first byte of a literal.
  first_byte : {p k : ℕ} {ks i : Bytes} {o : Source} → At t (from p i) → Word (k ∷ ks) (from p i) o → get_or t p 0 ≡ k
  first_byte e (Word.byte x) = at_byte t e

  literal_held : (l : Literal) {p q : ℕ} {i : Bytes} {o : Source} → At t (from p i) → Word (spelling l) (from p i) o → Scalar t p q (Tree.literal l)
  unfolding spelling
  literal_held Literal.null e x = Scalar.word {l = Literal.null} (first_byte e x)
  literal_held Literal.true e x = Scalar.word {l = Literal.true} (first_byte e x)
  literal_held Literal.false e x = Scalar.word {l = Literal.false} (first_byte e x)

  number_held : {p q : ℕ} {i o : Bytes} {x : Decimal} → At t (from p i) → p < q → q ≤ length t → Number house (from p i) (from q o) x → Scalar t p q (Tree.number x)
  number_held {p} {q} {i} {o} {x} e l m n =
      let z : Number house (from p (drop p t)) (from q o) x = subst (λ i. Number house (from p i) (from q o) x) (at_drop e) n in
      Scalar.number (simp (get_or-drop, add-zero) at (number_opens z).1) (omega arith) m
      (subst (λ o. Number house (from p (drop p t)) (from q o) x) (at_drop (number_at t n e)) z)

  -- From the words of several values to those of the first and of the rest.
  first_fit : (k n m : ℕ) → Fit (k + (n + m)) → Fit (k + n)
  first_fit k n m (a, b) = (omega arith, omega arith)

  rest_fit : (k n m : ℕ) → Fit (k + (n + m)) → Fit (k + n + m)
  rest_fit k n m = subst Fit (let e : k + (n + m) ≡ k + n + m = omega arith in e)

  inner_fit : (k n : ℕ) → Fit (k + suc n) → Fit (suc k + n)
  inner_fit k n = subst Fit (let e : k + suc n ≡ suc k + n = omega arith in e)

  inner : (k p q m n : ℕ) (ws : Words) → Has w (4 * k) (p ∷ q ∷ m ∷ n ∷ ws) → Has w (4 * suc k) ws
  unfolding Has
  inner k p q m n ws (_, (_, (_, (_, a)))) = subst (λ i. Has w i ws) (let e : suc (suc (suc (suc (4 * k)))) ≡ 4 * suc k = omega arith in e) a

  rest_has : (v : Node) (m k : ℕ) (ws : Words) → Has w (4 * k) (records v m k ++ ws) → Has w (4 * (k + size v)) ws
  rest_has v m k ws a =
      subst (λ i. Has w i ws) (let e : 4 * k + length (records v m k) ≡ 4 * (k + size v) = omega (arith, records_length v m k) in e) (has_right w (4 * k) (records v m k) ws a)

  -- One value more before others.
  more : (v : Node) (m k : ℕ) {cs : List Child} → Inside (length t) v → Has w (4 * k) (records v m k) → Fit (k + size v) → Held t w k v → HeldAll t w (k + size v) cs
      → HeldAll t w k (Child.child m v ∷ cs)
  more v m k s a f x y = let z = seated v m k s a f in HeldAll.more x z.unlinked z.name y

  mutual
    unfolding records size Inside elements members spelling

    value_held : {d : ℕ} {i o : Source} {v : Node} → Value house d i o v → At t i → Inside (length t) v → (m k : ℕ) → Has w (4 * k) (records v m k) → Fit (k + size v) → Held t w k v
    value_held (rule.value_space x y) e s m k a f = value_held y (at_next t e) s m k a f
    value_held (rule.null {p = p} {q = q} x) e s m k a f = flat (seated (Node.literal p q Literal.null) m k s a f) (Holds.literal (literal_held Literal.null e x))
    value_held (rule.true {p = p} {q = q} x) e s m k a f = flat (seated (Node.literal p q Literal.true) m k s a f) (Holds.literal (literal_held Literal.true e x))
    value_held (rule.false {p = p} {q = q} x) e s m k a f = flat (seated (Node.literal p q Literal.false) m k s a f) (Holds.literal (literal_held Literal.false e x))
    value_held (rule.string {p = p} {q = q} {us = us} x) e s m k a f = flat (seated (Node.string p q us) m k s a f) (Holds.string (Scalar.string (at_byte t e) (units_at t h e x)))
    value_held (rule.number {p = p} {q = q} {x = y} x) e s m k a f = flat (seated (Node.number p q y) m k s a f) (Holds.number (number_held e s.0 s.1 x))
    value_held (rule.array {p = p} {q = q} {vs = vs} g x) e s m k a f =
        flat (seated (Node.array p q vs) m k s a f) (Holds.array (at_byte t e) (array_held x (at_next t e) s.2 (suc k) (inner k p q m (k + suc (size_all vs)) (records_all vs (suc k)) a) (inner_fit k (size_all vs) f)))
    value_held (rule.object {p = p} {q = q} {ms = ms} g x) e s m k a f =
        flat (seated (Node.object p q ms) m k s a f)
        (Holds.object (at_byte t e) (object_names t h x (at_next t e) (omega arith)) (object_held x (at_next t e) s.2 (suc k) (inner k p q m (k + suc (size_members ms)) (records_members ms (suc k)) a) (inner_fit k (size_members ms) f)))

    array_held : {d : ℕ} {i o : Source} {vs : Nodes} → Array house d i o vs → At t i → InsideAll (length t) vs → (k : ℕ) → Has w (4 * k) (records_all vs k) → Fit (k + size_all vs) → HeldAll t w k (elements vs)
    array_held (rule.array_space x y) e s k a f = array_held y (at_next t e) s k a f
    array_held rule.array_close e s k a f = HeldAll.none
    array_held (rule.array_first {v = v} {vs = vs} x y) e s k a f =
        let b = has_left w (4 * k) (records v unnamed k) (records_all vs (k + size v)) a in
        more v unnamed k s.0 b (first_fit k (size v) (size_all vs) f) (value_held x e s.0 unnamed k b (first_fit k (size v) (size_all vs) f))
        (elements_held y (value_at t x e) s.1 (k + size v) (rest_has v unnamed k (records_all vs (k + size v)) a) (rest_fit k (size v) (size_all vs) f))

    elements_held : {d : ℕ} {i o : Source} {vs : Nodes} → Elements house d i o vs → At t i → InsideAll (length t) vs → (k : ℕ) → Has w (4 * k) (records_all vs k) → Fit (k + size_all vs) → HeldAll t w k (elements vs)
    elements_held (rule.elements_space x y) e s k a f = elements_held y (at_next t e) s k a f
    elements_held rule.elements_close e s k a f = HeldAll.none
    elements_held (rule.elements_comma {v = v} {vs = vs} x y) e s k a f =
        let b = has_left w (4 * k) (records v unnamed k) (records_all vs (k + size v)) a in
        more v unnamed k s.0 b (first_fit k (size v) (size_all vs) f) (value_held x (at_next t e) s.0 unnamed k b (first_fit k (size v) (size_all vs) f))
        (elements_held y (value_at t x (at_next t e)) s.1 (k + size v) (rest_has v unnamed k (records_all vs (k + size v)) a) (rest_fit k (size v) (size_all vs) f))

    object_held : {d : ℕ} {i o : Source} {ms : Members} → Object house d i o ms → At t i → InsideMembers (length t) ms → (k : ℕ) → Has w (4 * k) (records_members ms k) → Fit (k + size_members ms) → HeldAll t w k (members ms)
    object_held (rule.object_space x y) e s k a f = object_held y (at_next t e) s k a f
    object_held rule.object_close e s k a f = HeldAll.none
    object_held (rule.object_first x) e s k a f = member_held x e s k a f

    member_held : {d : ℕ} {ns : List Units} {i o : Source} {ms : Members} → Member house d ns i o ms → At t i → InsideMembers (length t) ms → (k : ℕ) → Has w (4 * k) (records_members ms k) → Fit (k + size_members ms) → HeldAll t w k (members ms)
    member_held (rule.member_space x y) e s k a f = member_held y (at_next t e) s k a f
    member_held (rule.member_name c g x) e s k a f = named_held x (chars_at t c (at_next t e)) s k a f

    named_held : {d q : ℕ} {ns : List Units} {us : Units} {i o : Source} {ms : Members} → Named house d ns q us i o ms → At t i → InsideMembers (length t) ms → (k : ℕ) → Has w (4 * k) (records_members ms k) → Fit (k + size_members ms) → HeldAll t w k (members ms)
    named_held (rule.named_space x y) e s k a f = named_held y (at_next t e) s k a f
    named_held (rule.named_colon {q = q} {v = v} {ms = ms} x y) e s k a f =
        let b = has_left w (4 * k) (records v q k) (records_members ms (k + size v)) a in
        more v q k s.1 b (first_fit k (size v) (size_members ms) f) (value_held x (at_next t e) s.1 q k b (first_fit k (size v) (size_members ms) f))
        (rest_held y (value_at t x (at_next t e)) s.2 (k + size v) (rest_has v q k (records_members ms (k + size v)) a) (rest_fit k (size v) (size_members ms) f))

    rest_held : {d : ℕ} {ns : List Units} {i o : Source} {ms : Members} → Rest house d ns i o ms → At t i → InsideMembers (length t) ms → (k : ℕ) → Has w (4 * k) (records_members ms k) → Fit (k + size_members ms) → HeldAll t w k (members ms)
    rest_held (rule.rest_space x y) e s k a f = rest_held y (at_next t e) s k a f
    rest_held rule.rest_close e s k a f = HeldAll.none
    rest_held (rule.rest_comma x) e s k a f = member_held x (at_next t e) s k a f

-- The reader's table holds the value of its text.
pub text_held : {t : Bytes} (w : Words) {v : Node} → length t ≤ max_text → 4 * length t ≤ length w → Text house t v → Held t (over (table v) w) 0 v
unfolding table
text_held {t} w {v} h l (Text.text x e) =
    let n = text_size (Text.text x e) in
    value_held t (over (table v) w) h x (At.at refl) (text_inside (Text.text x e)) unnamed 0 (has_front (table v) (drop (length (table v)) w))
    (omega arith, omega (arith, length-append (table v) (drop (length (table v)) w), length-drop (length (table v)) w, table_length v))

pub reading_held : {k : ℕ} {t : Bytes} {w : Words} {v : Node} {w' : Words} → Reading k t w (Read.ready v w') → Held t w' 0 v
reading_held {w = w} (Reading.accepted l m x) = text_held w l m x
