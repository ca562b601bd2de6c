-- Where values stand: each between its own two offsets, and all of them inside the text. So each word of a table is at
-- most the length of its text, or stands for no name.
use Prim.Native.Nat.{◌+◌, ◌<◌, ◌^◌, ◌≤◌, suc, ℕ}
use Rattle.text.proofs.Every.{Every, every_append, every_follows}
use Rattle.text.proofs.Takes.{chars_take, left, number_takes, place, value_takes, word_takes}
use Rattle.text.specs.Bytes.{Bytes, Source, Units}
use Rattle.text.specs.Ceilings.{Ceilings}
use Rattle.text.specs.Grammar.{Array, Elements, Member, Named, Object, Rest, Text, Value}
use Rattle.text.specs.Node.{Members, Node, Nodes}
use Rattle.text.specs.Table.{Words, records, records_members, records_all, size, size_all, size_members, table, unnamed}
use lib.ListN.{length}
use mathlib.Core.List.{List, [], ◌∷◌}
use mathlib.Core.Path.{◌≡◌, ap, refl, sym}
use native.Mathlib.Numerals.{add-one}
use native.Mathlib.Omega.{arith}
use Rattle.text.specs.Grammar as rule

-- The offsets of a value's first byte and of the byte behind its last.
unfoldable pub start : Node → ℕ
start (Node.literal p q w) = p
start (Node.string p q us) = p
start (Node.number p q x) = p
start (Node.array p q vs) = p
start (Node.object p q ms) = p

unfoldable pub end : Node → ℕ
end (Node.literal p q w) = q
end (Node.string p q us) = q
end (Node.number p q x) = q
end (Node.array p q vs) = q
end (Node.object p q ms) = q

-- The record of a value comes first among its words.
pub head_words : (v : Node) (m k : ℕ) → (r : Words) × (records v m k ≡ start v ∷ end v ∷ m ∷ (k + size v) ∷ r)
unfolding records size start end
head_words (Node.literal p q w) m k = ([], ap (λ x. p ∷ q ∷ m ∷ x ∷ []) (sym (add-one k)))
head_words (Node.string p q us) m k = ([], ap (λ x. p ∷ q ∷ m ∷ x ∷ []) (sym (add-one k)))
head_words (Node.number p q x) m k = ([], ap (λ x. p ∷ q ∷ m ∷ x ∷ []) (sym (add-one k)))
head_words (Node.array p q vs) m k = (_, refl)
head_words (Node.object p q ms) m k = (_, refl)

-- Every value takes at least a byte of its own.
pub text_size : {C : Ceilings} {t : Bytes} {v : Node} → Text C t v → size v ≤ length t
text_size (Text.text x e) = omega (arith, value_takes x)

-- A value starts where its rule is called or behind the whitespace there, and ends where the rule leaves off.
pub value_stands : {C : Ceilings} {d : ℕ} {i o : Source} {v : Node} → Value C d i o v → (place i ≤ start v) × (start v < end v) × (end v ≡ place o)
unfolding start end size
value_stands (rule.value_space w x) = omega (arith, value_stands x)
value_stands (rule.null w) = omega (arith, word_takes w)
value_stands (rule.true w) = omega (arith, word_takes w)
value_stands (rule.false w) = omega (arith, word_takes w)
value_stands (rule.string x) = omega (arith, chars_take x)
value_stands (rule.number x) = omega (arith, number_takes x)
value_stands (rule.array t x) = omega (arith, value_takes (rule.array t x))
value_stands (rule.object t x) = omega (arith, value_takes (rule.object t x))

-- Each value in a node has a byte and ends at `n` or before, and each name's quote stands before `n`.
unfoldable mutual
  pub Inside : ℕ → Node → Type 0
  Inside n (Node.literal p q w) = (p < q) × (q ≤ n)
  Inside n (Node.string p q us) = (p < q) × (q ≤ n)
  Inside n (Node.number p q x) = (p < q) × (q ≤ n)
  Inside n (Node.array p q vs) = (p < q) × (q ≤ n) × InsideAll n vs
  Inside n (Node.object p q ms) = (p < q) × (q ≤ n) × InsideMembers n ms

  pub InsideAll : ℕ → Nodes → Type 0
  InsideAll n Nodes.nil = Unit {0}
  InsideAll n (Nodes.cons v vs) = Inside n v × InsideAll n vs

  pub InsideMembers : ℕ → Members → Type 0
  InsideMembers n Members.empty = Unit {0}
  InsideMembers n (Members.member q us v ms) = (q < n) × Inside n v × InsideMembers n ms

pub inside_span : {n : ℕ} (v : Node) → Inside n v → (start v < end v) × (end v ≤ n)
unfolding Inside start end
inside_span (Node.literal p q w) x = x
inside_span (Node.string p q us) x = x
inside_span (Node.number p q y) x = x
inside_span (Node.array p q vs) (a, b, _) = (a, b)
inside_span (Node.object p q ms) (a, b, _) = (a, b)

-- What is read from bytes that end at `n` or before is inside.
mutual
  unfolding Inside size

  value_inside : {C : Ceilings} {n d : ℕ} {i o : Source} {v : Node} → Value C d i o v → place i + left i ≤ n → Inside n v
  value_inside (rule.value_space w x) h = value_inside x (omega arith)
  value_inside (rule.null w) h = omega (arith, word_takes w)
  value_inside (rule.true w) h = omega (arith, word_takes w)
  value_inside (rule.false w) h = omega (arith, word_takes w)
  value_inside (rule.string x) h = omega (arith, chars_take x)
  value_inside (rule.number x) h = omega (arith, number_takes x)
  value_inside (rule.array t x) h = let s = value_takes (rule.array t x) in (omega arith, omega arith, array_inside x (omega arith))
  value_inside (rule.object t x) h = let s = value_takes (rule.object t x) in (omega arith, omega arith, object_inside x (omega arith))

  array_inside : {C : Ceilings} {n d : ℕ} {i o : Source} {vs : Nodes} → Array C d i o vs → place i + left i ≤ n → InsideAll n vs
  array_inside (rule.array_space w x) h = array_inside x (omega arith)
  array_inside rule.array_close h = tt
  array_inside (rule.array_first x y) h = (value_inside x h, elements_inside y (omega (arith, value_takes x)))

  elements_inside : {C : Ceilings} {n d : ℕ} {i o : Source} {vs : Nodes} → Elements C d i o vs → place i + left i ≤ n → InsideAll n vs
  elements_inside (rule.elements_space w x) h = elements_inside x (omega arith)
  elements_inside rule.elements_close h = tt
  elements_inside (rule.elements_comma x y) h = (value_inside x (omega arith), elements_inside y (omega (arith, value_takes x)))

  object_inside : {C : Ceilings} {n d : ℕ} {i o : Source} {ms : Members} → Object C d i o ms → place i + left i ≤ n → InsideMembers n ms
  object_inside (rule.object_space w x) h = object_inside x (omega arith)
  object_inside rule.object_close h = tt
  object_inside (rule.object_first x) h = member_inside x h

  member_inside : {C : Ceilings} {n d : ℕ} {ns : List Units} {i o : Source} {ms : Members} → Member C d ns i o ms → place i + left i ≤ n → InsideMembers n ms
  member_inside (rule.member_space w x) h = member_inside x (omega arith)
  member_inside (rule.member_name s t x) h = named_inside x (omega arith) (omega (arith, chars_take s))

  named_inside : {C : Ceilings} {n d q : ℕ} {ns : List Units} {us : Units} {i o : Source} {ms : Members}
      → Named C d ns q us i o ms → q < n → place i + left i ≤ n → InsideMembers n ms
  named_inside (rule.named_space w x) l h = named_inside x l (omega arith)
  named_inside (rule.named_colon x y) l h = (l, value_inside x (omega arith), rest_inside y (omega (arith, value_takes x)))

  rest_inside : {C : Ceilings} {n d : ℕ} {ns : List Units} {i o : Source} {ms : Members} → Rest C d ns i o ms → place i + left i ≤ n → InsideMembers n ms
  rest_inside (rule.rest_space w x) h = rest_inside x (omega arith)
  rest_inside rule.rest_close h = tt
  rest_inside (rule.rest_comma x) h = member_inside x (omega arith)

pub text_inside : {C : Ceilings} {t : Bytes} {v : Node} → Text C t v → Inside (length t) v
text_inside (Text.text x e) = value_inside x (omega arith)

-- A word that is at most `n`, or stands for no name.
pub data Fits (n : ℕ) : ℕ → Type 0 where
  most : {x : ℕ} → x ≤ n → Fits n x
  nameless : Fits n unnamed

record_fits : {n p q m k : ℕ} (l : Words) → p < q → q ≤ n → Fits n m → k ≤ n → Every (Fits n) l → Every (Fits n) (p ∷ q ∷ m ∷ k ∷ l)
unfolding Every
record_fits {p = p} l a b f h x = (Fits.most {x = p} (omega arith), (Fits.most b, (f, (Fits.most h, x))))

-- The records of what is inside, with numbers that are, and behind a name that is.
mutual
  unfolding records size Inside Every

  records_fit : {n m : ℕ} (v : Node) (k : ℕ) → Inside n v → Fits n m → k + size v ≤ n → Every (Fits n) (records v m k)
  records_fit (Node.literal p q w) k (a, b) f h = record_fits [] a b f (omega arith) tt
  records_fit (Node.string p q us) k (a, b) f h = record_fits [] a b f (omega arith) tt
  records_fit (Node.number p q x) k (a, b) f h = record_fits [] a b f (omega arith) tt
  records_fit (Node.array p q vs) k (a, b, c) f h = record_fits (records_all vs (suc k)) a b f h (records_all_fit vs (suc k) c (omega arith))
  records_fit (Node.object p q ms) k (a, b, c) f h = record_fits (records_members ms (suc k)) a b f h (records_members_fit ms (suc k) c (omega arith))

  records_all_fit : {n : ℕ} (vs : Nodes) (k : ℕ) → InsideAll n vs → k + size_all vs ≤ n → Every (Fits n) (records_all vs k)
  records_all_fit Nodes.nil k x h = tt
  records_all_fit {n} (Nodes.cons v vs) k (a, b) h =
      every_append (Fits n) (records v unnamed k) (records_all vs (k + size v)) (records_fit v k a Fits.nameless (omega arith)) (records_all_fit vs (k + size v) b (omega arith))

  records_members_fit : {n : ℕ} (ms : Members) (k : ℕ) → InsideMembers n ms → k + size_members ms ≤ n → Every (Fits n) (records_members ms k)
  records_members_fit Members.empty k x h = tt
  records_members_fit {n} (Members.member q us v ms) k (l, a, b) h =
      every_append (Fits n) (records v q k) (records_members ms (k + size v)) (records_fit v k a (Fits.most (omega arith)) (omega arith)) (records_members_fit ms (k + size v) b (omega arith))

pub table_inside : {C : Ceilings} {t : Bytes} {v : Node} → Text C t v → Every (Fits (length t)) (table v)
unfolding table
table_inside {v = v} x = records_fit v 0 (text_inside x) Fits.nameless (omega (arith, text_size x))

-- So every word has at most 32 bits.
pub table_32 : {C : Ceilings} {t : Bytes} {v : Node} → Text C t v → length t < 2 ^ 32 → Every (λ x. x < 2 ^ 32) (table v)
table_32 {t = t} {v = v} x h = every_follows (Fits (length t)) (λ x. x < 2 ^ 32) by (table v) (table_inside x)
  where
    by : (x : ℕ) → Fits (length t) x → x < 2 ^ 32
    by x (Fits.most l) = omega arith
    by x Fits.nameless = omega arith
