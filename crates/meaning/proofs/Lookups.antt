-- What a pointer finds: it depends on the meaning only, and the number it answers is that of the value's record.
use Prim.Native.Nat.{◌*◌, ◌+◌, ◌<◌, suc, zero, ℕ}
use Rattle.meaning.specs.Lookup.{Seen, by_name, child, is_index, nth, resolve}
use Rattle.meaning.specs.Meaning.{Maybe, Meaning, Meanings, at, mean, meaning, means, pairs, tree, trees}
use Rattle.meaning.specs.Pointer.{Token}
use Rattle.text.proofs.Offsets.{Inside, InsideAll, InsideMembers, end, head_words, start}
use Rattle.text.proofs.Records.{records_length, table_length}
use Rattle.text.specs.Bytes.{Units, value_from}
use Rattle.text.specs.Ceilings.{same}
use Rattle.text.specs.Node.{Members, Node, Nodes}
use Rattle.text.specs.Table.{Words, record_words, records, records_members, records_all, size, size_all, size_members, table, unnamed}
use lib.ListN.{get_or, length, length-append}
use lib.Seq.{get_or-append-add}
use mathlib.Core.Bool.{Bool, false, true}
use mathlib.Core.List.{List, [], ◌++◌, ◌∷◌, append_assoc, append-nil}
use mathlib.Core.Path.{◌∙◌, ◌≡◌, ap, refl, subst, sym}
use native.Mathlib.Omega.{arith}

-- What a pointer names in a meaning: a part of it, or the place of the first token that names nothing.
pub data SeenMeaning : Type 0 where
  found : Meaning → SeenMeaning
  lost : ℕ → SeenMeaning

unfoldable pub seen_meaning : Seen → SeenMeaning
seen_meaning (Seen.found n v) = SeenMeaning.found (meaning v)
seen_meaning (Seen.lost p) = SeenMeaning.lost p

-- The same look-up over meanings.
unfoldable pub or_lost : ℕ → Maybe → SeenMeaning
or_lost p Maybe.none = SeenMeaning.lost p
or_lost p (Maybe.some m) = SeenMeaning.found m

unfoldable pub nth_meaning : ℕ → ℕ → Meanings → SeenMeaning
nth_meaning p i Meanings.nil = SeenMeaning.lost p
nth_meaning p zero (Meanings.cons m ms) = SeenMeaning.found m
nth_meaning p (suc i) (Meanings.cons m ms) = nth_meaning p i ms

unfoldable pub child_meaning : ℕ → Units → Meaning → SeenMeaning
unfolding nth_meaning or_lost
child_meaning p us (Meaning.literal w) = SeenMeaning.lost p
child_meaning p us (Meaning.string vs) = SeenMeaning.lost p
child_meaning p us (Meaning.number x) = SeenMeaning.lost p
child_meaning p us (Meaning.array ms) = elim (is_index us) [ true ↦ nth_meaning p (value_from 0 us) ms | false ↦ SeenMeaning.lost p ]
child_meaning p us (Meaning.object f) = or_lost p (f us)

unfoldable pub resolve_meaning : List Token → Meaning → SeenMeaning
unfolding child_meaning
resolve_meaning [] m = SeenMeaning.found m
resolve_meaning (Token.token p us ∷ ts) m = elim (child_meaning p us m) [ SeenMeaning.found w ↦ resolve_meaning ts w | SeenMeaning.lost q ↦ SeenMeaning.lost q ]

-- Two choices by one truth value are related where their branches are.
branches : {A B : Type 0} (R : A → B → Type 0) (b : Bool) {x y : A} {z w : B} → R x z → R y w
    → R (elim b as (λ _. A) [ true ↦ x | false ↦ y ]) (elim b as (λ _. B) [ true ↦ z | false ↦ w ])
branches R true h k = h
branches R false h k = k

name_means : (p : ℕ) (us : Units) (n : ℕ) (ms : Members) → seen_meaning (by_name p us n ms) ≡ or_lost p (at (pairs ms) us)
unfolding seen_meaning or_lost by_name at pairs
name_means p us n Members.empty = refl
name_means p us n (Members.member q k v ms) = branches (λ s m. seen_meaning s ≡ or_lost p m) (same us k) refl (name_means p us (n + size v) ms)

nth_means : (p i n : ℕ) (vs : Nodes) → seen_meaning (nth p i n vs) ≡ nth_meaning p i (means (trees vs))
unfolding seen_meaning nth nth_meaning means trees
nth_means p i n Nodes.nil = refl
nth_means p zero n (Nodes.cons v vs) = refl
nth_means p (suc i) n (Nodes.cons v vs) = nth_means p i (n + size v) vs

child_means : (p : ℕ) (us : Units) (n : ℕ) (v : Node) → seen_meaning (child p us n v) ≡ child_meaning p us (meaning v)
unfolding child child_meaning seen_meaning tree mean
child_means p us n (Node.literal a e w) = refl
child_means p us n (Node.string a e vs) = refl
child_means p us n (Node.number a e x) = refl
child_means p us n (Node.array a e vs) = branches (λ s m. seen_meaning s ≡ m) (is_index us) (nth_means p (value_from 0 us) (suc n) vs) refl
child_means p us n (Node.object a e ms) = name_means p us (suc n) ms

-- What a pointer finds in a text means what the text's meaning gives, and it is lost where the meaning loses it.
resolve_means : (ts : List Token) (n : ℕ) (v : Node) → seen_meaning (resolve ts n v) ≡ resolve_meaning ts (meaning v)
unfolding resolve resolve_meaning seen_meaning
resolve_means [] n v = refl
resolve_means (Token.token p us ∷ ts) n v = by (child p us n v) refl (λ m w. resolve_means ts m w)
  where
    by : (s : Seen) → child p us n v ≡ s → ((m : ℕ) (w : Node) → seen_meaning (resolve ts m w) ≡ resolve_meaning ts (meaning w))
        → seen_meaning (resolve (Token.token p us ∷ ts) n v) ≡ resolve_meaning (Token.token p us ∷ ts) (meaning v)
    by (Seen.found m w) e f = cc (child_means p us n v, f m w)
    by (Seen.lost q) e f = cc (child_means p us n v)

-- So a pointer names the same in every text of one meaning, ...
pub resolve_agrees : (ts : List Token) (v w : Node) → meaning v ≡ meaning w → seen_meaning (resolve ts 0 v) ≡ seen_meaning (resolve ts 0 w)
resolve_agrees ts v w e = resolve_means ts 0 v ∙ ap (resolve_meaning ts) e ∙ sym (resolve_means ts 0 w)

-- ... or is lost in each at the same place.
pub resolve_place : (ts : List Token) (v w : Node) {p : ℕ} → meaning v ≡ meaning w → resolve ts 0 v ≡ Seen.lost p → resolve ts 0 w ≡ Seen.lost p
unfolding seen_meaning
resolve_place ts v w {p} e h = by (resolve ts 0 v) (resolve ts 0 w) (resolve_agrees ts v w e) h
  where
    by : (s t : Seen) → seen_meaning s ≡ seen_meaning t → s ≡ Seen.lost p → t ≡ Seen.lost p
    by s (Seen.found n u) e h = cc
    by s (Seen.lost q) e h = cc

-- In the words `ws`, whose first record is number `k`, the records of `w` stand from number `m` on.
abbrev pub Held : Words → ℕ → Node → ℕ → Type 0
Held ws k w m = (q : ℕ) × (pre post : Words) × (ws ≡ pre ++ (records w q m ++ post)) × (length pre + record_words * k ≡ record_words * m)

unfoldable pub HeldSeen : Words → ℕ → Seen → Type 0
HeldSeen ws k (Seen.found m w) = Held ws k w m
HeldSeen ws k (Seen.lost p) = Unit {0}

held_first : (v : Node) (q n : ℕ) (r : Words) → Held (records v q n ++ r) n v n
held_first v q n r = (q, [], r, refl, omega arith)

-- What is held stays held where other words stand in front, or other words behind.
held_behind : (a : Words) (k m : ℕ) (ws : Words) (s : Seen) → length a + record_words * k ≡ record_words * m → HeldSeen ws m s → HeldSeen (a ++ ws) k s
unfolding HeldSeen
held_behind a k m ws (Seen.lost p) l h = tt
held_behind a k m ws (Seen.found j u) l (q, pre, post, e, l') =
    (q, a ++ pre, post, ap (λ z. a ++ z) e ∙ sym (append_assoc a pre (records u q j ++ post)), omega (arith, length-append a pre))

held_before : (b : Words) (k : ℕ) (ws : Words) (s : Seen) → HeldSeen ws k s → HeldSeen (ws ++ b) k s
unfolding HeldSeen
held_before b k ws (Seen.lost p) h = tt
held_before b k ws (Seen.found j u) (q, pre, post, e, l) = (q, pre, post ++ b, ap (λ z. z ++ b) e ∙ simp append_assoc, l)

held_later : (v : Node) (q n : ℕ) (r : Words) (s : Seen) → HeldSeen r (n + size v) s → HeldSeen (records v q n ++ r) n s
held_later v q n r s h = held_behind (records v q n) n (n + size v) r s (omega (arith, records_length v q n)) h

name_held : (p : ℕ) (us : Units) (n : ℕ) (ms : Members) → HeldSeen (records_members ms n) n (by_name p us n ms)
unfolding by_name records HeldSeen
name_held p us n Members.empty = tt
name_held p us n (Members.member q k v ms) =
    branches (λ s (_ : Unit {0}). HeldSeen (records_members (Members.member q k v ms) n) n s) (same us k)
    (held_first v q n (records_members ms (n + size v)))
    (held_later v q n (records_members ms (n + size v)) (by_name p us (n + size v) ms) (name_held p us (n + size v) ms))

nth_held : (p i n : ℕ) (vs : Nodes) → HeldSeen (records_all vs n) n (nth p i n vs)
unfolding nth records HeldSeen
nth_held p i n Nodes.nil = tt
nth_held p zero n (Nodes.cons v vs) = held_first v unnamed n (records_all vs (n + size v))
nth_held p (suc i) n (Nodes.cons v vs) = held_later v unnamed n (records_all vs (n + size v)) (nth p i (n + size v) vs) (nth_held p i (n + size v) vs)

child_held : (p : ℕ) (us : Units) (n : ℕ) (v : Node) (x : ℕ) → HeldSeen (records v x n) n (child p us n v)
unfolding child records HeldSeen
child_held p us n (Node.literal a e w) x = tt
child_held p us n (Node.string a e vs) x = tt
child_held p us n (Node.number a e y) x = tt
child_held p us n (Node.array a e vs) x =
    held_behind (a ∷ e ∷ x ∷ (n + suc (size_all vs)) ∷ []) n (suc n) (records_all vs (suc n)) (child p us n (Node.array a e vs)) (omega arith)
    (branches (λ s (_ : Unit {0}). HeldSeen (records_all vs (suc n)) (suc n) s) (is_index us) (nth_held p (value_from 0 us) (suc n) vs) tt)
child_held p us n (Node.object a e ms) x =
    held_behind (a ∷ e ∷ x ∷ (n + suc (size_members ms)) ∷ []) n (suc n) (records_members ms (suc n)) (by_name p us (suc n) ms) (omega arith) (name_held p us (suc n) ms)

-- The look-up's number counts records: the words from four times it on are the found value's own.
resolve_held : (ts : List Token) (n : ℕ) (v : Node) (x : ℕ) → HeldSeen (records v x n) n (resolve ts n v)
unfolding resolve HeldSeen
resolve_held [] n v x = (x, [], [], sym (append-nil (records v x n)), omega arith)
resolve_held (Token.token p us ∷ ts) n v x = by (child p us n v) (child_held p us n v x) (λ m w q. resolve_held ts m w q)
  where
    by : (s : Seen) → HeldSeen (records v x n) n s → ((m : ℕ) (w : Node) (q : ℕ) → HeldSeen (records w q m) m (resolve ts m w))
        → HeldSeen (records v x n) n (elim s as (λ _. Seen) [ Seen.found m w ↦ resolve ts m w | Seen.lost q ↦ Seen.lost q ])
    by (Seen.lost q) h f = tt
    by (Seen.found m w) (q, pre, post, e, l) f =
        rw e (held_behind pre n m (records w q m ++ post) (resolve ts m w) l (held_before post m (records w q m) (resolve ts m w) (f m w q)))

-- In the table of a whole text.
pub resolve_table : (ts : List Token) (v : Node) → HeldSeen (table v) 0 (resolve ts 0 v)
unfolding table
resolve_table ts v = resolve_held ts 0 v unnamed

-- The record that a look-up answers tells where the value stands.
pub found_span : (ts : List Token) (v : Node) {n : ℕ} {u : Node} → resolve ts 0 v ≡ Seen.found n u
    → (get_or (table v) (record_words * n) 0 ≡ start u) × (get_or (table v) (suc (record_words * n)) 0 ≡ end u)
unfolding HeldSeen
found_span ts v {n} {u} h =
    let (q, pre, post, e, l) = subst (HeldSeen (table v) 0) h (resolve_table ts v) in
    let (r, f) = head_words u q n in
    let rest : Words = start u ∷ end u ∷ q ∷ (n + size u) ∷ (r ++ post) in
    let word : (j k : ℕ) → k ≡ length pre + j → get_or (table v) k 0 ≡ get_or rest j 0 = λ j k i. cc (e, ap (λ z. z ++ post) f, get_or-append-add pre rest j 0) in
    (word 0 (record_words * n) (omega arith), word 1 (suc (record_words * n)) (omega arith))

-- It is one of the text's records, ...
pub found_number : (ts : List Token) (v : Node) {n : ℕ} {u : Node} → resolve ts 0 v ≡ Seen.found n u → n < size v
unfolding HeldSeen
found_number ts v {n} {u} h =
    let (q, pre, post, e, l) = subst (HeldSeen (table v) 0) h (resolve_table ts v) in
    let (r, f) = head_words u q n in
    let all : length (table v) ≡ length (pre ++ (records u q n ++ post)) = ap length e in
    omega (arith, table_length v, length-append pre (records u q n ++ post), length-append (records u q n) post, ap length f)

-- ... and what is found in a value stands inside whatever the value stands inside.
unfoldable pub InsideSeen : ℕ → Seen → Type 0
InsideSeen n (Seen.found m v) = Inside n v
InsideSeen n (Seen.lost p) = Unit {0}

module _ (n : ℕ) where
  name_inside : (p : ℕ) (us : Units) (m : ℕ) (ms : Members) → InsideMembers n ms → InsideSeen n (by_name p us m ms)
  unfolding by_name Inside InsideSeen
  name_inside p us m Members.empty x = tt
  name_inside p us m (Members.member q k v ms) (_, x, y) = branches (λ s (_ : Unit {0}). InsideSeen n s) (same us k) x (name_inside p us (m + size v) ms y)

  nth_inside : (p i m : ℕ) (vs : Nodes) → InsideAll n vs → InsideSeen n (nth p i m vs)
  unfolding nth Inside InsideSeen
  nth_inside p i m Nodes.nil x = tt
  nth_inside p zero m (Nodes.cons v vs) (x, _) = x
  nth_inside p (suc i) m (Nodes.cons v vs) (_, y) = nth_inside p i (m + size v) vs y

  child_inside : (p : ℕ) (us : Units) (m : ℕ) (v : Node) → Inside n v → InsideSeen n (child p us m v)
  unfolding child Inside InsideSeen
  child_inside p us m (Node.literal a e w) x = tt
  child_inside p us m (Node.string a e vs) x = tt
  child_inside p us m (Node.number a e y) x = tt
  child_inside p us m (Node.array a e vs) (_, _, x) = branches (λ s (_ : Unit {0}). InsideSeen n s) (is_index us) (nth_inside p (value_from 0 us) (suc m) vs x) tt
  child_inside p us m (Node.object a e ms) (_, _, x) = name_inside p us (suc m) ms x

  resolve_inside : (ts : List Token) (m : ℕ) (v : Node) → Inside n v → InsideSeen n (resolve ts m v)
  unfolding resolve InsideSeen
  resolve_inside [] m v x = x
  resolve_inside (Token.token p us ∷ ts) m v x = by (child p us m v) (child_inside p us m v x) (λ k w y. resolve_inside ts k w y)
    where
      by : (s : Seen) → InsideSeen n s → ((k : ℕ) (w : Node) → Inside n w → InsideSeen n (resolve ts k w))
          → InsideSeen n (elim s as (λ _. Seen) [ Seen.found k w ↦ resolve ts k w | Seen.lost q ↦ Seen.lost q ])
      by (Seen.found k w) y f = f k w y
      by (Seen.lost q) y f = tt

  pub found_inside : (ts : List Token) (v : Node) {k : ℕ} {u : Node} → Inside n v → resolve ts 0 v ≡ Seen.found k u → Inside n u
  unfolding InsideSeen
  found_inside ts v x h = subst (InsideSeen n) h (resolve_inside ts 0 v x)
