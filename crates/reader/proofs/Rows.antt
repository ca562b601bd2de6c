-- The members of an object that closes: they are a row in the table, and its first repeated name is the least of the
-- object's own that repeat others.
use Prim.Native.Nat.{ℕ, ◌*◌, ◌+◌, ◌<◌, ◌≤◌}
use Rattle.entries.specs.Answer.{max_text}
use Rattle.members.proofs.Lineage.{siblings_append, siblings_between}
use Rattle.members.proofs.Membership.{in_either, in_left, in_none, in_right, in_single}
use Rattle.members.proofs.Quoting.{quote_in}
use Rattle.members.specs.Lists.{In}
use Rattle.members.specs.Names.{name_at}
use Rattle.members.specs.Records.{word}
use Rattle.members.specs.Repeats.{FirstRepeat}
use Rattle.members.specs.Rows.{Row, named}
use Rattle.members.specs.Siblings.{Siblings}
use Rattle.reader.proofs.Records.{back_members_length, word_behind}
use Rattle.reader.specs.Repeats.{Least, again, own}
use Rattle.reader.specs.Stacks.{Spelt, back_members}
use Rattle.std.specs.Prelude.{Option, Some, None}
use Rattle.text.proofs.Machine.{names_of}
use Rattle.text.proofs.Names.{among_first, among_later, same_is}
use Rattle.text.proofs.Offsets.{end, head_words, start}
use Rattle.text.proofs.Records.{size_some}
use Rattle.text.proofs.Tests.{either, true_is}
use Rattle.text.specs.Bytes.{Bytes, Units}
use Rattle.text.specs.Ceilings.{among, same}
use Rattle.text.specs.Node.{Members, Node}
use Rattle.text.specs.Table.{Words, records, size, size_members}
use lib.Dec.{T}
use lib.ListN.{length, length-append}
use mathlib.Core.Bool.{Bool, cond, false, true}
use mathlib.Core.List.{List, [], ◌++◌, ◌∷◌, append_assoc}
use mathlib.Core.Logic.{◌⊎◌, inl, inr, ⊎_elim, ⊎_map}
use mathlib.Core.Path.{◌∙◌, ◌≡◌, ap, refl, subst, subst⁻¹, sym}
use native.Mathlib.Omega.{arith}

-- The opening quotes of the members' names, in the order of the text.
unfoldable pub quotes : Members → List ℕ
quotes Members.empty = []
quotes (Members.member q us v ms) = quotes ms ++ (q ∷ [])

-- Where the words of `v` stand as those of record `r`.
record Stands (w : Words) (v : Node) (q r : ℕ) : Type 0 where
  pub first : word w r 0 ≡ start v
  pub last : word w r 1 ≡ end v
  pub name : word w r 2 ≡ q
  pub next : word w r 3 ≡ r + size v

stands : (pre post : Words) (v : Node) (q r : ℕ) → length pre ≡ 4 * r → Stands (pre ++ (records v q r ++ post)) v q r
stands pre post v q r h =
    let (l, e) = head_words v q r in
    subst⁻¹ (λ ws. Stands (pre ++ (ws ++ post)) v q r) e
    (record {
      first = word_behind pre [] (end v ∷ q ∷ (r + size v) ∷ (l ++ post)) (start v) r 0 h refl;
      last = word_behind pre (start v ∷ []) (q ∷ (r + size v) ∷ (l ++ post)) (end v) r 1 h refl;
      name = word_behind pre (start v ∷ end v ∷ []) ((r + size v) ∷ (l ++ post)) q r 2 h refl;
      next = word_behind pre (start v ∷ end v ∷ q ∷ []) (l ++ post) (r + size v) r 3 h refl;
    })

named_append : (w : Words) (l m : List ℕ) → named w (l ++ m) ≡ named w l ++ named w m
unfolding named
named_append w [] m = refl
named_append w (x ∷ l) m = ap (λ n. word w x 2 ∷ n) (named_append w l m)

-- Quotes stand before the bound of their members.
quotes_below : {t : Bytes} {ms : Members} {b x : ℕ} → Spelt t ms b → In x (quotes ms) → x < b
unfolding quotes
quotes_below (Spelt.member {ms = ms} c _ _ s) i = ⊎_elim (λ j. omega (arith, quotes_below s j, c.before)) (λ j. omega (arith, in_single j, c.before)) (in_either (quotes ms) i)
quotes_below (Spelt.empty) i = elim i [ ]

-- The records of members whose words begin at record `k`.
pub record Kin (t : Bytes) (w : Words) (ms : Members) (k : ℕ) : Type 0 where
  pub list : List ℕ
  pub chain : Siblings w (k + size_members ms) k list
  pub small : (x : ℕ) → In x list → (word w x 0 ≤ length t) × (word w x 1 ≤ length t) × (word w x 2 < length t)
  pub rising : (x y : ℕ) → In x list → In y list → x < y → word w x 2 < word w y 2
  pub quoted : named w list ≡ quotes ms

module _ {t : Bytes} {w : Words} {q : ℕ} {v : Node} {ms : Members} {k : ℕ} (x : Kin t w ms k) (y : Stands w v q (k + size_members ms)) (s : Spelt t ms q) where
  abbrev r : ℕ
  r = k + size_members ms

  last_or : {z : ℕ} → In z (x.list ++ (r ∷ [])) → In z x.list ⊎ (z ≡ r)
  last_or i = ⊎_map (λ j. j) in_single (in_either x.list i)

  before_last : (z : ℕ) → In z x.list → word w z 2 < word w r 2
  before_last z i = omega (arith, y.name, quotes_below s (subst (In (word w z 2)) x.quoted (quote_in w i)))

  kin_more : (us : Units) → 1 ≤ size v → start v ≤ length t → end v ≤ length t → q < length t → Kin t w (Members.member q us v ms) k
  unfolding size quotes named
  kin_more us o c d e =
      record {
        list = x.list ++ (r ∷ []);
        chain = siblings_append x.chain (Siblings.more (omega (arith, y.next)) (subst⁻¹ (λ z. Siblings w (k + (size v + size_members ms)) z []) (y.next ∙ omega arith) Siblings.none));
        small = λ z i. small_by z (last_or i);
        rising = λ z z' i j l. rising_by z z' (last_or i) (last_or j) l;
        quoted = named_append w x.list (r ∷ []) ∙ ap (λ l. l ++ (word w r 2 ∷ [])) x.quoted ∙ ap (λ n. quotes ms ++ (n ∷ [])) y.name;
      }
    where
      small_by : (z : ℕ) → In z x.list ⊎ (z ≡ r) → (word w z 0 ≤ length t) × (word w z 1 ≤ length t) × (word w z 2 < length t)
      small_by z (inl i) = x.small z i
      small_by z (inr f) = subst⁻¹ (λ z. (word w z 0 ≤ length t) × (word w z 1 ≤ length t) × (word w z 2 < length t)) f (omega (arith, y.first), omega (arith, y.last), omega (arith, y.name))

      rising_by : (z z' : ℕ) → In z x.list ⊎ (z ≡ r) → In z' x.list ⊎ (z' ≡ r) → z < z' → word w z 2 < word w z' 2
      rising_by z z' (inl i) (inl j) l = x.rising z z' i j l
      rising_by z z' (inl i) (inr f) l = subst⁻¹ (λ n. word w z 2 < word w n 2) f (before_last z i)
      rising_by z z' (inr f) (inl j) l = absurd (omega (arith, (siblings_between x.chain j).1))
      rising_by z z' (inr f) (inr g) l = absurd (omega arith)

pub kin : (t pre post : Words) (ms : Members) (k b : ℕ) → length pre ≡ 4 * k → Spelt t ms b → Kin t (pre ++ (back_members ms k ++ post)) ms k
unfolding back_members size quotes named
kin t pre post Members.empty k b h s =
    record {
      list = [];
      chain = subst⁻¹ (λ e. Siblings (pre ++ post) e k []) (let z : k + 0 ≡ k = omega arith in z) Siblings.none;
      small = λ x i. absurd (in_none i);
      rising = λ x y i. absurd (in_none i);
      quoted = refl;
    }
kin t pre post (Members.member q us v ms) k b h (Spelt.member c d e s) =
    let r : ℕ = k + size_members ms in
    let ws : Words = records v q r in
    let g : pre ++ ((back_members ms k ++ ws) ++ post) ≡ pre ++ (back_members ms k ++ (ws ++ post)) = ap (λ l. pre ++ l) (append_assoc (back_members ms k) ws post) in
    let g' : (pre ++ back_members ms k) ++ (ws ++ post) ≡ pre ++ (back_members ms k ++ (ws ++ post)) = append_assoc pre (back_members ms k) (ws ++ post) in
    let l : length (pre ++ back_members ms k) ≡ 4 * r = length-append pre (back_members ms k) ∙ omega (arith, back_members_length ms k) in
    let x : Kin t (pre ++ (back_members ms k ++ (ws ++ post))) ms k = kin t pre (ws ++ post) ms k q h s in
    let y : Stands (pre ++ (back_members ms k ++ (ws ++ post))) v q r = subst (λ w. Stands w v q r) g' (stands (pre ++ back_members ms k) post v q r l) in
    subst⁻¹ (λ w. Kin t w (Members.member q us v ms) k) g (kin_more x y s us (size_some v) d e c.inside)

-- The row of an object's members, and its quotes.
pub row : {t : Bytes} {w : Words} {ms : Members} {k : ℕ} (e : ℕ) → Kin t w ms k → e ≡ k + size_members ms → length t ≤ max_text → e ≤ max_text → 4 * e ≤ length w → Row t w k e
row {t} {w} {ms} {k} e x f h g l =
    record {
      few = g;
      long = l;
      members = x.list;
      siblings = subst⁻¹ (λ e. Siblings w e k x.list) f x.chain;
      low = λ z i. let s = x.small z i in (omega arith, omega arith);
      inside = λ z i. (x.small z i).2;
      rising = x.rising;
    }

pub row_repeat : {t : Bytes} {w : Words} {ms : Members} {k : ℕ} (e : ℕ) (q : Option ℕ) (x : Kin t w ms k) → e ≡ k + size_members ms
    → ((l : List ℕ) → Siblings w e k l → FirstRepeat t (named w l) q) → FirstRepeat t (quotes ms) q
row_repeat {t} {w} {k = k} e q x f g = subst (λ l. FirstRepeat t l q) x.quoted (g x.list (subst⁻¹ (λ e. Siblings w e k x.list) f x.chain))

-- A name among those of members is that of one of them, and the other way round.
among_quote : {t : Bytes} {ms : Members} {b : ℕ} (us : Units) → Spelt t ms b → T (among us (names_of ms)) → (y : ℕ) × In y (quotes ms) × (name_at t y ≡ us)
unfolding among names_of quotes
among_quote {t} us (Spelt.member {q = q} {us = vs} {ms = ms} c _ _ s) p = either (same us vs) (among us (names_of ms)) here (λ z. later (among_quote us s z)) p
  where
    here : T (same us vs) → (y : ℕ) × In y (quotes ms ++ (q ∷ [])) × (name_at t y ≡ us)
    here z = (q, in_right (quotes ms) In.here, c.means ∙ sym (same_is us vs (true_is (same us vs) z)))

    later : (y : ℕ) × In y (quotes ms) × (name_at t y ≡ us) → (y : ℕ) × In y (quotes ms ++ (q ∷ [])) × (name_at t y ≡ us)
    later (y, i, e) = (y, in_left (q ∷ []) i, e)
among_quote us (Spelt.empty) p = elim p [ ]

quote_among : {t : Bytes} {ms : Members} {b y : ℕ} (us : Units) → Spelt t ms b → In y (quotes ms) → name_at t y ≡ us → T (among us (names_of ms))
unfolding names_of quotes
quote_among {t} us (Spelt.member {q = q} {us = vs} {ms = ms} c _ _ s) i e = by (λ j. quote_among us s j e) (in_either (quotes ms) i) e
  where
    by : {y : ℕ} → (In y (quotes ms) → T (among us (names_of ms))) → In y (quotes ms) ⊎ In y (q ∷ []) → name_at t y ≡ us → T (among us (vs ∷ names_of ms))
    by f (inl j) g = among_later us vs (names_of ms) (f j)
    by f (inr In.here) g = subst (λ n. T (among us (n ∷ names_of ms))) (sym g ∙ c.means) (among_first us (names_of ms))
    by f (inr (In.there j)) g = absurd (in_none j)
quote_among us (Spelt.empty) i e = elim i [ ]

again_in : {x : ℕ} (us : Units) (ns : List Units) (q : ℕ) → In x (again us ns q) → (x ≡ q) × T (among us ns)
unfolding again
again_in {x} us ns q i = by (among us ns) i
  where
    by : {x : ℕ} (c : Bool) → In x (cond c (q ∷ []) []) → (x ≡ q) × T c
    by true In.here = (refl, tt)
    by true (In.there j) = absurd (in_none j)
    by false j = absurd (in_none j)

in_again : (us : Units) (ns : List Units) (q : ℕ) → T (among us ns) → In q (again us ns q)
unfolding again
in_again us ns q p = rw (true_is (among us ns) p) In.here

-- A quote of these members with an earlier one of the same name.
abbrev Twice : Bytes → Members → ℕ → Type 0
Twice t ms x = In x (quotes ms) × ((y : ℕ) × In y (quotes ms) × (y < x) × (name_at t y ≡ name_at t x))

own_twice : {t : Bytes} {ms : Members} {b x : ℕ} → Spelt t ms b → In x (own ms) → Twice t ms x
unfolding own quotes
own_twice {t} (Spelt.member {q = q} {us = us} {v = v} {ms = ms} c _ _ s) i = by (λ j. own_twice s j) (in_either (own ms) i)
  where
    wider : {x : ℕ} → Twice t ms x → Twice t (Members.member q us v ms) x
    wider (i, (y, j, l, e)) = (in_left (q ∷ []) i, (y, in_left (q ∷ []) j, l, e))

    last : (x : ℕ) → x ≡ q → T (among us (names_of ms)) → Twice t (Members.member q us v ms) x
    last x e p =
        let (y, i, f) = among_quote us s p in
        subst⁻¹ (Twice t (Members.member q us v ms)) e (in_right (quotes ms) In.here, (y, in_left (q ∷ []) i, quotes_below s i, f ∙ sym c.means))

    by : {x : ℕ} → (In x (own ms) → Twice t ms x) → In x (own ms) ⊎ In x (again us (names_of ms) q) → Twice t (Members.member q us v ms) x
    by f (inl j) = wider (f j)
    by {x} f (inr j) = let (e, p) = again_in us (names_of ms) q j in last x e p
own_twice (Spelt.empty) i = elim i [ ]

twice_own : {t : Bytes} {ms : Members} {b x y : ℕ} → Spelt t ms b → In x (quotes ms) → In y (quotes ms) → y < x → name_at t y ≡ name_at t x → In x (own ms)
unfolding own quotes
twice_own {t} (Spelt.member {q = q} {us = us} {ms = ms} c _ _ s) i j l e = by (λ i j. twice_own s i j l e) l e (in_either (quotes ms) i) (in_either (quotes ms) j)
  where
    by : {x y : ℕ} → (In x (quotes ms) → In y (quotes ms) → In x (own ms)) → y < x → name_at t y ≡ name_at t x → In x (quotes ms) ⊎ In x (q ∷ []) → In y (quotes ms) ⊎ In y (q ∷ []) → In x (own ms ++ again us (names_of ms) q)
    by f l e (inl i) (inl j) = in_left (again us (names_of ms) q) (f i j)
    by f l e (inl i) (inr In.here) = absurd (omega (arith, l, quotes_below s i))
    by f l e (inl i) (inr (In.there j)) = absurd (in_none j)
    by f l e (inr In.here) (inl j) = in_right (own ms) (in_again us (names_of ms) q (quote_among us s j (e ∙ c.means)))
    by f l e (inr In.here) (inr In.here) = absurd (omega (arith, l))
    by f l e (inr In.here) (inr (In.there j)) = absurd (in_none j)
    by f l e (inr (In.there i)) j = absurd (in_none i)
twice_own (Spelt.empty) i j l e = elim i [ ]

pub own_least : {t : Bytes} {ms : Members} {b : ℕ} (q : Option ℕ) → Spelt t ms b → FirstRepeat t (quotes ms) q → Least (own ms) q
own_least None s r = λ x i. let (j, (y, k, l, e)) = own_twice s i in r y x k j l e
own_least (Some q) s r =
    let (i, (y, j, l, e)) = r.real in
    (twice_own s i j l e, λ x i. let (j, (y, k, l, e)) = own_twice s i in r.least y x k j l e)
