-- How what is laid in the table changes with each token: a value is put, a container opens, a value joins its container, a
-- container closes, a name is read.
use Prim.Native.Nat.{ℕ, suc, ◌*◌, ◌+◌, ◌-◌, ◌<◌, ◌≤◌}
use Rattle.members.specs.Names.{name_at}
use Rattle.members.specs.Records.{word_of}
use Rattle.reader.proofs.Behind.{joined}
use Rattle.reader.proofs.Records.{begun_array_joins, begun_object_joins, begun_shut, close_record, four_more, held, marked_push, opens, put_filled, value_length, word_behind, words_array_joins, words_frame, words_length, words_object_joins, words_shut}
use Rattle.reader.proofs.Repeated.{array_closed, array_joins, array_repeats, object_closed, object_joins, object_repeats}
use Rattle.reader.specs.Loop.{After, Framed, Inside, Laid, Said, Wants}
use Rattle.reader.specs.Repeats.{Least, again, before, between, closed, inside_all, inside_members, deeper, repeats}
use Rattle.reader.specs.Stacks.{Marked, Named, Quote, Spelt, back_all, back_members, begun, kind, name_of, open_of, shut_at, words}
use Rattle.reader.specs.Tokens.{Flat, put_at}
use Rattle.std.proofs.lemmas.Bool.{false≢true}
use Rattle.std.specs.Prelude.{Option}
use Rattle.text.proofs.Machine.{Frame, Stack, depth_of, names_of}
use Rattle.text.proofs.Offsets.{end, start}
use Rattle.text.specs.Bytes.{Bytes, Units}
use Rattle.text.specs.Ceilings.{max_depth}
use Rattle.text.specs.Node.{Members, Node, Nodes}
use Rattle.text.specs.Table.{Words, records, size}
use lib.ListN.{drop, get_or, length, length-append, length-drop, length-set, set}
use lib.Seq.{drop-append-add, drop-drop}
use mathlib.Core.List.{List, [], ◌++◌, ◌∷◌, append_assoc, append-nil}
use mathlib.Core.Path.{◌∙◌, ◌≡◌, ap, refl, subst, subst⁻¹, sym}
use native.Mathlib.Numerals.{add-one}
use native.Mathlib.Omega.{arith}

-- Names that stand before an offset stand before a later one.
quote_on : {t : Bytes} {q b c : ℕ} {us : Units} → b ≤ c → Quote t q us b → Quote t q us c
quote_on h x = record { before = omega (arith, x.before); inside = x.inside; means = x.means }

spelt_on : {t : Bytes} {ms : Members} {b c : ℕ} → b ≤ c → Spelt t ms b → Spelt t ms c
spelt_on h Spelt.empty = Spelt.empty
spelt_on h (Spelt.member x a b s) = Spelt.member (quote_on h x) a b s

named_on : (t : Bytes) (st : Stack) {b c : ℕ} → b ≤ c → Named t st b → Named t st c
unfolding Named
named_on t [] h x = tt
named_on t (Frame.array a vs ∷ st) h (o, x) = (o, named_on t st h x)
named_on t (Frame.object a ms q us ∷ st) h (o, x, s, y) = (o, quote_on h x, s, named_on t st h y)

pub said_on : (t : Bytes) (st : Stack) {b c : ℕ} → b ≤ c → Said t st b → Said t st c
unfolding Said
said_on t [] h x = tt
said_on t (Frame.array a vs ∷ st) h (o, x) = (o, named_on t st h x)
said_on t (Frame.object a ms q us ∷ st) h (o, s, y) = (o, spelt_on h s, named_on t st h y)

module _ {t : Bytes} {w tab m : Words} {st : Stack} {d n op : ℕ} where
  pub laid_on : {ws : Words} {i j : ℕ} → i ≤ j → j ≤ length t → Laid t w tab m st ws d i n op → Laid t w tab m st ws d j n op
  laid_on h b l =
      record { deep = l.deep; low = l.low; marks = l.marks; marked = l.marked; bound = b; few = omega (arith, l.few); full = l.full; filled = l.filled; opened = l.opened }

  -- The rest of the table is as at entry, and the table as long.
  pub laid_framed : {ws : Words} {i : ℕ} → 4 * length t ≤ length w → Laid t w tab m st ws d i n op → Framed t w tab
  laid_framed {ws} h l =
      let b = l.few in let b' = l.bound in
      let k : 4 * length t ≡ length ws + (4 * length t - 4 * n) = omega (arith, l.full) in
      let k' : 4 * n + (4 * length t - 4 * n) ≡ 4 * length t = omega arith in
      let x : drop (4 * length t) tab ≡ drop (4 * length t) w =
      rw l.filled (ap (λ x. drop x (ws ++ drop (4 * n) w)) k ∙ drop-append-add ws (drop (4 * n) w) (4 * length t - 4 * n) ∙ drop-drop (4 * length t - 4 * n) (4 * n) w ∙ ap (λ x. drop x w) k') in
      let y : length tab ≡ length w = ap length l.filled ∙ length-append ws (drop (4 * n) w) ∙ omega (arith, l.full, length-drop (4 * n) w) in
      (y, x)

-- A value without others inside it is put behind the words written.
pub put_value : {t : Bytes} {w tab m : Words} {st : Stack} {es : List ℕ} {d i n op : ℕ} {first : Option ℕ} (tab' : Words) (v : Node) (i₀ j p : ℕ) (nm : Option ℕ)
    → Wants t w tab m st es d i n op first → Flat v i₀ j → nm ≡ name_of st → i₀ ≤ j → j ≤ length t → i ≤ p → n < p → p ≤ length t → tab' ≡ put_at tab n i₀ j (word_of nm) (n + 1)
    → After t w tab' m st v es d p (n + 1) op first
put_value {t} {w} {tab} {m} {st} {es} {d} {i} {n} {op} {first} tab' v i₀ j p nm q f e h h' g g' b r =
    let l = q.laid in
    let u : words st ++ (i₀ ∷ j ∷ word_of nm ∷ (n + 1) ∷ []) ≡ words st ++ records v (word_of (name_of st)) (begun st) = rw (f.words (word_of (name_of st)) (begun st), e, q.count, add-one) in
    record {
      laid = subst (λ ws. Laid t w tab' m st ws d p (n + 1) op) u
          (record {
            deep = l.deep;
            low = l.low;
            marks = l.marks;
            marked = l.marked;
            bound = b;
            few = omega arith;
            full = four_more (words st) n i₀ j (word_of nm) (n + 1) l.full;
            filled = r ∙ put_filled (words st) w tab n i₀ j (word_of nm) (n + 1) l.full l.filled;
            opened = l.opened;
          });
      count = omega (arith, q.count, f.one);
      repeated = q.repeated ∙ sym (ap (λ l. before st ++ l) f.none ∙ append-nil (before st));
      least = subst⁻¹ (λ l. Least l first) (ap (λ l. closed st ++ l) f.none ∙ append-nil (closed st)) q.least;
      names = named_on t st g q.names;
      small = (omega (arith, f.starts), omega (arith, f.ends));
    }

-- A container that holds nothing yet, and opens at `i`.
pub record Fresh (i : ℕ) (f : Frame) (st : Stack) : Type 0 where
  pub written : words (f ∷ st) ≡ words st ++ (i ∷ 0 ∷ word_of (name_of st) ∷ open_of st ∷ [])
  pub one : begun (f ∷ st) ≡ begun st + 1
  pub told : between (f ∷ st) ≡ before st
  pub quiet : closed (f ∷ st) ≡ closed st
  pub said : (t : Bytes) (b : ℕ) → i < length t → Named t st b → Said t (f ∷ st) b

pub fresh_array : (i : ℕ) (st : Stack) → Fresh i (Frame.array i Nodes.nil) st
unfolding words begun back_all between closed inside_all Said size
fresh_array i st = record { written = refl; one = refl; told = append-nil (before st); quiet = append-nil (closed st); said = λ t b h x. (h, x) }

pub fresh_object : (i : ℕ) (st : Stack) → Fresh i (Frame.object i Members.empty 0 []) st
unfolding words begun back_members between closed inside_members deeper Said size
fresh_object i st = record { written = refl; one = refl; told = append-nil (before st); quiet = append-nil (closed st); said = λ t b h x. (h, Spelt.empty, x) }

-- A container opens.
pub open_frame : {t : Bytes} {w tab m : Words} {st : Stack} {es : List ℕ} {d i n op : ℕ} {first : Option ℕ} (tab' : Words) (f : Frame) (j : ℕ) (nm : Option ℕ) (b : ℕ)
    → Wants t w tab m st es d i n op first → Fresh i f st → nm ≡ name_of st → d < max_depth → i < length t → i < j → j ≤ length t → b ≡ kind f → tab' ≡ put_at tab n i 0 (word_of nm) op
    → Inside t w tab' (set m d b) (f ∷ st) es (d + 1) j (n + 1) n first
unfolding depth_of open_of
open_frame {t} {w} {tab} {m} {st} {es} {d} {i} {n} {op} {first} tab' f j nm b q z e k h g b' c r =
    let l = q.laid in
    let u : words st ++ (i ∷ 0 ∷ word_of nm ∷ op ∷ []) ≡ words (f ∷ st) = rw (e, l.opened) (sym z.written) in
    record {
      laid = subst (λ ws. Laid t w tab' (set m d b) (f ∷ st) ws (d + 1) j (n + 1) n) u
          (record {
            deep = omega (arith, l.deep);
            low = omega arith;
            marks = length-set m d b ∙ l.marks;
            marked = subst⁻¹ (λ x. Marked (set m x b) (f ∷ st)) l.deep (marked_push m f st b (omega (arith, l.deep, l.marks)) c l.marked);
            bound = b';
            few = omega (arith, l.few);
            full = four_more (words st) n i 0 (word_of nm) op l.full;
            filled = r ∙ put_filled (words st) w tab n i 0 (word_of nm) op l.full l.filled;
            opened = q.count;
          });
      count = omega (arith, q.count, z.one);
      repeated = q.repeated ∙ sym z.told;
      least = subst⁻¹ (λ l. Least l first) z.quiet q.least;
      names = z.said t j h (named_on t st (omega arith) q.names);
    }

-- A value that is read joins its container.
pub join : {t : Bytes} {w tab m : Words} (f : Frame) (st : Stack) (v : Node) {es : List ℕ} {d i n op : ℕ} {first : Option ℕ}
    → After t w tab m (f ∷ st) v es d i n op first → Inside t w tab m (joined f v ∷ st) es d i n op first
unfolding joined Named Said name_of depth_of Marked kind open_of
join {t} {w} {tab} {m} (Frame.array a vs) st v {es} {d} {i} {n} {op} {first} q =
    let l = q.laid in
    record {
      laid = subst (λ ws. Laid t w tab m (Frame.array a (Nodes.cons v vs) ∷ st) ws d i n op) (words_array_joins a vs st v)
          (record { deep = l.deep; low = l.low; marks = l.marks; marked = l.marked; bound = l.bound; few = l.few; full = l.full; filled = l.filled; opened = l.opened });
      count = q.count ∙ begun_array_joins a vs st v;
      repeated = q.repeated ∙ array_joins a vs st v;
      least = subst (λ l. Least l first) (array_closed a vs st v) q.least;
      names = q.names;
    }
join {t} {w} {tab} {m} (Frame.object a ms x us) st v {es} {d} {i} {n} {op} {first} q =
    let l = q.laid in
    let (o, c, s, y) = q.names in
    record {
      laid = subst (λ ws. Laid t w tab m (Frame.object a (Members.member x us v ms) x us ∷ st) ws d i n op) (words_object_joins a x us ms st v)
          (record { deep = l.deep; low = l.low; marks = l.marks; marked = l.marked; bound = l.bound; few = l.few; full = l.full; filled = l.filled; opened = l.opened });
      count = q.count ∙ begun_object_joins a x us ms st v;
      repeated = q.repeated ∙ object_joins a x us ms st v;
      least = subst (λ l. Least l first) (object_closed a x us ms st v) q.least;
      names = (o, Spelt.member c q.small.0 q.small.1 s, y);
    }

-- The names around a container, its repeated names once it is closed, and where it stands.
outer : (t : Bytes) (b : ℕ) (f : Frame) (st : Stack) → Said t (f ∷ st) b → Named t st b
unfolding Said
outer t b (Frame.array a vs) st x = x.1
outer t b (Frame.object a ms p us) st x = x.2

shut_repeats : (f : Frame) (st : Stack) (e : ℕ) → between (f ∷ st) ≡ before st ++ repeats (shut_at f e)
unfolding between shut_at
shut_repeats (Frame.array a vs) st e = ap (λ l. before st ++ l) (sym (array_repeats a e vs))
shut_repeats (Frame.object a ms q us) st e = ap (λ l. before st ++ l) (sym (object_repeats a e ms))

stands : (t : Bytes) (b : ℕ) (f : Frame) (st : Stack) (e : ℕ) → Said t (f ∷ st) b → e ≤ length t → (start (shut_at f e) ≤ length t) × (end (shut_at f e) ≤ length t)
unfolding Said shut_at start end
stands t b (Frame.array a vs) st e x h = (omega (arith, x.0), h)
stands t b (Frame.object a ms q us) st e x h = (omega (arith, x.0), h)

-- The table while a container is open, and behind the two stores that close it.
module _ {t : Bytes} {w tab m : Words} {f : Frame} {st : Stack} {es : List ℕ} {d i n op : ℕ} {first : Option ℕ} (q : Inside t w tab m (f ∷ st) es d i n op first) where
  abbrev rest : Words
  rest = held f (suc (begun st)) ++ drop (4 * n) w

  open_words : tab ≡ words st ++ ((opens f ∷ 0 ∷ word_of (name_of st) ∷ open_of st ∷ []) ++ rest)
  open_words = q.laid.filled ∙ rw (words_frame f st) (simp append_assoc)

  pub opened_record : op ≡ begun st
  unfolding open_of
  opened_record = q.laid.opened

  around : open_of st ≡ get_or tab (4 * op + 3) 0
  around = rw (opened_record, open_words) (sym (word_behind (words st) (opens f ∷ 0 ∷ word_of (name_of st) ∷ []) rest (open_of st) (begun st) 3 (words_length st) refl))

  pub shut_words : (e : ℕ) → set (set tab (4 * op + 1) e) (4 * op + 3) n ≡ words st ++ ((opens f ∷ e ∷ word_of (name_of st) ∷ n ∷ []) ++ rest)
  shut_words e = rw (opened_record, open_words) (close_record (words st) rest (begun st) (opens f) (word_of (name_of st)) (open_of st) e n (words_length st))

  -- A container closes, and `first` becomes `first'`.
  pub shut : (e j : ℕ) (first' : Option ℕ) (tab' : Words) → tab' ≡ set (set tab (4 * op + 1) e) (4 * op + 3) n → i ≤ j → j ≤ length t → e ≤ length t
      → Least (closed st ++ repeats (shut_at f e)) first' → After t w tab' m st (shut_at f e) es (d - 1) j n (get_or tab (4 * op + 3) 0) first'
  unfolding depth_of Marked
  shut e j first' tab' r h b c y =
      let l = q.laid in
      let k : n ≡ begun st + size (shut_at f e) = q.count ∙ begun_shut f st e in
      record {
        laid =
            record {
              deep = omega (arith, l.deep);
              low = omega (arith, l.low);
              marks = l.marks;
              marked = l.marked.1;
              bound = b;
              few = omega (arith, l.few);
              full = value_length st (shut_at f e) (word_of (name_of st)) n k;
              filled = r ∙ shut_words e ∙ ap (λ l. words st ++ l) (sym (append_assoc (opens f ∷ e ∷ word_of (name_of st) ∷ n ∷ []) (held f (suc (begun st))) (drop (4 * n) w)))
                  ∙ sym (append_assoc (words st) ((opens f ∷ e ∷ word_of (name_of st) ∷ n ∷ []) ++ held f (suc (begun st))) (drop (4 * n) w))
                  ∙ ap (λ l. l ++ drop (4 * n) w) (words_shut f st e n q.count);
              opened = sym around;
            };
        count = k;
        repeated = q.repeated ∙ shut_repeats f st e;
        least = y;
        names = named_on t st h (outer t i f st q.names);
        small = stands t i f st e q.names c;
      }

-- An element may come, or a name has come.
pub element : {t : Bytes} {w tab m : Words} {a : ℕ} {vs : Nodes} {st : Stack} {es : List ℕ} {d i n op : ℕ} {first : Option ℕ}
    → Inside t w tab m (Frame.array a vs ∷ st) es d i n op first → Wants t w tab m (Frame.array a vs ∷ st) es d i n op first
unfolding before Named Said name_of
element q = record { laid = q.laid; count = q.count; repeated = q.repeated; least = q.least; names = q.names; room = λ f. absurd (false≢true f) }

pub named_value : {t : Bytes} {w tab m : Words} {a x : ℕ} {ms : Members} {xs : Units} {st : Stack} {es : List ℕ} {d i n op : ℕ} {first : Option ℕ} (us : Units) (p : ℕ)
    → Inside t w tab m (Frame.object a ms x xs ∷ st) es d i n op first → name_at t i ≡ us → i < length t → i < p → p ≤ length t
    → Wants t w tab m (Frame.object a ms i us ∷ st) (es ++ again us (names_of ms) i) d p n op first
unfolding before Named Said words begun depth_of Marked kind open_of closed
named_value {ms = ms} {st = st} {i = i} us p q e h g b =
    let l = q.laid in
    let (o, s, y) = q.names in
    record {
      laid = record { deep = l.deep; low = l.low; marks = l.marks; marked = l.marked; bound = b; few = omega (arith, l.few); full = l.full; filled = l.filled; opened = l.opened };
      count = q.count;
      repeated = ap (λ l. l ++ again us (names_of ms) i) q.repeated ∙ append_assoc (before st) (inside_members ms) (again us (names_of ms) i);
      least = q.least;
      names = (o, record { before = g; inside = h; means = e }, s, named_on _ st (omega arith) y);
      room = λ f. omega (arith, l.few);
    }
