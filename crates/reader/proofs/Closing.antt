-- A container closes: where it is an object, its members are a row in the table, and the first repeated name of that row
-- joins those of the objects closed before.
use Prim.Native.Nat.{ℕ, suc, ◌*◌, ◌+◌, ◌-◌, ◌<◌, ◌≤◌}
use Rattle.entries.specs.Answer.{max_text}
use Rattle.members.specs.Records.{word_of}
use Rattle.members.specs.Repeats.{FirstRepeat}
use Rattle.members.specs.Rows.{Row, named}
use Rattle.members.specs.Siblings.{Siblings}
use Rattle.reader.proofs.Laying.{opened_record, shut, shut_words}
use Rattle.reader.proofs.Records.{held, opens, words_length}
use Rattle.reader.proofs.Repeated.{array_repeats, lesser, object_least, object_repeats}
use Rattle.reader.proofs.Rows.{Kin, kin, own_least, row, row_repeat}
use Rattle.reader.specs.Loop.{After, Closable, ClosedAt, Inside, Said}
use Rattle.reader.specs.Repeats.{Least, closed}
use Rattle.reader.specs.Stacks.{Spelt, back_members, begun, kind, name_of, shut_at, words}
use Rattle.reader.specs.Tokens.{brace}
use Rattle.std.specs.Prelude.{Option}
use Rattle.text.proofs.Machine.{Frame, Stack}
use Rattle.text.specs.Bytes.{Bytes, Units}
use Rattle.text.specs.Node.{Members, Nodes}
use Rattle.text.specs.Table.{Words, size_members, unnamed}
use lib.ListN.{drop, get_or, length, length-append, length-set, set}
use mathlib.Core.List.{List, [], ◌++◌, ◌∷◌, append_assoc}
use mathlib.Core.Path.{◌∙◌, ◌≡◌, ap, subst⁻¹, sym}
use native.Mathlib.Omega.{arith}

-- The records written fit the table, and the open one is among them.
module _ {t : Bytes} {w tab m : Words} {f : Frame} {st : Stack} {es : List ℕ} {d i n op : ℕ} {first : Option ℕ} (q : Inside t w tab m (f ∷ st) es d i n op first) where
  records_fit : 4 * n ≤ length tab
  records_fit = let l = q.laid in let e : length tab ≡ length (words (f ∷ st)) + length (drop (4 * n) w) = ap length l.filled ∙ length-append (words (f ∷ st)) (drop (4 * n) w) in omega (arith, l.full)

  open_below : op < n
  unfolding begun
  open_below = by f q.count (opened_record q)
    where
      by : (f : Frame) → n ≡ begun (f ∷ st) → op ≡ begun st → op < n
      by (Frame.array a vs) e g = omega arith
      by (Frame.object a ms x us) e g = omega arith

  few : n ≤ length t
  few = omega (arith, q.laid.few, q.laid.bound)

-- An object's members behind the stores that close it.
module _ {t : Bytes} {w tab m : Words} {a x : ℕ} {ms : Members} {us : Units} {st : Stack} {es : List ℕ} {d i n op : ℕ} {first : Option ℕ} (q : Inside t w tab m (Frame.object a ms x us ∷ st) es d i n op first)
    (e : ℕ) (tab' : Words) (r : tab' ≡ set (set tab (4 * op + 1) e) (4 * op + 3) n) where
  spelt : Spelt t ms i
  unfolding Said
  spelt = q.names.1

  kinned : Kin t tab' ms (op + 1)
  unfolding held opens
  kinned =
      let pre : Words = words st ++ (a ∷ e ∷ word_of (name_of st) ∷ n ∷ []) in
      let post : Words = drop (4 * n) w in
      let o = opened_record q in
      let h : length pre ≡ 4 * (op + 1) = length-append (words st) (a ∷ e ∷ word_of (name_of st) ∷ n ∷ []) ∙ omega (arith, words_length st) in
      let k : suc (begun st) ≡ op + 1 = omega arith in
      let g : tab' ≡ pre ++ (back_members ms (op + 1) ++ post) =
      r ∙ shut_words q e ∙ ap (λ k. words st ++ ((a ∷ e ∷ word_of (name_of st) ∷ n ∷ []) ++ (back_members ms k ++ post))) k ∙ sym (append_assoc (words st) (a ∷ e ∷ word_of (name_of st) ∷ n ∷ []) (back_members ms (op + 1) ++ post)) in
      subst⁻¹ (λ w. Kin t w ms (op + 1)) g (kin t pre post ms (op + 1) i h spelt)

  last : n ≡ op + 1 + size_members ms
  unfolding begun
  last = omega (arith, q.count, opened_record q)

  object_row : length t ≤ max_text → length tab' ≡ length tab → Row t tab' (op + 1) n
  object_row h l = row n kinned last h (omega (arith, few q)) (omega (arith, records_fit q))

  object_closes : (z : Option ℕ) → e ≤ length t → ((l : List ℕ) → Siblings tab' n (op + 1) l → FirstRepeat t (named tab' l) z)
      → (j : ℕ) → i ≤ j → j ≤ length t → After t w tab' m st (shut_at (Frame.object a ms x us) e) es (d - 1) j n (get_or tab (4 * op + 3) 0) (lesser first z)
  unfolding shut_at closed
  object_closes z c g j h b =
      shut q e j (lesser first z) tab' r h b c
      (subst⁻¹ (λ l. Least (closed st ++ l) (lesser first z)) (object_repeats a e ms) (object_least (closed st) ms first z q.least (own_least z spelt (row_repeat n z kinned last g))))

array_closes : {t : Bytes} {w tab m : Words} {a : ℕ} {vs : Nodes} {st : Stack} {es : List ℕ} {d i n op : ℕ} {first : Option ℕ} (q : Inside t w tab m (Frame.array a vs ∷ st) es d i n op first)
    (e : ℕ) (tab' : Words) → tab' ≡ set (set tab (4 * op + 1) e) (4 * op + 3) n → e ≤ length t
    → (j : ℕ) → i ≤ j → j ≤ length t → After t w tab' m st (shut_at (Frame.array a vs) e) es (d - 1) j n (get_or tab (4 * op + 3) 0) first
unfolding shut_at closed
array_closes {a = a} {vs = vs} {st = st} {first = first} q e tab' r c j h b = shut q e j first tab' r h b c (subst⁻¹ (λ l. Least (closed st ++ l) first) (array_repeats a e vs) q.least)

-- What closing asks for, and what it gives, of either kind of container.
module _ {t : Bytes} {tab : Words} {op n b : ℕ} {first : Option ℕ} where
  pub closable_fits : length t ≤ max_text → Closable t tab op n b first → (4 * op + 4 ≤ length tab) × (n ≤ unnamed)
  closable_fits h x = let q = x.inside in (omega (arith, open_below q, records_fit q), omega (arith, few q))

  pub closable_row : (e : ℕ) (tab' : Words) → length t ≤ max_text → b ≡ brace → Closable t tab op n b first → tab' ≡ set (set tab (4 * op + 1) e) (4 * op + 3) n → Row t tab' (op + 1) n
  unfolding kind
  closable_row e tab' h g x r = by x.frame x.inside x.bracketed
    where
      same_long : length tab' ≡ length tab
      same_long = ap length r ∙ length-set (set tab (4 * op + 1) e) (4 * op + 3) n ∙ length-set tab (4 * op + 1) e

      by : (f : Frame) → Inside t x.entry tab x.marks (f ∷ x.stack) x.names x.depth x.offset n op first → b ≡ kind f → Row t tab' (op + 1) n
      by (Frame.array a vs) q k = absurd (omega arith)
      by (Frame.object a ms y us) q k = object_row q e tab' r h same_long

  module _ (e : ℕ) (tab' : Words) (up : ℕ) (c : e ≤ length t) (r : tab' ≡ set (set tab (4 * op + 1) e) (4 * op + 3) n) (u : up ≡ get_or tab (4 * op + 3) 0) where
    pub closes_array : (b ≡ brace → ⊥) → ClosedAt t tab tab' op e n b first up first
    unfolding kind
    closes_array g w m (Frame.array a vs) st es d i j q k h l = subst⁻¹ (λ up. After t w tab' m st (shut_at (Frame.array a vs) e) es (d - 1) j n up first) u (array_closes q e tab' r c j h l)
    closes_array g w m (Frame.object a ms x us) st es d i j q k h l = absurd (g k)

    pub closes_object : (z : Option ℕ) → b ≡ brace → ((l : List ℕ) → Siblings tab' n (op + 1) l → FirstRepeat t (named tab' l) z) → ClosedAt t tab tab' op e n b first up (lesser first z)
    unfolding kind
    closes_object z g f w m (Frame.array a vs) st es d i j q k h l = absurd (omega arith)
    closes_object z g f w m (Frame.object a ms x us) st es d i j q k h l =
        subst⁻¹ (λ up. After t w tab' m st (shut_at (Frame.object a ms x us) e) es (d - 1) j n up (lesser first z)) u (object_closes q e tab' r z c f j h l)
