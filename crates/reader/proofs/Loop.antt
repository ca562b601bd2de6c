-- Each arm of the reader's loop keeps what it keeps, or stops as it must.
use Prim.Native.Char.{code}
use Prim.Native.Nat.{ℕ, suc, ◌*◌, ◌+◌, ◌-◌, ◌<◌, ◌≤◌}
use Rattle.members.proofs.Membership.{in_none}
use Rattle.members.specs.Records.{word_of}
use Rattle.names.specs.Units.{closing}
use Rattle.reader.proofs.Behind.{after_short, all_read, closes, comma, due_in, joined, value_short, wrong_inside, wrong_outside}
use Rattle.reader.proofs.Laying.{element, fresh_array, fresh_object, join, laid_framed, laid_on, named_value, open_frame, put_value, said_on}
use Rattle.reader.proofs.Repeated.{first_append, rising_again, rising_on}
use Rattle.reader.specs.Loop.{After, Broken, Closable, ClosedAt, Entering, Inside, Kept, Laid, Said, Stopped, Wants, answer, strict}
use Rattle.reader.specs.Repeats.{Least, Rising, again, before, between, closed, first_or}
use Rattle.reader.specs.Stacks.{Marked, Named, begun, kind, name_of, open_of, shut_at, words}
use Rattle.reader.specs.Tokens.{EntryAt, Opened, Opening, Whole, brace, bracket}
use Rattle.scan.specs.Answers.{Judge, at, refused}
use Rattle.scan.specs.Refusals.{number_of, place_of}
use Rattle.scan.specs.Space.{Dense, Skipped, Spaced}
use Rattle.scan.specs.Strings.{judged}
use Rattle.scan.specs.declared.refusal.Refusal.{Refusal}
use Rattle.std.proofs.lemmas.Bool.{false≢true}
use Rattle.std.specs.Prelude.{Option, Some, None, Ok, Err}
use Rattle.text.proofs.Machine.{Frame, Stack, State, depth_of, names_of}
use Rattle.text.specs.Bytes.{Bytes, Units}
use Rattle.text.specs.Ceilings.{among, max_depth}
use Rattle.text.specs.Node.{Members, Node, Nodes}
use Rattle.text.specs.Table.{Words, table, unnamed}
use Rattle.text.specs.Verdict.{Outcome}
use lib.Dec.{T}
use lib.ListN.{drop, get_or, length, set}
use mathlib.Core.Bool.{Bool, cond, false, not, true}
use mathlib.Core.List.{List, [], ◌++◌, ◌∷◌}
use mathlib.Core.Path.{◌∙◌, ◌≡◌, ap, refl, subst, subst⁻¹, sym}
use native.Mathlib.Omega.{arith}

-- The answer behind the names `es`, from one place to the next.
pub told : (t : Bytes) (es : List ℕ) {a b : Judge → Outcome} → answer t ≡ first_or t es (a strict) → a ≡ b → answer t ≡ first_or t es (b strict)
told t es h e = h ∙ ap (λ a. first_or t es (a strict)) e

-- A name is judged at its closing quote: if it repeats another, it joins the names that do.
name_or : (t : Bytes) (us : Units) (ns : List Units) (i : ℕ) (a : Outcome) → first_or t (again us ns i) a ≡ cond (not (among us ns)) a (Outcome.refused 8 (closing (suc i) (drop (suc i) t)))
unfolding first_or again
name_or t us ns i a = by (among us ns)
  where
    by : (c : Bool) → first_or t (cond c (i ∷ []) []) a ≡ cond (not c) a (Outcome.refused 8 (closing (suc i) (drop (suc i) t)))
    by true = refl
    by false = refl

told_name : (t : Bytes) (es : List ℕ) {a : Judge → Outcome} (b : Judge → Outcome) (i p : ℕ) (ms : Members) (us : Units)
    → answer t ≡ first_or t es (a strict) → a ≡ judged p ms us b → closing (suc i) (drop (suc i) t) ≡ p → answer t ≡ first_or t (es ++ again us (names_of ms) i) (b strict)
unfolding judged
told_name t es b i p ms us h e c =
    told t es h e
    ∙ ap (λ p. first_or t es (cond (not (among us (names_of ms))) (b strict) (Outcome.refused 8 p))) (sym c)
    ∙ sym (first_append t es (again us (names_of ms) i) (b strict) ∙ ap (first_or t es) (name_or t us (names_of ms) i (b strict)))

pub start : (t w m : Words) (i : ℕ) → length m ≡ max_depth → Skipped t 0 i → Dense t i → Kept t w w m 0 i 0 0 None None true
unfolding depth_of Marked open_of name_of begun words before closed Named first_or
start t w m i h s y =
    Kept.wants refl [] []
    (record {
      laid = record { deep = refl; low = omega arith; marks = h; marked = tt; bound = s.inside; few = omega arith; full = refl; filled = refl; opened = refl };
      count = refl;
      repeated = refl;
      least = λ x i. in_none i;
      names = tt;
      room = λ f. absurd (false≢true f);
    })
    Rising.none y refl (ap (λ a. a strict) (s.same (State.value []) Spaced.value))

module _ {t : Bytes} {w tab m : Words} {d i n op : ℕ} {nm first : Option ℕ} where
  -- A value is read whole.
  pub value_kept : {due : Bool} (tab' : Words) (p : ℕ) (nm' : Option ℕ) → due ≡ true → Kept t w tab m d i n op nm first due → Whole t tab tab' i nm n d p → Kept t w tab' m d p (n + 1) op nm' first false
  value_kept tab' p nm' e (Kept.wants _ st es q r y g a) x =
      let (h, h', b) = x.inside in
      Kept.after refl st x.what es
      (put_value tab' x.what i x.behind p nm q x.flat g (omega arith) (omega arith) (omega arith) (omega (arith, q.laid.few)) b x.put)
      (rising_on (omega arith) r) x.dense (told t es a (x.same st q.laid.deep))
  value_kept tab' p nm' e (Kept.after f st v es q r y a) x = absurd (subst T (sym e ∙ f) tt)

  -- A container opens.
  pub open_entering : {due : Bool} (tab' : Words) (p : ℕ) → due ≡ true → Kept t w tab m d i n op nm first due → i < length t → Opened t tab tab' i nm n op d p
      → Entering t w tab' (set m d (get_or t i 0)) (d + 1) p (n + 1) n (get_or t i 0) first
  unfolding kind
  open_entering tab' p e (Kept.after f st v es q r y a) h x = absurd (subst T (sym e ∙ f) tt)
  open_entering tab' p e (Kept.wants _ st es q r y g a) h x = by x.opening
    where
      by : Opening t i p d (get_or t i 0) → Entering t w tab' (set m d (get_or t i 0)) (d + 1) p (n + 1) n (get_or t i 0) first
      by (Opening.array b f) =
          Entering.array i Nodes.nil st es (open_frame tab' (Frame.array i Nodes.nil) p nm (get_or t i 0) q (fresh_array i st) g x.low h x.inside.0 x.inside.1 b x.put)
          (rising_on (omega (arith, x.inside.0)) r) x.dense b (told t es a (f st q.laid.deep))
      by (Opening.object b f) =
          Entering.object i Members.empty 0 [] st es (open_frame tab' (Frame.object i Members.empty 0 []) p nm (get_or t i 0) q (fresh_object i st) g x.low h x.inside.0 x.inside.1 b x.put)
          (rising_on (omega (arith, x.inside.0)) r) x.dense b (told t es a (f st q.laid.deep))

module _ {t : Bytes} {w tab m : Words} {d i n op : ℕ} {first : Option ℕ} where
  -- Behind a bracket or a comma comes a value, with its name in an object.
  pub entry_kept : {b p : ℕ} {nm : Option ℕ} {due : Bool} → due ≡ true → Entering t w tab m d i n op b first → EntryAt t i b nm (Ok p) → Kept t w tab m d p n op nm first due
  unfolding name_of
  entry_kept u₀ (Entering.array a vs st es q r y f z) (EntryAt.element g) = Kept.wants u₀ (Frame.array a vs ∷ st) es (element q) r y refl z
  entry_kept u₀ (Entering.array a vs st es q r y f z) (EntryAt.member g _ _ _ _) = absurd (omega arith)
  entry_kept u₀ (Entering.object a ms x₀ xs st es q r y f z) (EntryAt.element g) = absurd (omega arith)
  entry_kept u₀ (Entering.object a ms x₀ xs st es q r y f z) (EntryAt.member {p = p} g l u c x) =
      Kept.wants u₀ (Frame.object a ms i x.units ∷ st) (es ++ again x.units (names_of ms) i) (named_value x.units p q x.means x.inside l u)
      (rising_again x.units (names_of ms) r (omega arith) l) c refl (told_name t es (at t (State.value (Frame.object a ms i x.units ∷ st)) p) i x.place ms x.units z (x.same a ms st) x.closes)

-- Whitespace changes nothing of what is laid.
inside_on : {t : Bytes} {w tab m : Words} {st : Stack} {es : List ℕ} {d i j n op : ℕ} {first : Option ℕ} → i ≤ j → j ≤ length t → Inside t w tab m st es d i n op first → Inside t w tab m st es d j n op first
inside_on {t} {st = st} h b q = record { laid = laid_on h b q.laid; count = q.count; repeated = q.repeated; least = q.least; names = said_on t st h q.names }

same_kind : (f : Frame) (v : Node) → kind f ≡ kind (joined f v)
unfolding kind joined
same_kind (Frame.array a vs) v = refl
same_kind (Frame.object a ms q us) v = refl

-- Behind a value.
module _ {t : Bytes} {w tab m : Words} {d i n op : ℕ} {nm first : Option ℕ} {due : Bool} (e : due ≡ false) (k : Kept t w tab m d i n op nm first due) where
  -- The value that has been read, inside a container or outside all.
  data Behind : Type 0 where
    outside : d ≡ 0 → (v : Node) (es : List ℕ) → After t w tab m [] v es d i n op first → Rising es i → Dense t i → answer t ≡ first_or t es (at t (State.after [] v) i strict) → Behind
    within : 0 < d → (f : Frame) (st : Stack) (v : Node) (es : List ℕ) → After t w tab m (f ∷ st) v es d i n op first → get_or m (d - 1) 0 ≡ kind f → Rising es i → Dense t i
        → answer t ≡ first_or t es (at t (State.after (f ∷ st) v) i strict) → Behind

  behind : Behind
  unfolding depth_of Marked
  behind = by k
    where
      by : Kept t w tab m d i n op nm first due → Behind
      by (Kept.wants f st es q r y g a) = absurd (subst T (sym f ∙ e) tt)
      by (Kept.after f [] v es q r y a) = Behind.outside q.laid.deep v es q r y a
      by (Kept.after f (g ∷ st) v es q r y a) =
          let l = q.laid in
          let h : d - 1 ≡ depth_of st = omega (arith, l.deep) in
          Behind.within (omega (arith, l.deep)) g st v es q (ap (λ x. get_or m x 0) h ∙ l.marked.0) r y a

  -- The mark of the innermost open container is a bracket.
  pub mark_most : 0 < d → get_or m (d - 1) 0 ≤ brace
  unfolding kind
  mark_most h = by behind
    where
      mark : (f : Frame) → kind f ≤ brace
      mark (Frame.array a vs) = omega arith
      mark (Frame.object a ms q us) = omega arith

      by : Behind → get_or m (d - 1) 0 ≤ brace
      by (Behind.outside z v es q r y a) = absurd (omega arith)
      by (Behind.within z f st v es q g r y a) = omega (arith, mark f)

  module _ (h : i < length t) where
    pub comma_entering : (j : ℕ) → 0 < d → get_or t i 0 ≡ code "," → Skipped t (i + 1) j → Dense t j → Entering t w tab m d j n op (get_or m (d - 1) 0) first
    unfolding kind joined due_in
    comma_entering j z c s y' = by behind
      where
        onward : (f : Frame) (st : Stack) (v : Node) (es : List ℕ) → Inside t w tab m (joined f v ∷ st) es d i n op first → get_or m (d - 1) 0 ≡ kind f → Rising es i
            → answer t ≡ first_or t es (at t (due_in (joined f v) st) (i + 1) strict) → Entering t w tab m d j n op (get_or m (d - 1) 0) first
        onward (Frame.array a vs) st v es q g r o =
            Entering.array a (Nodes.cons v vs) st es (inside_on (omega (arith, s.onward)) s.inside q) (rising_on (omega (arith, s.onward)) r) y' g (told t es o (s.same (State.value (Frame.array a (Nodes.cons v vs) ∷ st)) Spaced.value))
        onward (Frame.object a ms x us) st v es q g r o =
            Entering.object a (Members.member x us v ms) x us st es (inside_on (omega (arith, s.onward)) s.inside q) (rising_on (omega (arith, s.onward)) r) y' g (told t es o (s.same (State.member a (Members.member x us v ms) st) Spaced.member))

        by : Behind → Entering t w tab m d j n op (get_or m (d - 1) 0) first
        by (Behind.outside z' v es q r y a) = absurd (omega arith)
        by (Behind.within z' f st v es q g r y a) = onward f st v es (join f st v q) g r (told t es a (comma t i h f st v c))

    pub closable : 0 < d → Closable t tab op n (get_or m (d - 1) 0) first
    closable z = by behind
      where
        by : Behind → Closable t tab op n (get_or m (d - 1) 0) first
        by (Behind.outside z' v es q r y a) = absurd (omega arith)
        by (Behind.within z' f st v es q g r y a) =
            record { entry = w; marks = m; frame = joined f v; stack = st; names = es; depth = d; offset = i; inside = join f st v q; bracketed = g ∙ same_kind f v }

    pub close_kept : (j up : ℕ) (first' nm' : Option ℕ) (tab' : Words) → 0 < d → get_or t i 0 ≡ get_or m (d - 1) 0 + 2 → Skipped t (i + 1) j → Dense t j
        → ClosedAt t tab tab' op (i + 1) n (get_or m (d - 1) 0) first up first' → Kept t w tab' m (d - 1) j n up nm' first' due
    close_kept j up first' nm' tab' z c s y' x = by behind
      where
        by : Behind → Kept t w tab' m (d - 1) j n up nm' first' due
        by (Behind.outside z' v es q r y a) = absurd (omega arith)
        by (Behind.within z' f st v es q g r y a) =
            Kept.after e st (shut_at (joined f v) (i + 1)) es (x w m (joined f v) st es d i j (join f st v q) (g ∙ same_kind f v) (omega (arith, s.onward)) s.inside)
            (rising_on (omega (arith, s.onward)) r) y'
            (told t es (told t es a (closes t i h f st v (c ∙ ap (λ x. x + 2) g))) (s.same (State.after st (shut_at (joined f v) (i + 1))) Spaced.after))

-- Where the reading stops.
broken : {t : Bytes} {i : ℕ} (es : List ℕ) (e : Refusal) {a : Judge → Outcome} → answer t ≡ first_or t es (a strict) → a ≡ refused (number_of e) (place_of e) → Rising es i → i ≤ length t → Broken t es e
broken {t} es e h z r b = record { told = told t es h z; rising = rising_on b r }

module _ {t : Bytes} {w tab m : Words} {d i n op : ℕ} {first : Option ℕ} (room : 4 * length t ≤ length w) where
  -- At a value that is refused.
  wants_stop : {nm : Option ℕ} (r : Refusal) (st : Stack) (es : List ℕ) → Wants t w tab m st es d i n op first → nm ≡ name_of st → Broken t es r → Stopped t w tab m d n op first (Some r) nm
  unfolding name_of depth_of before between closed Named Said
  wants_stop r [] es q e b =
      subst⁻¹ (Stopped t w tab m d n op first (Some r)) e
      (Stopped.outside es b q.laid.deep (omega (arith, q.laid.few, q.laid.bound)) (laid_framed room q.laid) (subst⁻¹ (λ l. Least l first) q.repeated q.least))
  wants_stop r (Frame.array a vs ∷ st) es q e b =
      subst⁻¹ (Stopped t w tab m d n op first (Some r)) e
      (Stopped.inside (Frame.array a vs) st es i b (record { laid = q.laid; count = q.count; repeated = q.repeated; least = q.least; names = q.names }))
  wants_stop r (Frame.object a ms x us ∷ st) es q e b = subst⁻¹ (Stopped t w tab m d n op first (Some r)) e (Stopped.named a ms us st es i b q)

  pub after_stop : (r : Refusal) (st : Stack) (v : Node) (es : List ℕ) → After t w tab m st v es d i n op first → Broken t es r → Stopped t w tab m d n op first (Some r) None
  unfolding depth_of before closed
  after_stop r [] v es q b = Stopped.outside es b q.laid.deep (omega (arith, q.laid.few, q.laid.bound)) (laid_framed room q.laid) (subst⁻¹ (λ l. Least l first) q.repeated q.least)
  after_stop r (f ∷ st) v es q b = Stopped.inside (joined f v) st es i b (join f st v q)

  pub value_stopped : {nm : Option ℕ} {due : Bool} (r : Refusal) (tab' : Words) → due ≡ true → Kept t w tab m d i n op nm first due
      → (tab' ≡ tab) × ((st : Stack) → d ≡ depth_of st → at t (State.value st) i ≡ refused (number_of r) (place_of r)) → Stopped t w tab' m d n op first (Some r) nm
  value_stopped k tab' e (Kept.after f st v es q r y a) x = absurd (subst T (sym e ∙ f) tt)
  value_stopped {nm} k tab' e (Kept.wants _ st es q r y g a) (same, x) =
      subst⁻¹ (λ tab. Stopped t w tab m d n op first (Some k) nm) same (wants_stop k st es q g (broken es k a (x st q.laid.deep) r q.laid.bound))

  pub wrong_stopped : {nm : Option ℕ} {due : Bool} → due ≡ false → Kept t w tab m d i n op nm first due → i < length t
      → (0 < d → (get_or t i 0 ≡ code "," → ⊥) × (get_or t i 0 ≡ get_or m (d - 1) 0 + 2 → ⊥)) → Stopped t w tab m d n op first (Some (Refusal.Wrong i)) None
  wrong_stopped e k h x = by (behind e k)
    where
      by : Behind e k → Stopped t w tab m d n op first (Some (Refusal.Wrong i)) None
      by (Behind.outside z v es q r y a) = after_stop (Refusal.Wrong i) [] v es q (broken es (Refusal.Wrong i) a (wrong_outside t i h (y h) v) r q.laid.bound)
      by (Behind.within z f st v es q c r y a) =
          let (u, u') = x z in
          after_stop (Refusal.Wrong i) (f ∷ st) v es q (broken es (Refusal.Wrong i) a (wrong_inside t i h (y h) f st v u (λ o. u' (o ∙ ap (λ x. x + 2) (sym c)))) r q.laid.bound)

  -- At the end of the text.
  module _ (h : length t ≤ i) where
    pub short_value : {nm : Option ℕ} {due : Bool} → due ≡ true → Kept t w tab m d i n op nm first due → Stopped t w tab m d n op first (Some (Refusal.Short i)) nm
    short_value e (Kept.after f st v es q r y a) = absurd (subst T (sym e ∙ f) tt)
    short_value e (Kept.wants _ st es q r y g a) = wants_stop (Refusal.Short i) st es q g (broken es (Refusal.Short i) a (value_short t i h st) r q.laid.bound)

    pub short_after : {nm : Option ℕ} {due : Bool} → due ≡ false → Kept t w tab m d i n op nm first due → (d ≡ 0 → ⊥) → Stopped t w tab m d n op first (Some (Refusal.Short i)) None
    short_after e k f = by (behind e k)
      where
        by : Behind e k → Stopped t w tab m d n op first (Some (Refusal.Short i)) None
        by (Behind.outside z v es q r y a) = absurd (f z)
        by (Behind.within z f st v es q c r y a) = after_stop (Refusal.Short i) (f ∷ st) v es q (broken es (Refusal.Short i) a (after_short t i h f st v) r q.laid.bound)

    pub whole_text : {nm : Option ℕ} {due : Bool} → due ≡ false → Kept t w tab m d i n op nm first due → d ≡ 0 → Stopped t w tab m d n op first None None
    unfolding words begun name_of before closed table
    whole_text e k z = by (behind e k)
      where
        by : Behind e k → Stopped t w tab m d n op first None None
        by (Behind.within z' f st v es q c r y a) = absurd (omega arith)
        by (Behind.outside _ v es q r y a) =
            Stopped.read z v es
            (record {
              told = told t es a (all_read t i h v);
              rising = rising_on q.laid.bound r;
              count = omega (arith, q.count);
              few = omega (arith, q.laid.few, q.laid.bound);
              filled = q.laid.filled;
              framed = laid_framed room q.laid;
              least = subst⁻¹ (λ l. Least l first) q.repeated q.least;
            })

-- At a name or a colon that is refused.
pub entry_stopped : {t : Bytes} {w tab m : Words} {d i n op b : ℕ} {first nm : Option ℕ} {e : Refusal} → Entering t w tab m d i n op b first → EntryAt t i b nm (Err e) → Stopped t w tab m d n op first (Some e) nm
entry_stopped (Entering.array a vs st es q r y f z) (EntryAt.nameless g _) = absurd (omega arith)
entry_stopped (Entering.array a vs st es q r y f z) (EntryAt.named g _) = absurd (omega arith)
entry_stopped {i = i} {e = e} (Entering.object a ms x xs st es q r y f z) (EntryAt.nameless g v) =
    Stopped.inside (Frame.object a ms x xs) st es i (broken es e z (v a ms st) r q.laid.bound) q
entry_stopped {t} {w} {tab} {m} {d} {i} {n} {op} {first = first} {e = e} (Entering.object a ms x xs st es q r y f z) (EntryAt.named g v) =
    let fs : List ℕ = es ++ again v.units (names_of ms) i in
    let c : i < length t = v.inside in
    let b : Broken t fs e =
    record {
      told = told_name t es (refused (number_of e) (place_of e)) i v.place ms v.units z (v.same a ms st) v.closes;
      rising = rising_again v.units (names_of ms) r (omega arith) c;
    } in
    Stopped.named a ms v.units st fs (length t) b (named_value v.units (length t) q v.means c c (omega arith))

-- What the parts of the loop ask for.
pub record Bounds (t : Bytes) (w tab m : Words) (d i n op : ℕ) : Type 0 where
  pub bound : i ≤ length t
  pub few : n ≤ i
  pub low : d ≤ max_depth
  pub marks : length m ≡ max_depth
  pub inner : op ≤ n
  pub long : length tab ≡ length w

open_begun : (st : Stack) → open_of st ≤ begun st
unfolding open_of begun
open_begun [] = omega arith
open_begun (Frame.array a vs ∷ st) = omega arith
open_begun (Frame.object a ms q us ∷ st) = omega arith

laid_bounds : {t : Bytes} {w tab m : Words} {st : Stack} {ws : Words} {d i n op : ℕ} → 4 * length t ≤ length w → begun st ≤ n → Laid t w tab m st ws d i n op → Bounds t w tab m d i n op
laid_bounds {st = st} h g l =
    record { bound = l.bound; few = l.few; low = l.low; marks = l.marks; inner = omega (arith, l.opened, open_begun st); long = (laid_framed h l).0 }

pub bounds : {t : Bytes} {w tab m : Words} {d i n op : ℕ} {nm first : Option ℕ} {due : Bool} → 4 * length t ≤ length w → Kept t w tab m d i n op nm first due → Bounds t w tab m d i n op
bounds h (Kept.wants e st es q r y g a) = laid_bounds h (omega (arith, q.count)) q.laid
bounds h (Kept.after e st v es q r y a) = laid_bounds h (omega (arith, q.count)) q.laid

pub dense : {t : Bytes} {w tab m : Words} {d i n op : ℕ} {nm first : Option ℕ} {due : Bool} → Kept t w tab m d i n op nm first due → Dense t i
dense (Kept.wants e st es q r y g a) = y
dense (Kept.after e st v es q r y a) = y

pub name_most : {t : Bytes} {w tab m : Words} {d i n op : ℕ} {nm first : Option ℕ} {due : Bool} → length t < unnamed → due ≡ true → Kept t w tab m d i n op nm first due → word_of nm ≤ unnamed
unfolding name_of Named
name_most h f (Kept.after e st v es q r y a) = absurd (subst T (sym f ∙ e) tt)
name_most h f (Kept.wants e [] es q r y g a) = subst⁻¹ (λ nm. word_of nm ≤ unnamed) g (omega arith)
name_most h f (Kept.wants e (Frame.array o vs ∷ st) es q r y g a) = subst⁻¹ (λ nm. word_of nm ≤ unnamed) g (omega arith)
name_most h f (Kept.wants e (Frame.object o ms x us ∷ st) es q r y g a) = subst⁻¹ (λ nm. word_of nm ≤ unnamed) g (omega (arith, q.names.1.inside))

pub entering_asks : {t : Bytes} {w tab m : Words} {d i n op b : ℕ} {first : Option ℕ} → Entering t w tab m d i n op b first → (i ≤ length t) × Dense t i × ((b ≡ brace → ⊥) → b ≡ bracket)
entering_asks (Entering.array a vs st es q r y f z) = (q.laid.bound, y, λ g. f)
entering_asks (Entering.object a ms x xs st es q r y f z) = (q.laid.bound, y, λ g. absurd (g f))
