-- The lists of repeated names: how they are put together as containers open and close, and what their least is good for.
use Prim.Native.Nat.{ℕ, suc, ◌<◌, ◌≤◌}
use Rattle.members.proofs.Membership.{in_either, in_left, in_none, in_right}
use Rattle.members.specs.Lists.{In}
use Rattle.names.specs.Units.{closing}
use Rattle.reader.specs.Repeats.{Least, Rising, again, before, between, closed, deeper, first_or, inside_all, inside_members, own, repeats, repeats_all, repeats_members}
use Rattle.std.proofs.lemmas.Bool.{cases_lt}
use Rattle.std.specs.Option.{option_map_or}
use Rattle.std.specs.Prelude.{Option, Some, None, min}
use Rattle.text.proofs.Machine.{Frame, Stack, names_of, onto_members, onto_nodes}
use Rattle.text.specs.Bytes.{Bytes, Units}
use Rattle.text.specs.Ceilings.{among}
use Rattle.text.specs.Node.{Members, Node, Nodes}
use Rattle.text.specs.Verdict.{Outcome}
use lib.ListN.{drop}
use mathlib.Core.Bool.{Bool, cond, false, true}
use mathlib.Core.List.{List, [], ◌++◌, ◌∷◌, append_assoc, append-nil}
use mathlib.Core.Logic.{◌⊎◌, inl, inr, ⊎_elim}
use mathlib.Core.Path.{◌∙◌, ◌≡◌, ap, refl, subst⁻¹, sym}
use native.Mathlib.Omega.{arith}

-- Names in rising order stay so with a later one behind them.
pub rising_below : {es : List ℕ} {b x : ℕ} → Rising es b → In x es → x < b
rising_below (Rising.more h f r) In.here = h
rising_below (Rising.more h f r) (In.there p) = rising_below r p
rising_below (Rising.none) x8 = elim x8 [ ]

pub rising_on : {es : List ℕ} {b c : ℕ} → b ≤ c → Rising es b → Rising es c
rising_on l Rising.none = Rising.none
rising_on {c = c} l (Rising.more {q = q} h f r) = Rising.more {q = q} {b = c} (omega arith) f (rising_on l r)

rising_one : {es : List ℕ} {b c q : ℕ} → Rising es b → b ≤ q → q < c → Rising (es ++ (q ∷ [])) c
rising_one Rising.none h l = Rising.more l (λ x i. absurd (in_none i)) Rising.none
rising_one {b = b} {c = c} {q = q} (Rising.more {q = p} {qs = qs} k f r) h l = Rising.more {q = p} {b = c} (omega arith) (λ x i. by x (in_either qs i)) (rising_one r h l)
  where
    by : (x : ℕ) → In x qs ⊎ In x (q ∷ []) → p < x
    by x (inl i) = f x i
    by x (inr In.here) = omega arith
    by x (inr (In.there x8)) = elim x8 [ ]

pub rising_again : {es : List ℕ} {b c q : ℕ} (us : Units) (ns : List Units) → Rising es b → b ≤ q → q < c → Rising (es ++ again us ns q) c
unfolding again
rising_again {es} {b} {c} {q} us ns r h l = by (among us ns)
  where
    by : (x : Bool) → Rising (es ++ cond x (q ∷ []) []) c
    by true = rising_one r h l
    by false = subst⁻¹ (λ l. Rising l c) (append-nil es) (rising_on (omega arith) r)

-- The lesser of two, of those that are there.
abbrev pub lesser : Option ℕ → Option ℕ → Option ℕ
lesser a None = a
lesser a (Some q) = Some (option_map_or (λ p. min p q) a q)

-- The least of two lists.
least_both : {l m : List ℕ} (n : List ℕ) (a b : Option ℕ) → Least l a → Least m b
    → ((x : ℕ) → In x n → In x l ⊎ In x m) → ((x : ℕ) → In x l → In x n) → ((x : ℕ) → In x m → In x n) → Least n (lesser a b)
least_both n None None p q f g h = λ x i. ⊎_elim (p x) (q x) (f x i)
least_both n (Some a) None p q f g h = (g a p.0, λ x i. ⊎_elim (p.1 x) (λ j. absurd (q x j)) (f x i))
least_both n None (Some b) p q f g h = (h b q.0, λ x i. ⊎_elim (λ j. absurd (p x j)) (q.1 x) (f x i))
least_both n (Some a) (Some b) p q f g h = (by (cases_lt a b), λ x i. ⊎_elim (λ j. omega (arith, p.1 x j)) (λ j. omega (arith, q.1 x j)) (f x i))
  where
    by : (a < b) ⊎ (b ≤ a) → In (min a b) n
    by (inl k) = let e : min a b ≡ a = omega arith in subst⁻¹ (λ x. In x n) e (g a p.0)
    by (inr k) = let e : min a b ≡ b = omega arith in subst⁻¹ (λ x. In x n) e (h b q.0)

-- The outcome by the first name that repeats another, if there is one: it is the least.
abbrev pub first_is : Bytes → Outcome → Option ℕ → Outcome
first_is t a None = a
first_is t a (Some q) = Outcome.refused 8 (closing (suc q) (drop (suc q) t))

head_least : {p q : ℕ} {es : List ℕ} → ((x : ℕ) → In x es → p < x) → q ≤ p → In q (p ∷ es) → q ≡ p
head_least f m In.here = refl
head_least {p} {q} f m (In.there i) = let g : p < q = f q i in absurd (omega arith)

pub first_least : (t : Bytes) {es : List ℕ} (a : Outcome) {b : ℕ} (q : Option ℕ) → Rising es b → Least es q → first_or t es a ≡ first_is t a q
unfolding first_or
first_least t {es = []} a None r l = refl
first_least t {es = []} a (Some q) r l = absurd (in_none l.0)
first_least t {es = p ∷ es} a None r l = absurd (l p In.here)
first_least t {es = p ∷ es} a (Some q) (Rising.more k f r) l =
    let e : q ≡ p = head_least f (l.1 p In.here) l.0 in
    ap (λ x. Outcome.refused 8 (closing (suc x) (drop (suc x) t))) (sym e)

-- The outcome behind two lists of names.
pub first_append : (t : Bytes) (es fs : List ℕ) (a : Outcome) → first_or t (es ++ fs) a ≡ first_or t es (first_or t fs a)
unfolding first_or
first_append t [] fs a = refl
first_append t (q ∷ es) fs a = refl

-- Elements and members that are kept last first, put in order.
repeats_nodes : (vs l : Nodes) → repeats_all (onto_nodes vs l) ≡ inside_all vs ++ repeats_all l
unfolding onto_nodes repeats inside_all
repeats_nodes Nodes.nil l = refl
repeats_nodes (Nodes.cons v vs) l = repeats_nodes vs (Nodes.cons v l) ∙ sym (append_assoc (inside_all vs) (repeats v) (repeats_all l))

repeats_members_lem : (ms l : Members) → repeats_members [] (onto_members ms l) ≡ inside_members ms ++ repeats_members (names_of ms) l
unfolding onto_members repeats inside_members names_of
repeats_members_lem Members.empty l = refl
repeats_members_lem (Members.member q us v ms) l = repeats_members_lem ms (Members.member q us v l) ∙ simp append_assoc

-- A container that closes.
pub array_repeats : (p e : ℕ) (vs : Nodes) → repeats (Node.array p e (onto_nodes vs Nodes.nil)) ≡ inside_all vs
unfolding repeats
array_repeats p e vs = repeats_nodes vs Nodes.nil ∙ append-nil (inside_all vs)

pub object_repeats : (p e : ℕ) (ms : Members) → repeats (Node.object p e (onto_members ms Members.empty)) ≡ inside_members ms
unfolding repeats
object_repeats p e ms = repeats_members_lem ms Members.empty ∙ append-nil (inside_members ms)

-- The names that repeat others in an object are its own and those deeper.
inside_split : {x : ℕ} (ms : Members) → In x (inside_members ms) → In x (deeper ms) ⊎ In x (own ms)
unfolding inside_members deeper own
inside_split (Members.member q us v ms) i = by (λ j. inside_split ms j) (in_either (inside_members ms) i)
  where
    own_or : {x : ℕ} → In x (again us (names_of ms) q) ⊎ In x (repeats v) → In x (deeper ms ++ repeats v) ⊎ In x (own ms ++ again us (names_of ms) q)
    own_or (inl j) = inr (in_right (own ms) j)
    own_or (inr j) = inl (in_right (deeper ms) j)

    further : {x : ℕ} → In x (deeper ms) ⊎ In x (own ms) → In x (deeper ms ++ repeats v) ⊎ In x (own ms ++ again us (names_of ms) q)
    further (inl j) = inl (in_left (repeats v) j)
    further (inr j) = inr (in_left (again us (names_of ms) q) j)

    by : {x : ℕ} → (In x (inside_members ms) → In x (deeper ms) ⊎ In x (own ms)) → In x (inside_members ms) ⊎ In x (again us (names_of ms) q ++ repeats v)
        → In x (deeper ms ++ repeats v) ⊎ In x (own ms ++ again us (names_of ms) q)
    by f (inl j) = further (f j)
    by f (inr j) = own_or (in_either (again us (names_of ms) q) j)
inside_split Members.empty i = elim i [ ]

deeper_inside : {x : ℕ} (ms : Members) → In x (deeper ms) → In x (inside_members ms)
unfolding inside_members deeper
deeper_inside (Members.member q us v ms) i = by (λ j. deeper_inside ms j) (in_either (deeper ms) i)
  where
    by : {x : ℕ} → (In x (deeper ms) → In x (inside_members ms)) → In x (deeper ms) ⊎ In x (repeats v) → In x (inside_members ms ++ (again us (names_of ms) q ++ repeats v))
    by f (inl j) = in_left (again us (names_of ms) q ++ repeats v) (f j)
    by f (inr j) = in_right (inside_members ms) (in_right (again us (names_of ms) q) j)
deeper_inside Members.empty i = elim i [ ]

own_inside : {x : ℕ} (ms : Members) → In x (own ms) → In x (inside_members ms)
unfolding inside_members own
own_inside (Members.member q us v ms) i = by (λ j. own_inside ms j) (in_either (own ms) i)
  where
    by : {x : ℕ} → (In x (own ms) → In x (inside_members ms)) → In x (own ms) ⊎ In x (again us (names_of ms) q) → In x (inside_members ms ++ (again us (names_of ms) q ++ repeats v))
    by f (inl j) = in_left (again us (names_of ms) q ++ repeats v) (f j)
    by f (inr j) = in_right (inside_members ms) (in_left (repeats v) j)
own_inside Members.empty i = elim i [ ]

-- So the least of all is the lesser of the least among the closed ones and the least of the object's own.
pub object_least : (l : List ℕ) (ms : Members) (a b : Option ℕ) → Least (l ++ deeper ms) a → Least (own ms) b → Least (l ++ inside_members ms) (lesser a b)
object_least l ms a b p q = least_both (l ++ inside_members ms) a b p q (λ x i. split (in_either l i)) (λ x i. both (in_either l i)) (λ x i. in_right l (own_inside ms i))
  where
    further : {x : ℕ} → In x (deeper ms) ⊎ In x (own ms) → In x (l ++ deeper ms) ⊎ In x (own ms)
    further (inl j) = inl (in_right l j)
    further (inr j) = inr j

    split : {x : ℕ} → In x l ⊎ In x (inside_members ms) → In x (l ++ deeper ms) ⊎ In x (own ms)
    split (inl j) = inl (in_left (deeper ms) j)
    split (inr j) = further (inside_split ms j)

    both : {x : ℕ} → In x l ⊎ In x (deeper ms) → In x (l ++ inside_members ms)
    both (inl j) = in_left (inside_members ms) j
    both (inr j) = in_right l (deeper_inside ms j)

-- A value that is read joins those before it.
pub array_joins : (a : ℕ) (vs : Nodes) (st : Stack) (v : Node) → before (Frame.array a vs ∷ st) ++ repeats v ≡ between (Frame.array a (Nodes.cons v vs) ∷ st)
unfolding before inside_all
array_joins a vs st v = append_assoc (before st) (inside_all vs) (repeats v)

pub object_joins : (a q : ℕ) (us : Units) (ms : Members) (st : Stack) (v : Node) → before (Frame.object a ms q us ∷ st) ++ repeats v ≡ between (Frame.object a (Members.member q us v ms) q us ∷ st)
unfolding before inside_members
object_joins a q us ms st v = simp append_assoc

pub array_closed : (a : ℕ) (vs : Nodes) (st : Stack) (v : Node) → closed (Frame.array a vs ∷ st) ++ repeats v ≡ closed (Frame.array a (Nodes.cons v vs) ∷ st)
unfolding closed inside_all
array_closed a vs st v = append_assoc (closed st) (inside_all vs) (repeats v)

pub object_closed : (a q : ℕ) (us : Units) (ms : Members) (st : Stack) (v : Node) → closed (Frame.object a ms q us ∷ st) ++ repeats v ≡ closed (Frame.object a (Members.member q us v ms) q us ∷ st)
unfolding closed deeper
object_closed a q us ms st v = append_assoc (closed st) (deeper ms) (repeats v)
