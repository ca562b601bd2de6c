-- The machine's way back from a name that stands twice to its opening quote: what a state holds, the state before held
-- too, or the byte between them opens the name.
use Prim.Native.Char.{code}
use Prim.Native.Nat.{◌*◌, ◌+◌, suc, ℕ}
use Rattle.text.proofs.Machine.{Frame, Left, Move, Numeral, Stack, State, Use, after_move, close_move, hex_state, member_move, move, names_of, number_move, onto, other_move, value_move, word_state}
use Rattle.text.proofs.Open.{Open, closed_array, closed_object, empty_array, empty_object}
use Rattle.text.proofs.Residual.{HexRest}
use Rattle.text.proofs.Run.{Done, Run, Took}
use Rattle.text.proofs.Step.{escape_of}
use Rattle.text.proofs.Tests.{byte_at}
use Rattle.text.proofs.Twice.{Twice, TwiceAll}
use Rattle.text.proofs.Way.{Went, initial}
use Rattle.text.specs.Bytes.{Bytes, Source, Units, escape_unit, from, hex_value, is_hex}
use Rattle.text.specs.Ceilings.{Ceilings, Gate, among}
use Rattle.text.specs.Decimal.{Decimal, normal}
use Rattle.text.specs.Node.{Literal, Members, Node, Nodes}
use Rattle.text.specs.Strings.{Chars, Escape, Is}
use Rattle.text.specs.Verdict.{Outcome}
use lib.Dec.{T, eqb, eqb→eq}
use mathlib.Core.Bool.{Bool, false}
use mathlib.Core.List.{[], ◌++◌, ◌∷◌}
use mathlib.Core.Logic.{◌⊎◌, inl, inr, ⊎_elim}
use mathlib.Core.Path.{◌≡◌, ap, refl}

-- From here on, where the name `us` with its opening quote at `q` may stand twice.
module _ (q : ℕ) (us : Units) where
  -- In an open object, behind the members `ms` and at a name whose quote stands at `k`: further out, if `K`; in the
  -- members; or this is the name, if `R`.
  data Naming (ms : Members) (K R : Type 0) : ℕ → Type 0 where
    outer : {k : ℕ} → K → Naming ms K R k
    before : {k : ℕ} → Open q us ms → Naming ms K R k
    name : T (among us (names_of ms)) → R → Naming ms K R q

  naming_map : {ms : Members} {K R R' : Type 0} {k : ℕ} → (R → R') → Naming ms K R k → Naming ms K R' k
  naming_map f (Naming.outer x) = Naming.outer x
  naming_map f (Naming.before x) = Naming.before x
  naming_map f (Naming.name t r) = Naming.name t (f r)

  -- In the containers that are open.
  unfoldable Kept : Stack → Type 0
  Kept [] = ⊥
  Kept (Frame.array a vs ∷ st) = TwiceAll q us vs ⊎ Kept st
  Kept (Frame.object a ms k n ∷ st) = Naming ms (Kept st) (n ≡ us) k

  -- With one value more: as before, or in that value.
  more_nodes : {K : Type 0} {v : Node} {vs : Nodes} → TwiceAll q us (Nodes.cons v vs) ⊎ K → (TwiceAll q us vs ⊎ K) ⊎ Twice q us v
  more_nodes (inl (TwiceAll.first x)) = inr x
  more_nodes (inl (TwiceAll.next x)) = inl (inl x)
  more_nodes (inr x) = inl (inr x)

  more_members : {K : Type 0} {k : ℕ} {n : Units} {v : Node} {ms : Members} → Open q us (Members.member k n v ms) ⊎ K → Naming ms K (n ≡ us) k ⊎ Twice q us v
  more_members (inl (Open.here t)) = inl (Naming.name t refl)
  more_members (inl (Open.inside x)) = inr x
  more_members (inl (Open.before x)) = inl (Naming.before x)
  more_members (inr x) = inl (Naming.outer x)

  inside : {A B D : Type 0} → (A → B) → D ⊎ A → B ⊎ D
  inside f (inl x) = inr x
  inside f (inr x) = inl (f x)

  -- Numbers and empty containers hold nothing.
  not_number : {p n : ℕ} {x : Decimal} → ¬ (Twice q us (Node.number p n x))
  not_number = elim [ ]

  no_nodes : {K : Type 0} → TwiceAll q us Nodes.nil ⊎ K → K
  no_nodes (inr x) = x
  no_nodes (inl x') = elim x' [ ]

  no_open : {K : Type 0} → Open q us Members.empty ⊎ K → K
  no_open (inr x) = x
  no_open (inl x') = elim x' [ ]

  no_naming : {k : ℕ} {K R : Type 0} → Naming Members.empty K R k → K
  unfolding among names_of
  no_naming (Naming.outer x) = x
  no_naming (Naming.name t x) = absurd t
  no_naming (before x'') = elim x'' [ ]

  -- In what a string is for; `R` says that a name comes to `us`.
  InUse : Use → Type 0 → Type 0
  InUse (Use.value a st) R = Kept st
  InUse (Use.name k a ms st) R = Naming ms (Kept st) R k

  use_map : {R R' : Type 0} (u : Use) → (R → R') → InUse u R → InUse u R'
  unfolding InUse
  use_map (Use.value a st) f x = x
  use_map (Use.name k a ms st) f x = naming_map f x

  -- The bytes to come close the string, and take the units `l`, last first, on to `us`.
  abbrev Goes : (Source → Source → Units → Type 0) → Units → Source → Type 0
  Goes Rest l i = (m : ℕ) × (o : Bytes) × (r : Units) × Rest i (from (suc m) o) r × (onto l r ≡ us)

  module _ (C : Ceilings) where
    -- In a state, with the bytes to come.
    unfoldable Holds : State → Source → Type 0
    Holds (State.number ns p st) i = Kept st
    Holds (State.value st) i = Kept st
    Holds (State.array a st) i = Kept st
    Holds (State.object a st) i = Kept st
    Holds (State.after st v) i = Kept st ⊎ Twice q us v
    Holds (State.literal k ks v a st) i = Kept st
    Holds (State.chars u l) i = InUse u (Goes (Chars C) l i)
    Holds (State.escape u l) i = InUse u (Goes (Escape C) l i)
    Holds (State.hex n a u l) i = InUse u (Goes (HexRest C n a) l i)
    Holds (State.member a ms st) i = Open q us ms ⊎ Kept st
    Holds (State.named k n a ms st) i = Naming ms (Kept st) (n ≡ us) k

    -- Whatever the state that a move leads to holds gives `K`.
    data Keeps (i : Source) (K : Type 0) : Move → Type 0 where
      bad : Keeps i K Move.bad
      go : {s : State} → (Holds s i → K) → Keeps i K (Move.go s)
      ask : {g : Gate} {s : State} → (Holds s i → K) → Keeps i K (Move.ask g s)
      when : {c : Bool} {x y : Move} → Keeps i K x → Keeps i K y → Keeps i K (Move.when c x y)

    keeps_took : {i : Source} {K : Type 0} {m : Move} {s : State} → Keeps i K m → Took C m s → Holds s i → K
    keeps_took (Keeps.go f) Took.go = f
    keeps_took (Keeps.ask f) (Took.ask _) = f
    keeps_took (Keeps.when h _) (Took.yes _ k) = keeps_took h k
    keeps_took (Keeps.when _ h) (Took.no _ k) = keeps_took h k
    keeps_took bad x3 = elim x3 [ ]

    -- Such are the moves behind a value, where a value is due, in a number and in a new array.
    module _ (i : Source) {K : Type 0} where
      keeps_after : (st : Stack) (v : Node) (n b : ℕ) → (Kept st ⊎ Twice q us v → K) → Keeps i K (after_move st v n b)
      unfolding after_move Kept Holds
      keeps_after [] v n b f = when (go f) bad
      keeps_after (Frame.array a vs ∷ st) v n b f = when (go f) (when (go λ x. f (more_nodes (inside closed_array x))) (when (go λ x. f (more_nodes x)) bad))
      keeps_after (Frame.object a ms k l ∷ st) v n b f = when (go f) (when (go λ x. f (more_members (inside closed_object x))) (when (go λ x. f (more_members x)) bad))

      keeps_value : (st : Stack) (n b : ℕ) → (Kept st → K) → Keeps i K (value_move st n b)
      unfolding value_move other_move Holds InUse
      keeps_value st n b f =
          when (go f) (when (go f) (when (go f) (when (go f) (when (go f) (when (go f) (when (go f) (when (go f) (when (ask f) (when (ask f) bad)))))))))

      -- Behind a value that holds nothing.
      keeps_plain : (st : Stack) (v : Node) (n b : ℕ) → ¬ (Twice q us v) → (Kept st → K) → Keeps i K (after_move st v n b)
      keeps_plain st v n b none f = keeps_after st v n b (⊎_elim f λ x. absurd (none x))

      keeps_number : (ns : Numeral) (p : ℕ) (st : Stack) (n b : ℕ) → (Kept st → K) → Keeps i K (number_move ns p st n b)
      unfolding number_move Holds
      keeps_number Numeral.minus p st n b f = when (go f) (when (go f) bad)
      keeps_number (Numeral.zero neg) p st n b f = when (ask f) (when (go f) (keeps_plain st (Node.number p n (normal neg 0 1 0 false 0)) n b not_number f))
      keeps_number (Numeral.whole neg c m) p st n b f = when (ask f) (when (ask f) (when (go f) (keeps_plain st (Node.number p n (normal neg c m 0 false 0)) n b not_number f)))
      keeps_number (Numeral.point neg c m) p st n b f = when (go f) bad
      keeps_number (Numeral.fraction neg c m d) p st n b f = when (ask f) (when (go f) (keeps_plain st (Node.number p n (normal neg c m d false 0)) n b not_number f))
      keeps_number (Numeral.mark neg c m d) p st n b f = when (go f) (when (go f) (when (go f) bad))
      keeps_number (Numeral.sign neg c m d s) p st n b f = when (go f) bad
      keeps_number (Numeral.power neg c m d s e j) p st n b f = when (when (go f) (ask f)) (keeps_plain st (Node.number p n (normal neg c m d s e)) n b not_number f)

      keeps_array : (a : ℕ) (st : Stack) (n b : ℕ) → (Kept st → K) → Keeps i K (move (State.array a st) n b)
      unfolding move Holds Kept
      keeps_array a st n b f = when (go f) (when (go λ x. f (no_nodes (inside empty_array x))) (keeps_value (Frame.array a Nodes.nil ∷ st) n b λ x. f (no_nodes x)))

    -- From a state on, the machine goes over the bytes `p` to a member of an object in which the name `us` stands
    -- already; there, at `q`, stands a quote, and behind it characters that mean `us`.
    pub data Opened (s : State) (n : ℕ) (i : Bytes) : Type 0 where
      opened : {a m : ℕ} {p r o : Bytes} {ms : Members} {st : Stack}
          → Went C s n p (State.member a ms st) q → i ≡ p ++ (code "\"" ∷ r) → T (among us (names_of ms)) → Chars C (from (suc q) r) (from (suc m) o) us → Opened s n i

    -- One byte back: the state before holds it too, or the byte opens the name.
    module _ (i : Bytes) where
      back_close : (u : Use) (l : Units) (n : ℕ) {s : State} → Took C (close_move u (onto l []) n) s → Holds s (from (suc n) i) → InUse u (Goes (Chars C) l (from n (code "\"" ∷ i)))
      unfolding close_move InUse Holds
      back_close (Use.value a st) l n Took.go (inl x) = x
      back_close (Use.name k a ms st) l n (Took.ask _) x = naming_map (λ e. (n, i, [], Chars.close, e)) x
      back_close (Use.value a st) l n Took.go (inr x8) = elim x8 [ ]

      back_hex : (h : Left) (a : ℕ) (u : Use) (l : Units) (n b : ℕ) → T (is_hex b) → Holds (hex_state h (16 * a + hex_value b) u l) (from (suc n) i) → InUse u (Goes (HexRest C h a) l (from n (b ∷ i)))
      unfolding hex_state Holds onto
      back_hex Left.last a u l n b t = use_map u λ (m, o, r, x, e). (m, o, (16 * a + hex_value b) ∷ r, HexRest.last t Is.is x, e)
      back_hex (Left.more h) a u l n b t = use_map u λ (m, o, r, x, e). (m, o, r, HexRest.more t x, e)

      back_word : (ks : Bytes) (v : Literal) (a : ℕ) (st : Stack) (n : ℕ) → Holds (word_state ks v a st n) (from (suc n) i) → Kept st
      unfolding word_state Holds
      back_word [] v a st n (inl x) = x
      back_word (k ∷ ks) v a st n x = x
      back_word [] v a st n (inr x'') = elim x'' [ ]

      back_name : {a n b : ℕ} {ms : Members} {st : Stack} → T (eqb b (code "\"")) → Naming ms (Kept st) (Goes (Chars C) [] (from (suc n) i)) n
          → (Open q us ms ⊎ Kept st) ⊎ Opened (State.member a ms st) n (b ∷ i)
      unfolding onto
      back_name t (Naming.outer x) = inl (inr x)
      back_name t (Naming.before x) = inl (inl x)
      back_name {n = n} {b = b} t (Naming.name h (m, o, r, x, e)) = inr (Opened.opened Went.none (ap (λ b. b ∷ i) (eqb→eq b (code "\"") t)) h (rw e at x))

      back : (s : State) (n b : ℕ) {s' : State} → Took C (move s n b) s' → Holds s' (from (suc n) i) → Holds s (from n (b ∷ i)) ⊎ Opened s n (b ∷ i)
      unfolding move member_move Holds Kept onto InUse
      back (State.number ns p st) n b k x = inl (keeps_took (keeps_number (from (suc n) i) ns p st n b λ y. y) k x)
      back (State.value st) n b k x = inl (keeps_took (keeps_value (from (suc n) i) st n b λ y. y) k x)
      back (State.array a st) n b k x = inl (keeps_took (keeps_array (from (suc n) i) a st n b λ y. y) k x)
      back (State.object a st) n b (Took.yes _ Took.go) x = inl x
      back (State.object a st) n b (Took.no _ (Took.yes _ Took.go)) x = inl (no_open (inside empty_object x))
      back (State.object a st) n b (Took.no _ (Took.no _ (Took.yes _ Took.go))) x = inl (no_open x)
      back (State.object a st) n b (Took.no _ (Took.no _ (Took.no _ (Took.yes _ Took.go)))) x = inl (no_naming x)
      back (State.after st v) n b k x = inl (keeps_took (keeps_after (from (suc n) i) st v n b λ y. y) k x)
      back (State.literal c ks v a st) n b (Took.yes _ Took.go) x = inl (back_word ks v a st n x)
      back (State.chars u l) n b (Took.yes p Took.go) x = inl (use_map u (λ (m, o, r, y, e). (m, o, b ∷ r, Chars.plain p y, e)) x)
      back (State.chars u l) n b (Took.no _ (Took.yes p (Took.ask g))) x = inl (use_map u (λ (m, o, r, y, e). (m, o, b ∷ r, Chars.high p g y, e)) x)
      back (State.chars u l) n b (Took.no _ (Took.no _ (Took.yes p k))) x = inl (byte_at (code "\"") (λ b. InUse u (Goes (Chars C) l (from n (b ∷ i)))) p (back_close u l n k x))
      back (State.chars u l) n b (Took.no _ (Took.no _ (Took.no _ (Took.yes p Took.go)))) x =
          inl (byte_at (code "\\") (λ b. InUse u (Goes (Chars C) l (from n (b ∷ i)))) p (use_map u (λ (m, o, r, y, e). (m, o, r, Chars.escape y, e)) x))
      back (State.escape u l) n b (Took.yes p Took.go) x = inl (use_map u (λ (m, o, r, y, e). (m, o, escape_unit b ∷ r, Escape.short p Is.is y, e)) x)
      back (State.escape u l) n b (Took.no _ (Took.yes p Took.go)) x =
          inl (byte_at (code "u") (λ b. InUse u (Goes (Escape C) l (from n (b ∷ i)))) p (use_map u (λ (m, o, r, y, e). (m, o, r, escape_of C y, e)) x))
      back (State.hex h a u l) n b (Took.yes p Took.go) x = inl (back_hex h a u l n b p x)
      back (State.member a ms st) n b (Took.yes _ Took.go) x = inl x
      back (State.member a ms st) n b (Took.no _ (Took.yes p Took.go)) x = back_name p x
      back (State.named k l a ms st) n b (Took.yes _ Took.go) x = inl x
      back (State.named k l a ms st) n b (Took.no _ (Took.yes _ Took.go)) x = inl x
      back (Rattle.text.proofs.Machine.object a st) n b (Took.no _ (Took.no _ (Took.no _ (Took.no _ x74)))) x = elim x74 [ ]
      back (State.literal c ks v a st) n b (Took.no _ x21) x = elim x21 [ ]
      back (State.chars u l) n b (Took.no _ (Took.no _ (Took.no _ (Took.no _ x76)))) x = elim x76 [ ]
      back (State.escape u l) n b (Took.no _ (Took.no _ x41)) x = elim x41 [ ]
      back (State.hex h a u l) n b (Took.no _ x24) x = elim x24 [ ]
      back (State.member a ms st) n b (Took.no _ (Took.no _ x43)) x = elim x43 [ ]
      back (State.named k l a ms st) n b (Took.no _ (Took.no _ x44)) x = elim x44 [ ]

      back_on : {s s' : State} {n b : ℕ} → Took C (move s n b) s' → Holds s' (from (suc n) i) ⊎ Opened s' (suc n) i → Holds s (from n (b ∷ i)) ⊎ Opened s n (b ∷ i)
      back_on {s} {n = n} {b = b} k (inl x) = back s n b k x
      back_on {b = b} k (inr (Opened.opened w e t x)) = inr (Opened.opened (Went.step k w) (ap (λ i. b ∷ i) e) t x)

    -- All the way back.
    back_run : {s : State} {n : ℕ} {i : Bytes} {v : Node} → Run C s n i (Outcome.accepted v) → Twice q us v → Holds s (from n i) ⊎ Opened s n i
    unfolding Holds
    back_run (Run.ends Done.after) t = inl (inr t)
    back_run (Run.ends Done.zero) t = absurd (not_number t)
    back_run (Run.ends Done.whole) t = absurd (not_number t)
    back_run (Run.ends Done.fraction) t = absurd (not_number t)
    back_run (Run.ends Done.power) t = absurd (not_number t)
    back_run (Run.on {t = i} k ρ) t = back_on i k (back_run ρ t)

    back_went : {s s' : State} {n j : ℕ} {p : Bytes} (i : Bytes) → Went C s n p s' j → Holds s' (from j i) → Holds s (from n (p ++ i)) ⊎ Opened s n (p ++ i)
    back_went i Went.none x = inl x
    back_went i (Went.step {p = p} k w) x = back_on (p ++ i) k (back_went i w x)

    at_start : {i : Bytes} → Holds initial (from 0 i) ⊎ Opened initial 0 i → Opened initial 0 i
    unfolding Holds Kept
    at_start (inl x) = absurd x
    at_start (inr x) = x

    -- A name that stands twice in the value of a text was opened, ...
    pub twice_opened : {i : Bytes} {v : Node} → Run C initial 0 i (Outcome.accepted v) → Twice q us v → Opened initial 0 i
    twice_opened ρ t = at_start (back_run ρ t)

    -- ... and so was one whose closing quote comes next.
    pub name_opened : {a j : ℕ} {l : Units} {ms : Members} {st : Stack} {p : Bytes} (i : Bytes)
        → Went C initial 0 p (State.chars (Use.name q a ms st) l) j → T (among us (names_of ms)) → onto l [] ≡ us → Opened initial 0 (p ++ (code "\"" ∷ i))
    unfolding Holds InUse
    name_opened {j = j} i w t e = at_start (back_went (code "\"" ∷ i) w (Naming.name t (j, i, [], Chars.close, e)))
