-- The three demands on the entries. Each clause stands behind the words that it says, in their order, and is proved by
-- citing what the other files prove: whoever believes the definitions in `specs/` of text, meaning and entries has
-- nothing else to read. That the code keeps to the entries is what its public functions ensure.
use Prim.Native.Nat.{◌*◌, ◌<◌, ◌≤◌, ℕ}
use Rattle.entries.proofs.Outcomes.{finder, finder_only, finder_right, merger, merger_only, merger_right, part_finder, part_finder_one, part_finder_only, part_finder_right, reader, reader_only, reader_right, writer, writer_only, writer_right}
use Rattle.entries.proofs.Promises.{Merged, Written, accepts, merged_text, merger_refused, refuses, writer_refused, writes_back, written_text}
use Rattle.entries.proofs.Readings.{ready_text, stop_number}
use Rattle.entries.proofs.Slices.{finder_length, merger_length, part_inside, part_some, part_finder_length, reader_length, writer_length}
use Rattle.entries.specs.Answer.{Answer, Read, Reading, Writing, max_text, over, refusal, success}
use Rattle.entries.specs.Entries.{Finder, Merger, PartFinder, Reader, Writer}
use Rattle.meaning.proofs.Demand2.{canonical_one, merge_back}
use Rattle.meaning.proofs.Demand2 as demand2
use Rattle.meaning.specs.Canonical.{Canonical}
use Rattle.meaning.specs.Lookup.{Seen, resolve}
use Rattle.meaning.specs.Meaning.{mean, meaning, tree}
use Rattle.meaning.specs.Merge.{merge}
use Rattle.meaning.specs.Pointer.{Malformed, Pointer, Token}
use Rattle.text.proofs.Demand3.{number_of_refusal, one_meaning, place_longest}
use Rattle.text.proofs.Offsets.{end, start}
use Rattle.text.specs.Bytes.{Bytes}
use Rattle.text.specs.Ceilings.{house}
use Rattle.text.specs.Grammar.{Text}
use Rattle.text.specs.Node.{Node}
use Rattle.text.specs.Table.{Words, record_words, size, table}
use Rattle.text.specs.Verdict.{Longest, Outcome, Verdict, Viable}
use lib.ListN.{length, replicate, take}
use mathlib.Core.List.{List}
use mathlib.Core.Logic.{◌↔◌}
use mathlib.Core.Path.{◌∙◌, ◌≡◌, ap, refl, subst, subst₂}
use native.Mathlib.Omega.{arith}

-- One thing fits, and no other.
abbrev pub Sole : {A : Type 0} → (A → Type 0) → Type 0
Sole {A} Fits = (a : A) × Fits a × ((b : A) → Fits b → a ≡ b)

-- What an entry may blame besides its texts, by number and input: nothing, the pointer, or the output.
abbrev pub NoOther : ℕ → ℕ → Type 0
NoOther n i = ⊥

abbrev pub OfPointer : ℕ → ℕ → Type 0
OfPointer n i = (10 ≤ n) × (n ≤ 11) × (i ≡ 2)

abbrev pub OfOutput : ℕ → ℕ → Type 0
OfOutput n i = (12 ≤ n) × (n ≤ 13) × (i ≡ 3)

-- The answers of an entry that reads so many texts: in every refusal the count is 0, and in 1 and 2 the place is.
pub data Answers (texts : ℕ) (Other : ℕ → ℕ → Type 0) : Answer → Type 0 where
  accepted : {c : ℕ} → Answers texts Other (success c)
  text : {n i p : ℕ} → 1 ≤ n → n ≤ 9 → (n ≤ 2 → p ≡ 0) → 1 ≤ i → i ≤ texts → Answers texts Other (refusal n i p)
  other : {n i p : ℕ} → Other n i → Answers texts Other (refusal n i p)

-- The text `t` of the value `v` is read with the table `w`: neither 1 nor 2 applies.
abbrev pub Taken : Bytes → Words → Node → Type 0
Taken t w v = (length t ≤ max_text) × (record_words * length t ≤ length w) × Text house t v

-- The table of the text `t`, which held `w`: its records stand in it, ...
pub data Stands (t : Bytes) (w : Words) : Words → Type 0 where
  records : {v : Node} → Text house t v → Stands t w (over (table v) w)

-- ... or it is as a refusal with the number `n` leaves it, ...
pub data Left (t : Bytes) (w : Words) (n : ℕ) : Words → Type 0 where
  untouched : n ≤ 2 → Left t w n w
  cleared : 3 ≤ n → n ≤ 9 → Left t w n (over (replicate (record_words * length t) 0) w)
  standing : {w' : Words} → 10 ≤ n → Stands t w w' → Left t w n w'

-- ... and so are the tables of target and patch, by the input at fault.
pub data LeftBoth (t : Bytes) (w : Words) (p : Bytes) (x : Words) (n : ℕ) : ℕ → Words → Words → Type 0 where
  target : {w' : Words} → Left t w n w' → LeftBoth t w p x n 1 w' x
  patch : {w' x' : Words} → Stands t w w' → Left p x n x' → LeftBoth t w p x n 2 w' x'
  output : {w' x' : Words} → Stands t w w' → Stands p x x' → LeftBoth t w p x n 3 w' x'

pub record Demand1 : Type 0 where
  -- "Any bytes may be handed to any public entry."
  pub read_any : (t : Bytes) (w : Words) → Sole (λ ((a, w') : Answer × Words). Reader t w a w')
  pub write_any : (t : Bytes) (w : Words) (o : Bytes) → Sole (λ ((a, w', o') : Answer × Words × Bytes). Writer t w o a w' o')
  pub find_any : (t : Bytes) (w : Words) (p : Bytes) → Sole (λ ((a, w') : Answer × Words). Finder t w p a w')
  pub part_any : (t : Bytes) (w : Words) (p : Bytes) → Sole (λ ((b, e, w') : ℕ × ℕ × Words). PartFinder t w p b e w')
  pub merge_any : (t : Bytes) (w : Words) (p : Bytes) (x : Words) (o : Bytes) → Sole (λ ((a, w', x', o') : Answer × Words × Words × Bytes). Merger t w p x o a w' x' o')
  -- "It ends, stays inside the lent memory and asks nothing of the caller first (no `requires`)": of the code this is
  -- checked with each function; of the entries, every slice keeps its length, and a part lies inside the text.
  pub inside : {t p o o' : Bytes} {w x w' x' : Words} {a : Answer} {b e : ℕ}
      → (Reader t w a w' → length w' ≡ length w)
      × (Writer t w o a w' o' → (length w' ≡ length w) × (length o' ≡ length o))
      × (Finder t w p a w' → length w' ≡ length w)
      × (PartFinder t w p b e w' → (length w' ≡ length w) × (b ≤ e) × (e ≤ length t))
      × (Merger t w p x o a w' x' o' → (length w' ≡ length w) × (length x' ≡ length x) × (length o' ≡ length o))
  -- "A refusal gives its number, the input at fault and the place": that of 12 and 13 is the length needed; those of 3 to 9
  -- are in demand 3, and those of 10 and 11 in demand 2.
  pub told : {t p o o' : Bytes} {w x w' x' : Words} {a : Answer}
      → (Reader t w a w' → Answers 1 NoOther a)
      × (Writer t w o a w' o' → Answers 1 OfOutput a)
      × (Finder t w p a w' → Answers 1 OfPointer a)
      × (Merger t w p x o a w' x' o' → Answers 2 OfOutput a)
  pub needed : {t p o o' c : Bytes} {w x w' x' : Words} {v u : Node} {n q : ℕ} → Text house t v
      → (Canonical (meaning v) c → Writer t w o (refusal n 3 q) w' o' → q ≡ length c)
      × (Text house p u → Canonical (mean (merge (tree v) (tree u))) c → Merger t w p x o (refusal n 3 q) w' x' o' → q ≡ length c)
  -- "or only the empty part from an entry that hands back a part;"
  pub empty : {t p : Bytes} {w w' w'' : Words} {b e n i q : ℕ} → PartFinder t w p b e w''
      → (Finder t w p (refusal n i q) w' → 0 < n → (b ≡ 0) × (e ≡ 0)) × (Finder t w p (success n) w' → b < e)
  -- "an output buffer is then as at entry,"
  pub untouched : {t p o o' : Bytes} {w x w' x' : Words} {n i q : ℕ} → 0 < n
      → (Writer t w o (refusal n i q) w' o' → o' ≡ o) × (Merger t w p x o (refusal n i q) w' x' o' → o' ≡ o)
  -- "and a record table holds what document 01 fixes."
  pub tables : {t p o o' : Bytes} {w x w' x' w'' : Words} {n i q b e : ℕ} → 0 < n
      → (Reader t w (refusal n i q) w' → Left t w n w')
      × (Writer t w o (refusal n i q) w' o' → Left t w n w')
      × (Finder t w p (refusal n i q) w' → Left t w n w' × (PartFinder t w p b e w'' → w'' ≡ w'))
      × (Merger t w p x o (refusal n i q) w' x' o' → LeftBoth t w p x n i w' x')

pub record Demand2 : Type 0 where
  -- "Writer, look-up and patch agree with RFC 8259, 6901 and 7396 under 01's house rules": what is written is the
  -- canonical text of what the text means, or of the merge of target and patch, and it is written wherever it fits; ...
  pub writer : {t o o' : Bytes} {w w' : Words} {n : ℕ} → Writer t w o (success n) w' o'
      → (v : Node) × Text house t v × Canonical (meaning v) (take n o')
  pub writes : {t o c : Bytes} {w : Words} {v : Node} → Taken t w v → Canonical (meaning v) c → length c ≤ max_text → length c ≤ length o
      → Writer t w o (success (length c)) (over (table v) w) (over c o)
  pub merger : {t p o o' : Bytes} {w x w' x' : Words} {n : ℕ} → Merger t w p x o (success n) w' x' o'
      → (v u r : Node) × Text house t v × Text house p u × Canonical (mean (merge (tree v) (tree u))) (take n o')
      × Text house (take n o') r × (meaning r ≡ mean (merge (tree v) (tree u)))
  pub merges : {t p o c : Bytes} {w x : Words} {v u : Node} → Taken t w v → Taken p x u → Canonical (mean (merge (tree v) (tree u))) c → length c ≤ max_text → length c ≤ length o
      → Merger t w p x o (success (length c)) (over (table v) w) (over (table u) x) (over c o)
  -- ... and the look-up finds what the pointer's tokens resolve to, with its offsets, or says where the pointer is
  -- malformed or its way is lost.
  pub finder : {t p : Bytes} {w w' : Words} {n : ℕ} → Finder t w p (success n) w'
      → (v u : Node) × (ts : List Token) × Text house t v × Pointer p ts × (resolve ts 0 v ≡ Seen.found n u)
  pub finds : {t p : Bytes} {w : Words} {v u : Node} {ts : List Token} {n : ℕ} → Taken t w v → Pointer p ts → resolve ts 0 v ≡ Seen.found n u
      → Finder t w p (success n) (over (table v) w) × PartFinder t w p (start u) (end u) (over (table v) w)
  pub malformed : {t p : Bytes} {w w' : Words} {q : ℕ} → Finder t w p (refusal 10 2 q) w' → Malformed p q
  pub lost : {t p : Bytes} {w w' : Words} {q : ℕ} → Finder t w p (refusal 11 2 q) w'
      → (v : Node) × (ts : List Token) × Text house t v × Pointer p ts × (resolve ts 0 v ≡ Seen.lost q)
  -- "Two accepted texts have the same canonical bytes exactly when they mean the same,"
  pub same : {s t c d : Bytes} {v u : Node} → Text house s v → Text house t u → Canonical (meaning v) c → Canonical (meaning u) d → (c ≡ d) ↔ (meaning v ≡ meaning u)
  -- "and canonical bytes read back to that meaning whenever the writer gives them."
  pub back : {t o o' : Bytes} {w w' : Words} {n : ℕ} {v : Node} → Writer t w o (success n) w' o' → Text house t v
      → (u : Node) × Text house (take n o') u × (meaning u ≡ meaning v)
      × ((x : Words) → record_words * length (take n o') ≤ length x → Reader (take n o') x (success (size u)) (over (table u) x))

-- "For a text of at most 1,048,576 bytes and a table of four words for each byte,"
pub record Demand3 (t : Bytes) (w : Words) (short : length t ≤ max_text) (wide : record_words * length t ≤ length w) : Type 0 where
  -- "the reader accepts exactly the texts of the grammar, written down apart from any reader, within 64 open containers,
  -- 01's number limits, ASCII, and no object with one name twice;"
  pub accepts : ((n : ℕ) × (x : Words) × Reader t w (success n) x) ↔ ((v : Node) × Text house t v)
  -- (The count and the table are then those of the text's value.)
  pub records : {n : ℕ} {x : Words} → Reader t w (success n) x → (v : Node) × Text house t v × (n ≡ size v) × (x ≡ over (table v) w)
  -- "each has one meaning only."
  pub one : {v u : Node} → Text house t v → Text house t u → meaning v ≡ meaning u
  -- "For every other text the place is the length of its longest prefix that some continuation, of any length, would make
  -- acceptable,"
  pub other : ((v : Node) → ¬ (Text house t v)) → (n p : ℕ) × (x : Words) × Reader t w (refusal n 1 p) x
  pub place : {n p : ℕ} {x : Words} → Reader t w (refusal n 1 p) x → Longest (Viable house) t p
  -- "and the number is the one 01 gives there."
  pub number : (n p : ℕ) → ((x : Words) × Reader t w (refusal n 1 p) x) ↔ Verdict house t (Outcome.refused n p)

-- The proofs. What a reading tells, and how it leaves its table.
reading_told : {k texts : ℕ} {Other : ℕ → ℕ → Type 0} {t : Bytes} {w w' : Words} {a : Answer} → 1 ≤ k → k ≤ texts → Reading k t w (Read.stop a w') → Answers texts Other a
reading_told h g (Reading.long l) = Answers.text {n = 1} (omega arith) (omega arith) (λ l. refl) h g
reading_told h g (Reading.narrow l m) = Answers.text {n = 2} (omega arith) (omega arith) (λ l. refl) h g
reading_told h g (Reading.refused {n = n} l m v) = let (a, b) = number_of_refusal v in Answers.text {n = n} (omega arith) b (λ l. absurd (omega arith)) h g

reading_left : {k n i q c : ℕ} {t : Bytes} {w w' : Words} → Reading k t w (Read.stop (Answer.answer n i q c) w') → Left t w n w'
reading_left (Reading.long l) = Left.untouched (omega arith)
reading_left (Reading.narrow l m) = Left.untouched (omega arith)
reading_left (Reading.refused l m v) = let (a, b) = number_of_refusal v in Left.cleared a b

reading_input : {k n i q c : ℕ} {t : Bytes} {w w' : Words} → Reading k t w (Read.stop (Answer.answer n i q c) w') → k ≡ i
reading_input (Reading.long l) = refl
reading_input (Reading.narrow l m) = refl
reading_input (Reading.refused l m v) = refl

ready_stands : {k : ℕ} {t : Bytes} {w : Words} {v : Node} {w' : Words} → Reading k t w (Read.ready v w') → Stands t w w'
ready_stands (Reading.accepted l m x) = Stands.records x

writing_told : {texts : ℕ} {c o o' : Bytes} {a : Answer} → Writing c o a o' → Answers texts OfOutput a
writing_told (Writing.long l) = Answers.other {n = 13} (omega arith, omega arith, refl)
writing_told (Writing.narrow l m) = Answers.other {n = 12} (omega arith, omega arith, refl)
writing_told (Writing.written l m) = Answers.accepted

writing_blames : {n i q k : ℕ} {c o o' : Bytes} → 0 < n → Writing c o (Answer.answer n i q k) o' → (10 ≤ n) × (3 ≡ i)
writing_blames h (Writing.long l) = (omega arith, refl)
writing_blames h (Writing.narrow l m) = (omega arith, refl)
writing_blames h (Writing.written l m) = absurd (omega arith)

-- The place of 12 and 13.
writing_place : {n i q k : ℕ} {c o o' : Bytes} → i ≡ 3 → Writing c o (Answer.answer n i q k) o' → q ≡ length c
writing_place e (Writing.long l) = refl
writing_place e (Writing.narrow l m) = refl
writing_place e (Writing.written l m) = absurd (omega (arith, e))

writer_place : {n i q k : ℕ} {t o o' c : Bytes} {w w' : Words} {v : Node} → i ≡ 3 → Text house t v → Canonical (meaning v) c → Writer t w o (Answer.answer n i q k) w' o' → q ≡ length c
writer_place e x y (Writer.stop r) = absurd (omega (arith, e, reading_input r))
writer_place {t = t} {c = c} e x y (Writer.done {c = d} r z a) =
    writing_place e a ∙ ap length (canonical_one (subst (λ v. Canonical (meaning v) d) (one_meaning t (ready_text r) x) z) y)

merger_place : {n i q k : ℕ} {t p o o' c : Bytes} {w x w' x' : Words} {v u : Node} → i ≡ 3 → Text house t v → Text house p u
    → Canonical (mean (merge (tree v) (tree u))) c → Merger t w p x o (Answer.answer n i q k) w' x' o' → q ≡ length c
merger_place e f g y (Merger.stop r) = absurd (omega (arith, e, reading_input r))
merger_place e f g y (Merger.stop_patch r s) = absurd (omega (arith, e, reading_input s))
merger_place {t = t} {p = p} e f g y (Merger.done {c = d} r s z a) =
    writing_place e a
    ∙ ap length (canonical_one (subst₂ (λ v u. Canonical (mean (merge (tree v) (tree u))) d) (one_meaning t (ready_text r) f) (one_meaning p (ready_text s) g) z) y)

-- The same of each entry.
reader_told : {t : Bytes} {w w' : Words} {a : Answer} → Reader t w a w' → Answers 1 NoOther a
reader_told (Reader.stop r) = reading_told (omega arith) (omega arith) r
reader_told (Reader.done r) = Answers.accepted

writer_told : {t o o' : Bytes} {w w' : Words} {a : Answer} → Writer t w o a w' o' → Answers 1 OfOutput a
writer_told (Writer.stop r) = reading_told (omega arith) (omega arith) r
writer_told (Writer.done r x y) = writing_told y

finder_told : {t p : Bytes} {w w' : Words} {a : Answer} → Finder t w p a w' → Answers 1 OfPointer a
finder_told (Finder.stop r) = reading_told (omega arith) (omega arith) r
finder_told (Finder.malformed r x) = Answers.other {n = 10} (omega arith, omega arith, refl)
finder_told (Finder.lost r x e) = Answers.other {n = 11} (omega arith, omega arith, refl)
finder_told (Finder.found r x e) = Answers.accepted

merger_told : {t p o o' : Bytes} {w x w' x' : Words} {a : Answer} → Merger t w p x o a w' x' o' → Answers 2 OfOutput a
merger_told (Merger.stop r) = reading_told (omega arith) (omega arith) r
merger_told (Merger.stop_patch r s) = reading_told (omega arith) (omega arith) s
merger_told (Merger.done r s x y) = writing_told y

reader_left : {n i q k : ℕ} {t : Bytes} {w w' : Words} → 0 < n → Reader t w (Answer.answer n i q k) w' → Left t w n w'
reader_left h (Reader.stop r) = reading_left r
reader_left h (Reader.done r) = absurd (omega arith)

writer_left : {n i q k : ℕ} {t o o' : Bytes} {w w' : Words} → 0 < n → Writer t w o (Answer.answer n i q k) w' o' → Left t w n w'
writer_left h (Writer.stop r) = reading_left r
writer_left h (Writer.done r x y) = Left.standing (writing_blames h y).0 (ready_stands r)

finder_left : {n i q k : ℕ} {t p : Bytes} {w w' : Words} → 0 < n → Finder t w p (Answer.answer n i q k) w' → Left t w n w'
finder_left h (Finder.stop r) = reading_left r
finder_left h (Finder.malformed r x) = Left.standing (omega arith) (ready_stands r)
finder_left h (Finder.lost r x e) = Left.standing (omega arith) (ready_stands r)
finder_left h (Finder.found r x e) = absurd (omega arith)

blamed : {n i j : ℕ} {t p : Bytes} {w x w' x' : Words} → i ≡ j → LeftBoth t w p x n i w' x' → LeftBoth t w p x n j w' x'
blamed {n} {t = t} {p} {w} {x} {w'} {x'} e = subst (λ i. LeftBoth t w p x n i w' x') e

merger_left : {n i q k : ℕ} {t p o o' : Bytes} {w x w' x' : Words} → 0 < n → Merger t w p x o (Answer.answer n i q k) w' x' o' → LeftBoth t w p x n i w' x'
merger_left h (Merger.stop r) = blamed (reading_input r) (LeftBoth.target (reading_left r))
merger_left h (Merger.stop_patch r s) = blamed (reading_input s) (LeftBoth.patch (ready_stands r) (reading_left s))
merger_left h (Merger.done r s y z) = blamed (writing_blames h z).1 (LeftBoth.output (ready_stands r) (ready_stands s))

-- A part is empty where the look-up is refused, and nowhere else.
empty_part : {t p : Bytes} {w w' w'' : Words} {b e n i q : ℕ} → PartFinder t w p b e w'' → Finder t w p (refusal n i q) w' → 0 < n → (b ≡ 0) × (e ≡ 0)
empty_part x y h = let (b, e, _) = part_finder_one x (PartFinder.none h y) in (b, e)

some_part : {t p : Bytes} {w w' w'' : Words} {b e n : ℕ} → PartFinder t w p b e w'' → Finder t w p (success n) w' → b < e
some_part x (Finder.stop r) = absurd (omega (arith, stop_number r))
some_part x (Finder.found r y f) = let (z, l) = part_some r y f in let (b, e, _) = part_finder_one x z in omega (arith, b, e, l)

pub demand_1 : Demand1
demand_1 =
    record {
      read_any = λ t w. (reader t w, reader_right t w, λ b x. reader_only x);
      write_any = λ t w o. (writer t w o, writer_right t w o, λ b x. writer_only x);
      find_any = λ t w p. (finder t w p, finder_right t w p, λ b x. finder_only x);
      part_any = λ t w p. (part_finder t w p, part_finder_right t w p, λ b x. part_finder_only x);
      merge_any = λ t w p x o. (merger t w p x o, merger_right t w p x o, λ b x. merger_only x);
      inside = (reader_length, writer_length, finder_length, (λ x. let (i, j) = part_inside x in (part_finder_length x, i, j)), merger_length);
      told = (reader_told, writer_told, finder_told, merger_told);
      needed = λ x. (writer_place refl x, merger_place refl x);
      empty = λ x. (empty_part x, some_part x);
      untouched = λ h. (λ x. (writer_refused h x).1, λ x. (merger_refused h x).1);
      tables = λ h. (reader_left h, writer_left h, (λ x. (finder_left h x, λ y. (part_finder_one y (PartFinder.none h x)).2)), merger_left h);
    }

pub demand_2 : Demand2
demand_2 =
    record {
      writer = λ r. let (v, x, y, _) = written_text (Written.written r refl) in (v, x, y);
      writes = λ (l, m, x) y g h. Writer.done (Reading.accepted l m x) y (Writing.written g h);
      merger = λ r.
          let (v, u, x, y, z) = merged_text (Merged.merged r refl) in
          let (s, a, e) = merge_back x y z in
          (v, u, s, x, y, z, a, e);
      merges = λ (l, m, x) (i, j, y) z g h. Merger.done (Reading.accepted l m x) (Reading.accepted i j y) z (Writing.written g h);
      finder = found;
      finds = λ (l, m, x) y e. (Finder.found (Reading.accepted l m x) y e, (part_some (Reading.accepted l m x) y e).0);
      malformed = ill_formed;
      lost = gone;
      same = demand2.demand_2;
      back = λ r x. writes_back (Written.written r refl) x;
    }
  where
    found : {t p : Bytes} {w w' : Words} {n : ℕ} → Finder t w p (success n) w' → (v u : Node) × (ts : List Token) × Text house t v × Pointer p ts × (resolve ts 0 v ≡ Seen.found n u)
    found (Finder.stop r) = absurd (omega (arith, stop_number r))
    found (Finder.found {v = v} {u = u} {ts = ts} r x e) = (v, u, ts, ready_text r, x, e)

    ill_formed : {t p : Bytes} {w w' : Words} {q : ℕ} → Finder t w p (refusal 10 2 q) w' → Malformed p q
    ill_formed (Finder.malformed r x) = x
    ill_formed (Rattle.entries.specs.Entries.stop x3) = elim x3 [ ]

    gone : {t p : Bytes} {w w' : Words} {q : ℕ} → Finder t w p (refusal 11 2 q) w' → (v : Node) × (ts : List Token) × Text house t v × Pointer p ts × (resolve ts 0 v ≡ Seen.lost q)
    gone (Finder.lost {v = v} {ts = ts} r x e) = (v, ts, ready_text r, x, e)
    gone (Rattle.entries.specs.Entries.stop x3) = elim x3 [ ]

pub demand_3 : (t : Bytes) (w : Words) (short : length t ≤ max_text) (wide : record_words * length t ≤ length w) → Demand3 t w short wide
demand_3 t w short wide =
    record {
      accepts = accepts short wide;
      records = stored refl;
      one = λ x y. ap meaning (one_meaning t x y);
      other = λ f. refused f (reader_right t w);
      place = λ {n} {p} {x} r. place_longest ((refuses short wide n p).0 (x, r));
      number = refuses short wide;
    }
  where
    stored : {n i p k : ℕ} {x : Words} → n ≡ 0 → Reader t w (Answer.answer n i p k) x → (v : Node) × Text house t v × (k ≡ size v) × (x ≡ over (table v) w)
    stored e (Reader.stop r) = absurd (omega (arith, e, stop_number r))
    stored e (Reader.done (Reading.accepted {v = v} l m x)) = (v, x, refl, refl)

    refused : ((v : Node) → ¬ (Text house t v)) → {a : Answer} {x : Words} → Reader t w a x → (n p : ℕ) × (x : Words) × Reader t w (refusal n 1 p) x
    refused f {x = x} (Reader.stop (Reading.long l)) = (1, 0, x, Reader.stop (Reading.long l))
    refused f {x = x} (Reader.stop (Reading.narrow l m)) = (2, 0, x, Reader.stop (Reading.narrow l m))
    refused f {x = x} (Reader.stop (Reading.refused {n = n} {p = p} l m v)) = (n, p, x, Reader.stop (Reading.refused l m v))
    refused f (Reader.done {v = v} r) = absurd (f v (ready_text r))
