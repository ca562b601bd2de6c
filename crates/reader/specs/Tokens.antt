-- What each token of a text does to the answer.
use Prim.Native.Char.{code}
use Rattle.std.specs.Prelude.{ℕ, suc, ◌+◌, ◌*◌, ◌<◌, ◌≤◌, eqb, drop, get_or, length, take, Bool, ◌||◌, [], ◌∷◌, ◌++◌, ◌≡◌, Option, Some, None, Result, Ok, Err}
use Rattle.members.specs.Names.{name_at}
use Rattle.members.specs.Records.{word_of}
use Rattle.names.specs.Units.{closing}
use Rattle.reader.specs.Repeats.{repeats}
use Rattle.reader.specs.declared.value.Value.{Value}
use Rattle.scan.specs.Answers.{Judge, Leaf, at, refused}
use Rattle.scan.specs.Refusals.{number_of, place_of}
use Rattle.scan.specs.Space.{Dense}
use Rattle.scan.specs.Strings.{judged}
use Rattle.scan.specs.declared.refusal.Refusal.{Refusal}
use Rattle.text.proofs.Machine.{Frame, Stack, State, depth_of}
use Rattle.text.proofs.Offsets.{end, start}
use Rattle.text.specs.Bytes.{Bytes, Units}
use Rattle.text.specs.Ceilings.{max_depth}
use Rattle.text.specs.Node.{Members, Node, Nodes}
use Rattle.text.specs.Table.{Words, record_words, records, size}
use Rattle.text.specs.Verdict.{Outcome}

-- What opens an array, and what opens an object.
abbrev pub bracket : ℕ
bracket = code "["

abbrev pub brace : ℕ
brace = code "{"

abbrev pub opens_container : ℕ → Bool
opens_container b = eqb b bracket || eqb b brace

-- The table with the record `n` put into it.
unfoldable pub put_at : Words → ℕ → ℕ → ℕ → ℕ → ℕ → Words
put_at w n a b c d = take (record_words * n) w ++ ((a ∷ b ∷ c ∷ d ∷ []) ++ drop (record_words * n + record_words) w)

-- A value without values inside it, from `i` up to `j`.
pub record Flat (v : Node) (i j : ℕ) : Type 0 where
  pub one : size v ≡ 1
  pub words : (m k : ℕ) → records v m k ≡ i ∷ j ∷ m ∷ suc k ∷ []
  pub none : repeats v ≡ []
  pub starts : start v ≡ i
  pub ends : end v ≡ j

pub record Scalar (t : Bytes) (i j : ℕ) : Type 0 where
  pub what : Node
  pub flat : Flat what i j
  pub same : (st : Stack) → at t (State.value st) i ≡ at t (State.after st what) j

abbrev pub ScalarAt : Bytes → ℕ → Result ℕ Refusal → Type 0
ScalarAt t i = Leaf t i (Scalar t i) (λ k p. (st : Stack) → at t (State.value st) i ≡ refused k p)

-- A whole value inside `d` open containers, with the whitespace behind it up to `p`, and its record.
pub record Whole (t : Bytes) (tab tab' : Words) (i : ℕ) (nm : Option ℕ) (n d p : ℕ) : Type 0 where
  pub what : Node
  pub behind : ℕ
  pub flat : Flat what i behind
  pub inside : (i < behind) × (behind ≤ p) × (p ≤ length t)
  pub dense : Dense t p
  pub put : tab' ≡ put_at tab n i behind (word_of nm) (n + 1)
  pub same : (st : Stack) → d ≡ depth_of st → at t (State.value st) i ≡ at t (State.after st what) p

-- A container that opens at `i` with the bracket `b` inside `d` others, and what is due in it at `p`.
pub data Opening (t : Bytes) (i p d b : ℕ) : Type 0 where
  array : b ≡ bracket → ((st : Stack) → d ≡ depth_of st → at t (State.value st) i ≡ at t (State.value (Frame.array i Nodes.nil ∷ st)) p) → Opening t i p d b
  object : b ≡ brace → ((st : Stack) → d ≡ depth_of st → at t (State.value st) i ≡ at t (State.member i Members.empty st) p) → Opening t i p d b

-- The same, and its record, which names the record `op` around it.
pub record Opened (t : Bytes) (tab tab' : Words) (i : ℕ) (nm : Option ℕ) (n op d p : ℕ) : Type 0 where
  pub low : d < max_depth
  pub inside : (i < p) × (p ≤ length t)
  pub dense : Dense t p
  pub put : tab' ≡ put_at tab n i 0 (word_of nm) op
  pub opening : Opening t i p d (get_or t i 0)

-- A value begins at `i`: it is read whole, or it opens and holds others, or the text is refused.
abbrev pub ValueAt : Bytes → Words → Words → ℕ → Option ℕ → ℕ → ℕ → ℕ → Result Value Refusal → Type 0
ValueAt t tab tab' i nm n op d (Ok (Value.Whole p)) = Whole t tab tab' i nm n d p
ValueAt t tab tab' i nm n op d (Ok (Value.Opened p)) = Opened t tab tab' i nm n op d p
ValueAt t tab tab' i nm n op d (Err e) = (tab' ≡ tab) × ((st : Stack) → d ≡ depth_of st → at t (State.value st) i ≡ refused (number_of e) (place_of e))

-- A name whose opening quote stands at `i`; where it passes, the answer is `A`.
pub record Name (t : Bytes) (i : ℕ) (A : ℕ → Members → Units → Stack → Judge → Outcome) : Type 0 where
  pub units : Units
  pub place : ℕ
  pub inside : i < length t
  pub means : name_at t i ≡ units
  pub closes : closing (suc i) (drop (suc i) t) ≡ place
  pub same : (a : ℕ) (ms : Members) (st : Stack) → at t (State.member a ms st) i ≡ judged place ms units (A a ms units st)

-- What stands at `i` before a value inside the bracket `b`: nothing in an array, a name and its colon in an object. The
-- value is due at `p`, or the text is refused, behind a name or without one.
pub data EntryAt (t : Bytes) (i b : ℕ) : Option ℕ → Result ℕ Refusal → Type 0 where
  element : b ≡ bracket → EntryAt t i b None (Ok i)
  member : {p : ℕ} → b ≡ brace → i < p → p ≤ length t → Dense t p → Name t i (λ a ms us st. at t (State.value (Frame.object a ms i us ∷ st)) p) → EntryAt t i b (Some i) (Ok p)
  nameless : {e : Refusal} → b ≡ brace → ((a : ℕ) (ms : Members) (st : Stack) → at t (State.member a ms st) i ≡ refused (number_of e) (place_of e)) → EntryAt t i b None (Err e)
  named : {e : Refusal} → b ≡ brace → Name t i (λ a ms us st. refused (number_of e) (place_of e)) → EntryAt t i b (Some i) (Err e)
