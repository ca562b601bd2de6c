-- What may still follow in each state of the machine, in the grammar's words: `Follows C s w r` says that in the state
-- `s` the bytes `w` go on to make the whole text the value `r`.
use Prim.Native.Nat.{◌*◌, ◌+◌, suc, ℕ}
use Rattle.text.proofs.Digits.{and_digit, count_all, count_append, count_from, value_append}
use Rattle.text.proofs.Machine.{Frame, Left, Move, Numeral, Stack, State, Use, depth_of, names_of, onto, onto_members, onto_nodes}
use Rattle.text.specs.Bytes.{Bytes, Source, Units, from, hex_value, is_digit, is_hex, value_from}
use Rattle.text.specs.Ceilings.{Ceilings, Gate}
use Rattle.text.specs.Decimal.{Decimal, normal}
use Rattle.text.specs.Grammar.{Array, Elements, End, Member, Named, Object, Rest, Value}
use Rattle.text.specs.Node.{Literal, Members, Node, Nodes}
use Rattle.text.specs.Numbers.{Allowed, Digits, Fraction, Minus, Number, Power, Sign, Whole}
use Rattle.text.specs.Strings.{Chars, Escape, Is, Word}
use lib.Dec.{T}
use lib.ListN.{length}
use mathlib.Core.Bool.{Bool, not, true}
use mathlib.Core.List.{[], ◌++◌, ◌∷◌}

-- Behind a value `v` inside the containers `st`.
pub data After (C : Ceilings) : Stack → Node → Source → Node → Type 0 where
  top : {v : Node} {w : Source} → End w → After C [] v w v
  array : {vs l : Nodes} {st : Stack} {v r : Node} {w : Source} {a q : ℕ} {o : Bytes}
      → Elements C (suc (depth_of st)) w (from q o) l → After C st (Node.array a q (onto_nodes vs (Nodes.cons v l))) (from q o) r → After C (Frame.array a vs ∷ st) v w r
  object : {ms l : Members} {us : Units} {st : Stack} {v r : Node} {w : Source} {a q k : ℕ} {o : Bytes}
      → Rest C (suc (depth_of st)) (us ∷ names_of ms) w (from q o) l → After C st (Node.object a q (onto_members ms (Members.member k us v l))) (from q o) r → After C (Frame.object a ms k us ∷ st) v w r

-- Behind the name `us` of a member.
pub data AfterName (C : Ceilings) : ℕ → ℕ → Members → Stack → Units → Source → Node → Type 0 where
  named : {ms l : Members} {st : Stack} {us : Units} {w : Source} {k a q : ℕ} {o : Bytes} {r : Node}
      → Named C (suc (depth_of st)) (names_of ms) k us w (from q o) l → After C st (Node.object a q (onto_members ms l)) (from q o) r → AfterName C k a ms st us w r

-- Behind a string.
pub data Closed (C : Ceilings) : Use → Units → Source → Node → Type 0 where
  value : {st : Stack} {us : Units} {a q : ℕ} {o : Bytes} {r : Node} → After C st (Node.string a q us) (from q o) r → Closed C (Use.value a st) us (from q o) r
  name : {ms : Members} {st : Stack} {us : Units} {k a : ℕ} {w : Source} {r : Node}
      → T (C (Gate.name us (names_of ms))) → AfterName C k a ms st us w r → Closed C (Use.name k a ms st) us w r

-- Behind the digits of a number, and behind those before the point.
pub data AfterFraction (C : Ceilings) (neg : Bool) (c n f : ℕ) : Source → Source → Decimal → Type 0 where
  power : {es : Bytes} {i o : Source} {s : Bool} → Power i o s es → Allowed C c n f s (value_from 0 es) (count_from 0 es) → AfterFraction C neg c n f i o (normal neg c n f s (value_from 0 es))

pub data AfterWhole (C : Ceilings) (neg : Bool) (c n : ℕ) : Source → Source → Decimal → Type 0 where
  fraction : {fs : Bytes} {i m o : Source} {x : Decimal} → Fraction i m fs → AfterFraction C neg (value_from c fs) (count_from n fs) (count_from 0 fs) m o x → AfterWhole C neg c n i o x

-- A number's rule says of all digits at once what the machine adds up as they come.
module _ (C : Ceilings) (neg : Bool) (ds : Bytes) {j o : Source} where
  pub after_whole : {k : Source} {down : Bool} {fs es : Bytes} → Fraction j k fs → Power k o down es
      → Allowed C (value_from 0 (ds ++ fs)) (length (ds ++ fs)) (length fs) down (value_from 0 es) (length es)
      → AfterWhole C neg (value_from 0 ds) (count_from 0 ds) j o (normal neg (value_from 0 (ds ++ fs)) (length (ds ++ fs)) (length fs) down (value_from 0 es))
  after_whole {fs = fs} {es = es} f e l =
      rw (value_append 0 ds fs, ← count_append ds fs, ← count_all fs)
      (AfterWhole.fraction f (AfterFraction.power e (rw (value_append 0 ds fs, ← count_append ds fs, ← count_all fs, ← count_all es) at l)))

  pub number_of : {h i : Source} {x : Decimal} → Minus h i neg → Whole i j ds → AfterWhole C neg (value_from 0 ds) (count_from 0 ds) j o x → Number C h o x
  number_of {h = h} {x = x} m w (AfterWhole.fraction {fs = fs} f y) = by fs x f y
    where
      by : {k : Source} (fs : Bytes) (x : Decimal) → Fraction j k fs
          → AfterFraction C neg (value_from (value_from 0 ds) fs) (count_from (count_from 0 ds) fs) (count_from 0 fs) k o x → Number C h o x
      by fs x f (AfterFraction.power {es = es} e l) =
          rw (← value_append 0 ds fs, count_append ds fs, count_all fs)
          (Number.number m w f e (rw (← value_append 0 ds fs, count_append ds fs, count_all fs, count_all es) at l))

-- The rest of a number.
pub data NumeralRest (C : Ceilings) : Numeral → Source → Source → Decimal → Type 0 where
  minus : {i m o : Source} {ds : Bytes} {x : Decimal} → Whole i m ds → AfterWhole C true (value_from 0 ds) (count_from 0 ds) m o x → NumeralRest C Numeral.minus i o x
  zero : {neg : Bool} {i o : Source} {x : Decimal} → AfterWhole C neg 0 1 i o x → NumeralRest C (Numeral.zero neg) i o x
  whole : {neg : Bool} {c n : ℕ} {i m o : Source} {ds : Bytes} {x : Decimal}
      → Digits i m ds → AfterWhole C neg (value_from c ds) (count_from n ds) m o x → NumeralRest C (Numeral.whole neg c n) i o x
  point : {neg : Bool} {p c n b : ℕ} {i ds : Bytes} {m o : Source} {x : Decimal}
      → T (is_digit b) → Digits (from (suc p) i) m ds → AfterFraction C neg (value_from (and_digit c b) ds) (count_from (suc n) ds) (count_from 1 ds) m o x → NumeralRest C (Numeral.point neg c n) (from p (b ∷ i)) o x
  fraction : {neg : Bool} {c n f : ℕ} {i m o : Source} {ds : Bytes} {x : Decimal}
      → Digits i m ds → AfterFraction C neg (value_from c ds) (count_from n ds) (count_from f ds) m o x → NumeralRest C (Numeral.fraction neg c n f) i o x
  mark : {neg s : Bool} {p c n f b : ℕ} {m ds : Bytes} {i o : Source}
      → Sign i (from p (b ∷ m)) s → T (is_digit b) → Digits (from (suc p) m) o ds → Allowed C c n f s (value_from (and_digit 0 b) ds) (count_from 1 ds)
      → NumeralRest C (Numeral.mark neg c n f) i o (normal neg c n f s (value_from (and_digit 0 b) ds))
  sign : {neg s : Bool} {p c n f b : ℕ} {m ds : Bytes} {o : Source}
      → T (is_digit b) → Digits (from (suc p) m) o ds → Allowed C c n f s (value_from (and_digit 0 b) ds) (count_from 1 ds)
      → NumeralRest C (Numeral.sign neg c n f s) (from p (b ∷ m)) o (normal neg c n f s (value_from (and_digit 0 b) ds))
  power : {neg s : Bool} {c n f e k : ℕ} {m o : Source} {ds : Bytes}
      → Digits m o ds → Allowed C c n f s (value_from e ds) (count_from k ds) → NumeralRest C (Numeral.power neg c n f s e k) m o (normal neg c n f s (value_from e ds))

-- The rest of a string where the digits read of a `\u` come to `a`.
pub data HexRest (C : Ceilings) : Left → ℕ → Source → Source → Units → Type 0 where
  last : {p a b u : ℕ} {i us : Bytes} {o : Source} → T (is_hex b) → Is (16 * a + hex_value b) u → Chars C (from (suc p) i) o us → HexRest C Left.last a (from p (b ∷ i)) o (u ∷ us)
  more : {p : ℕ} {l : Left} {a b : ℕ} {i us : Bytes} {o : Source} → T (is_hex b) → HexRest C l (16 * a + hex_value b) (from (suc p) i) o us → HexRest C (Left.more l) a (from p (b ∷ i)) o us

pub data Follows (C : Ceilings) : State → Source → Node → Type 0 where
  value : {st : Stack} {v r : Node} {w o : Source} → Value C (depth_of st) w o v → After C st v o r → Follows C (State.value st) w r
  number : {ns : Numeral} {st : Stack} {x : Decimal} {r : Node} {w : Source} {p q : ℕ} {o : Bytes} → NumeralRest C ns w (from q o) x → After C st (Node.number p q x) (from q o) r → Follows C (State.number ns p st) w r
  array : {st : Stack} {l : Nodes} {r : Node} {w : Source} {a q : ℕ} {o : Bytes} → Array C (suc (depth_of st)) w (from q o) l → After C st (Node.array a q l) (from q o) r → Follows C (State.array a st) w r
  object : {st : Stack} {l : Members} {r : Node} {w : Source} {a q : ℕ} {o : Bytes} → Object C (suc (depth_of st)) w (from q o) l → After C st (Node.object a q l) (from q o) r → Follows C (State.object a st) w r
  after : {st : Stack} {v r : Node} {w : Source} → After C st v w r → Follows C (State.after st v) w r
  literal : {k : ℕ} {ks : Bytes} {w : Source} {a q : ℕ} {o : Bytes} {st : Stack} {v : Literal} {r : Node} → Word (k ∷ ks) w (from q o) → After C st (Node.literal a q v) (from q o) r → Follows C (State.literal k ks v a st) w r
  chars : {u : Use} {us l : Units} {w o : Source} {r : Node} → Chars C w o l → Closed C u (onto us l) o r → Follows C (State.chars u us) w r
  escape : {u : Use} {us l : Units} {w o : Source} {r : Node} → Escape C w o l → Closed C u (onto us l) o r → Follows C (State.escape u us) w r
  hex : {n : Left} {a : ℕ} {u : Use} {us l : Units} {w o : Source} {r : Node}
      → HexRest C n a w o l → Closed C u (onto us l) o r → Follows C (State.hex n a u us) w r
  member : {ms l : Members} {st : Stack} {w : Source} {a q : ℕ} {o : Bytes} {r : Node}
      → Member C (suc (depth_of st)) (names_of ms) w (from q o) l → After C st (Node.object a q (onto_members ms l)) (from q o) r → Follows C (State.member a ms st) w r
  named : {ms : Members} {st : Stack} {us : Units} {k a : ℕ} {w : Source} {r : Node} → AfterName C k a ms st us w r → Follows C (State.named k us a ms st) w r

-- What holds of the state that a move leads to, where the ceilings let it pass.
pub data Leads (C : Ceilings) (F : State → Type 0) : Move → Type 0 where
  go : {s : State} → F s → Leads C F (Move.go s)
  ask : {g : Gate} {s : State} → T (C g) → F s → Leads C F (Move.ask g s)
  yes : {c : Bool} {x y : Move} → T c → Leads C F x → Leads C F (Move.when c x y)
  no : {c : Bool} {x y : Move} → T (not c) → Leads C F y → Leads C F (Move.when c x y)

-- What may follow once the machine has made a move.
abbrev pub Then : Ceilings → Move → Source → Node → Type 0
Then C m w r = Leads C (λ s. Follows C s w r) m
