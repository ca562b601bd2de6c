-- Where a value is due, said without the machine and seen in its state.
use Prim.Native.Char.{code}
use Prim.Native.Nat.{suc, ℕ}
use Rattle.text.proofs.Endings.{Ending}
use Rattle.text.proofs.HighBytes.{opens, shut}
use Rattle.text.proofs.LastDigits.{break_after}
use Rattle.text.proofs.Machine.{Frame, Move, Numeral, Stack, State, after_move, member_move, move, number_move}
use Rattle.text.proofs.Place.{Over, over}
use Rattle.text.proofs.Run.{Fault, Took, took_fault, took_one}
use Rattle.text.proofs.Standing.{Stands, lower, stands}
use Rattle.text.proofs.Tests.{and_left}
use Rattle.text.proofs.Way.{Went, went_split}
use Rattle.text.specs.Bytes.{Bytes}
use Rattle.text.specs.Ceilings.{house}
use Rattle.text.specs.Decimal.{normal}
use Rattle.text.specs.Node.{Node}
use Rattle.text.specs.Verdict.{Viable}
use lib.Dec.{T, eqb, eqb→eq, leb, leb→le, not_T}
use mathlib.Core.Bool.{◌&&◌, false, not}
use mathlib.Core.List.{[], ◌++◌, ◌∷◌}
use mathlib.Core.Path.{subst}
use native.Mathlib.Omega.{arith}

-- A value is due behind `q`: a line feed and then the first byte of `null` may follow. No string and no literal holds a
-- line feed, and behind one `n` begins a value.
abbrev pub Awaits : Bytes → Type 0
Awaits q = Viable house (q ++ (0x0a ∷ code "n" ∷ []))

-- The states where a value is due.
pub data Awaiting : State → Type 0 where
  value : {st : Stack} → Awaiting (State.value st)
  array : {a : ℕ} {st : Stack} → Awaiting (State.array a st)

-- A move that is shut does not pass.
never : {m : Move} {s : State} → Took house m s → T (not (opens m)) → ⊥
never {m} k t = took_fault k (shut m t)

-- Nor does `n` behind a value.
after_shut : (st : Stack) (v : Node) (n : ℕ) → T (not (opens (after_move st v n (code "n"))))
unfolding after_move opens
after_shut [] v n = tt
after_shut (Frame.array a vs ∷ st) v n = tt
after_shut (Frame.object a ms q us ∷ st) v n = tt

-- Both bytes pass, one behind the other.
data Both (s : State) (n : ℕ) : Type 0 where
  both : {s' s'' : State} → Took house (move s n 0x0a) s' → Took house (move s' (suc n) (code "n")) s'' → Both s n

-- So the first is not shut out, nor does it lead to a state that shuts out the second, ...
first : {s : State} {n : ℕ} → Both s n → T (not (opens (move s n 0x0a))) → ⊥
first (Both.both k l) h = never k h

second : {s : State} {n : ℕ} (t : State) → Both s n → Took house (move s n 0x0a) t → T (not (opens (move t (suc n) (code "n")))) → ⊥
second {n = n} t (Both.both {s'' = s''} k l) k' h = never (subst (λ s. Took house (move s (suc n) (code "n")) s'') (took_one k k') l) h

-- ... as it would behind a value, and so at the end of a number.
not_after : {s : State} {n : ℕ} (st : Stack) (v : Node) → Both s n → Took house (move s n 0x0a) (State.after st v) → ⊥
unfolding move
not_after {n = n} st v x k = second (State.after st v) x k (after_shut st v (suc n))

not_number : (ns : Numeral) (p : ℕ) (st : Stack) (n : ℕ) → Both (State.number ns p st) n → ⊥
unfolding move number_move opens
not_number Numeral.minus p st n x = first x tt
not_number (Numeral.zero neg) p st n x = let v = Node.number p n (normal neg 0 1 0 false 0) in not_after st v x (Took.no tt (Took.no tt (break_after st v n)))
not_number (Numeral.whole neg c m) p st n x = let v = Node.number p n (normal neg c m 0 false 0) in not_after st v x (Took.no tt (Took.no tt (Took.no tt (break_after st v n))))
not_number (Numeral.point neg c m) p st n x = first x tt
not_number (Numeral.fraction neg c m f) p st n x = let v = Node.number p n (normal neg c m f false 0) in not_after st v x (Took.no tt (Took.no tt (break_after st v n)))
not_number (Numeral.mark neg c m f) p st n x = first x tt
not_number (Numeral.sign neg c m f s) p st n x = first x tt
not_number (Numeral.power neg c m f s e j) p st n x = let v = Node.number p n (normal neg c m f s e) in not_after st v x (Took.no tt (break_after st v n))

-- The letters of a literal are no line feed.
not_literal : (c : ℕ) (ks : Bytes) → T (lower (c ∷ ks)) → T (not (eqb 0x0a c))
unfolding lower
not_literal c ks t =
    let a : T (leb (code "a") c && leb c (code "z")) = and_left (leb (code "a") c && leb c (code "z")) (lower ks) t in
    not_T (eqb 0x0a c) λ e. omega (arith, eqb→eq 0x0a c e, leb→le (code "a") c (and_left (leb (code "a") c) (leb c (code "z")) a))

-- What is left are the states where a value is due.
awaiting : (s : State) (n : ℕ) {y : Ending} → Stands s y → Both s n → Awaiting s
unfolding move member_move opens
awaiting (State.value st) n h x = Awaiting.value
awaiting (State.array a st) n h x = Awaiting.array
awaiting (State.number ns p st) n h x = absurd (not_number ns p st n x)
awaiting (State.object a st) n h x = absurd (second (State.object a st) x (Took.yes tt Took.go) tt)
awaiting (State.after st v) n h x = absurd (not_after st v x (break_after st v n))
awaiting (State.literal c ks v a st) n (Stands.literal t _) (Both.both k l) = absurd (took_fault k (Fault.no (not_literal c ks t) Fault.bad))
awaiting (State.chars u us) n h x = absurd (first x tt)
awaiting (State.escape u us) n h x = absurd (first x tt)
awaiting (State.hex c a u us) n h x = absurd (first x tt)
awaiting (State.member a ms st) n h x = absurd (second (State.member a ms st) x (Took.yes tt Took.go) tt)
awaiting (State.named q us a ms st) n h x = absurd (second (State.named q us a ms st) x (Took.yes tt Took.go) tt)

-- The machine behind bytes that await a value.
pub awaits : (q : Bytes) → Awaits q → (s : State) × (j : ℕ) × Over q s j × Awaiting s
awaits q a = let (s, j, w) = over (q ++ (0x0a ∷ code "n" ∷ [])) a in by (went_split q w)
  where
    by : {s : State} {j : ℕ} → (t : State) × (i : ℕ) × Over q t i × Went house t i (0x0a ∷ code "n" ∷ []) s j → (s : State) × (j : ℕ) × Over q s j × Awaiting s
    by (t, i, v, Went.step k (Went.step l w)) = (t, i, v, awaiting t i (stands v) (Both.both k l))
