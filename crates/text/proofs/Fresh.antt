-- Names are never used up: any beginning of a name goes on to a new one.
use Prim.Native.Char.{code}
use Prim.Native.Nat.{◌+◌, ◌<◌, ◌≤◌, suc, zero, ℕ}
use Rattle.text.proofs.Machine.{onto}
use Rattle.text.proofs.Tests.{and_right}
use Rattle.text.specs.Bytes.{Units}
use Rattle.text.specs.Ceilings.{Ceilings, Gate, among, house, same}
use lib.Dec.{T, T_not, eqb, not_T}
use lib.ListN.{length}
use mathlib.Core.Bool.{Bool, ◌||◌, false, not, true}
use mathlib.Core.List.{List, [], ◌∷◌}
use mathlib.Core.Path.{◌≡◌, ap, refl}
use native.Mathlib.Omega.{arith}

-- Letters `a`.
unfoldable pub letters : List (Unit {0}) → Units
letters [] = []
letters (x ∷ n) = code "a" ∷ letters n

-- The ceilings let a new name pass behind any beginning.
abbrev pub Fresh : Ceilings → Type 0
Fresh C = (us : Units) (ns : List Units) → (n : List (Unit {0})) × T (C (Gate.name (onto us (letters n)) ns))

-- A name longer than all the others together is none of them.
same_length : (a b : Units) → T (same a b) → length a ≡ length b
unfolding same
same_length [] [] t = refl
same_length [] (y ∷ ys) t = absurd t
same_length (x ∷ xs) [] t = absurd t
same_length (x ∷ xs) (y ∷ ys) t = ap suc (same_length xs ys (and_right (eqb x y) (same xs ys) t))

total : List Units → ℕ
total [] = 0
total (n ∷ ns) = length n + total ns

longer : (us : Units) (ns : List Units) → total ns < length us → T (not (among us ns))
unfolding total among
longer us [] h = tt
longer us (n ∷ ns) h =
    not_T (same us n || among us ns) λ t. by (same us n) (among us ns) (same_length us n) (longer us ns (omega arith)) t
  where
    by : (a b : Bool) → (T a → length us ≡ length n) → T (not b) → T (a || b) → ⊥
    by true b f g t = let e : length us ≡ length n = f tt in omega arith
    by false b f g t = T_not b g t

many : ℕ → List (Unit {0})
many zero = []
many (suc n) = tt ∷ many n

many_length : (n : ℕ) → length (letters (many n)) ≡ n
unfolding many letters
many_length zero = refl
many_length (suc n) = ap suc (many_length n)

onto_length : (a b : Units) → length b ≤ length (onto a b)
unfolding onto
onto_length [] b = omega arith
onto_length (x ∷ xs) b = let h : length (x ∷ b) ≤ length (onto xs (x ∷ b)) = onto_length xs (x ∷ b) in omega arith

pub house_fresh : Fresh house
unfolding house among
house_fresh us ns =
    let n : List (Unit {0}) = many (suc (total ns)) in
    let e : length (letters (many (suc (total ns)))) ≡ suc (total ns) = many_length (suc (total ns)) in
    let l : length (letters (many (suc (total ns)))) ≤ length (onto us (letters (many (suc (total ns))))) = onto_length us (letters (many (suc (total ns)))) in
    (n, longer (onto us (letters n)) ns (omega arith))
