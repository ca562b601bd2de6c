-- What an object means at a name, member by member.
use Prim.Native.Nat.{ℕ}
use Rattle.meaning.specs.Meaning.{Maybe, Meaning, Pairs, Tree, at, mean}
use Rattle.text.proofs.Names.{same_is, same_no, same_not, same_self}
use Rattle.text.specs.Bytes.{Units}
use Rattle.text.specs.Ceilings.{among, same}
use lib.Dec.{T}
use mathlib.Core.Bool.{Bool, false, true}
use mathlib.Core.List.{List}
use mathlib.Core.Path.{◌∙◌, ◌≡◌, ap, refl, sym}
use native.Mathlib.Omega.{arith}

pub some_none : {m : Meaning} → Maybe.some m ≡ Maybe.none → ⊥
some_none e = let z : ◌≡◌ {A = ℕ} 0 1 = cc in omega arith

pub un_some : {m n : Meaning} → Maybe.some m ≡ Maybe.some n → m ≡ n
un_some e = cc

-- A name is the first member's, or another.
pub data Which (k j : Units) : Type 0 where
  it : k ≡ j → Which k j
  other : (k ≡ j → ⊥) → Which k j

pub which : (k j : Units) → Which k j
which k j = by (same k j) refl
  where
    by : (a : Bool) → same k j ≡ a → Which k j
    by true e = Which.it (same_is k j e)
    by false e = Which.other (same_no k j e)

pub at_it : (j : Units) (t : Tree) (ps : Pairs) (k : Units) → k ≡ j → at (Pairs.pair j t ps) k ≡ Maybe.some (mean t)
unfolding at
at_it j t ps k e = ap (λ x. elim x as (λ _. Maybe) [ true ↦ Maybe.some (mean t) | false ↦ at ps k ]) (ap (λ x. same x j) e ∙ same_self j)

pub at_other : (j : Units) (t : Tree) (ps : Pairs) (k : Units) → (k ≡ j → ⊥) → at (Pairs.pair j t ps) k ≡ at ps k
unfolding at
at_other j t ps k n = ap (λ x. elim x as (λ _. Maybe) [ true ↦ Maybe.some (mean t) | false ↦ at ps k ]) (same_not k j n)

-- Members that mean the same do so behind first members of one name and one meaning too.
pub at_under : (j : Units) (s t : Tree) (ps qs : Pairs) (k : Units) → mean s ≡ mean t → at ps k ≡ at qs k → at (Pairs.pair j s ps) k ≡ at (Pairs.pair j t qs) k
at_under j s t ps qs k e f = by (which k j)
  where
    by : Which k j → at (Pairs.pair j s ps) k ≡ at (Pairs.pair j t qs) k
    by (Which.it p) = at_it j s ps k p ∙ ap Maybe.some e ∙ sym (at_it j t qs k p)
    by (Which.other p) = at_other j s ps k p ∙ f ∙ sym (at_other j t qs k p)

-- A name that no member has is not the first one's, and none of the rest has it.
pub fresh_first : (j : Units) (t : Tree) (ps : Pairs) (k : Units) → at (Pairs.pair j t ps) k ≡ Maybe.none → k ≡ j → ⊥
fresh_first j t ps k e f = some_none (sym (at_it j t ps k f) ∙ e)

pub fresh_rest : (j : Units) (t : Tree) (ps : Pairs) (k : Units) → at (Pairs.pair j t ps) k ≡ Maybe.none → at ps k ≡ Maybe.none
fresh_rest j t ps k e = sym (at_other j t ps k (fresh_first j t ps k e)) ∙ e

-- None of the names `ns` is a member's.
abbrev pub Apart : List Units → Pairs → Type 0
Apart ns ps = (k : Units) → T (among k ns) → at ps k ≡ Maybe.none
