-- The names that the reader's list has are those that stand twice in one object.
use Prim.Native.Nat.{ℕ}
use Rattle.members.proofs.Membership.{in_either, in_left, in_none, in_right}
use Rattle.members.specs.Lists.{In}
use Rattle.reader.specs.Repeats.{again, repeats, repeats_all, repeats_members}
use Rattle.text.proofs.Tests.{true_is}
use Rattle.text.proofs.Twice.{Twice, TwiceAll, TwiceMembers}
use Rattle.text.specs.Bytes.{Units}
use Rattle.text.specs.Ceilings.{among}
use Rattle.text.specs.Node.{Members, Node, Nodes}
use lib.Dec.{T}
use mathlib.Core.Bool.{Bool, cond, false, true}
use mathlib.Core.List.{List, [], ◌++◌, ◌∷◌}
use mathlib.Core.Logic.{◌↔◌, ⊎_elim}

-- The name `us` at `k` stood before, and `k` is `q`.
data Again (q : ℕ) (us : Units) (ns : List Units) : ℕ → Type 0 where
  yes : T (among us ns) → Again q us ns q

module _ {q : ℕ} where
  again_is : (us : Units) (ns : List Units) {k : ℕ} → In q (again us ns k) → Again q us ns k
  unfolding again
  again_is us ns i = by (among us ns) (λ t. t) i
    where
      by : {k : ℕ} (a : Bool) → (T a → T (among us ns)) → In q (cond a (k ∷ []) []) → Again q us ns k
      by true f In.here = Again.yes (f tt)
      by false f x'' = elim x'' [ ]
      by true f (In.there x6) = elim x6 [ ]

  is_again : (us : Units) (ns : List Units) → T (among us ns) → In q (again us ns q)
  unfolding again
  is_again us ns t = rw (true_is (among us ns) t) In.here

  -- Of a member: its own name, in its value, or in those behind it.
  here_twice : {us : Units} {ns : List Units} {k : ℕ} {v : Node} {ms : Members} → Again q us ns k → (l : Units) × TwiceMembers q l ns (Members.member k us v ms)
  here_twice {us} (Again.yes t) = (us, TwiceMembers.here t)

  in_member : {us n : Units} {ns : List Units} {k : ℕ} {v : Node} {ms : Members} → (Twice q us v → In q (repeats v)) → (TwiceMembers q us (n ∷ ns) ms → In q (repeats_members (n ∷ ns) ms))
      → TwiceMembers q us ns (Members.member k n v ms) → In q (again n ns k ++ (repeats v ++ repeats_members (n ∷ ns) ms))
  in_member {us} {ns = ns} {v = v} {ms = ms} f g (TwiceMembers.here t) = in_left (repeats v ++ repeats_members (us ∷ ns) ms) (is_again us ns t)
  in_member {n = n} {ns = ns} {k = k} {ms = ms} f g (TwiceMembers.inside t) = in_right (again n ns k) (in_left (repeats_members (n ∷ ns) ms) (f t))
  in_member {n = n} {ns = ns} {k = k} {v = v} f g (TwiceMembers.later t) = in_right (again n ns k) (in_right (repeats v) (g t))

  -- From the list to the value, ...
  mutual
    unfolding repeats

    to_twice : (v : Node) → In q (repeats v) → (us : Units) × Twice q us v
    to_twice (Node.literal a e w) i = absurd (in_none i)
    to_twice (Node.string a e us) i = absurd (in_none i)
    to_twice (Node.number a e x) i = absurd (in_none i)
    to_twice (Node.array a e vs) i = let (us, t) = to_all vs i in (us, Twice.array t)
    to_twice (Node.object a e ms) i = let (us, t) = to_members ms [] i in (us, Twice.object t)

    to_all : (vs : Nodes) → In q (repeats_all vs) → (us : Units) × TwiceAll q us vs
    to_all Nodes.nil i = absurd (in_none i)
    to_all (Nodes.cons v vs) i = ⊎_elim (λ j. let (us, t) = to_twice v j in (us, TwiceAll.first t)) (λ j. let (us, t) = to_all vs j in (us, TwiceAll.next t)) (in_either (repeats v) i)

    to_members : (ms : Members) (ns : List Units) → In q (repeats_members ns ms) → (us : Units) × TwiceMembers q us ns ms
    to_members Members.empty ns i = absurd (in_none i)
    to_members (Members.member k n v ms) ns i =
        ⊎_elim (λ j. here_twice (again_is n ns j))
        (λ j. ⊎_elim (λ l. let (us, t) = to_twice v l in (us, TwiceMembers.inside t)) (λ l. let (us, t) = to_members ms (n ∷ ns) l in (us, TwiceMembers.later t)) (in_either (repeats v) j))
        (in_either (again n ns k) i)

  -- ... and back.
  mutual
    unfolding repeats

    from_twice : (v : Node) {us : Units} → Twice q us v → In q (repeats v)
    from_twice (Node.array a e vs) (Twice.array t) = from_all vs t
    from_twice (Node.object a e ms) (Twice.object t) = from_members ms t
    from_twice (Node.literal _ _ _) x6 = elim x6 [ ]
    from_twice (Node.string _ _ _) x7 = elim x7 [ ]
    from_twice (Node.number _ _ _) x8 = elim x8 [ ]

    from_all : (vs : Nodes) {us : Units} → TwiceAll q us vs → In q (repeats_all vs)
    from_all (Nodes.cons v vs) (TwiceAll.first t) = in_left (repeats_all vs) (from_twice v t)
    from_all (Nodes.cons v vs) (TwiceAll.next t) = in_right (repeats v) (from_all vs t)
    from_all Nodes.nil x3 = elim x3 [ ]

    from_members : (ms : Members) {us : Units} {ns : List Units} → TwiceMembers q us ns ms → In q (repeats_members ns ms)
    from_members (Members.member k n v ms) t = in_member (λ x. from_twice v x) (λ x. from_members ms x) t
    from_members Members.empty t = elim t [ ]

pub repeats_twice : (q : ℕ) (v : Node) → In q (repeats v) ↔ ((us : Units) × Twice q us v)
repeats_twice q v = (to_twice v, λ (us, t). from_twice v t)
