-- Links of records outside a value leave it as it is.
use Prim.Native.Nat.{◌*◌, ◌+◌, ◌<◌, ◌≤◌, suc, ℕ}
use Rattle.members.specs.Links.{Frame}
use Rattle.members.specs.Lists.{In}
use Rattle.members.specs.Records.{word}
use Rattle.text.proofs.Records.{size_some}
use Rattle.text.specs.Bytes.{Bytes}
use Rattle.text.specs.Node.{Node}
use Rattle.text.specs.Table.{Words, size}
use Rattle.values.proofs.Kin.{elements_size, held_record, held_siblings, members_size}
use Rattle.members.proofs.Lineage.{siblings_between}
use Rattle.values.specs.Children.{Child, places, sizes}
use Rattle.values.specs.Held.{Held, HeldAll, Holds, Recorded, Unlinked}
use mathlib.Core.List.{List}
use mathlib.Core.Path.{◌∙◌}
use native.Mathlib.Omega.{arith}

module _ {w u : Words} {l : List ℕ} (f : Frame l w u) where
  -- None of the records from `a` up to `b` is linked anew.
  abbrev Untouched : ℕ → ℕ → Type 0
  Untouched a b = (r : ℕ) → a ≤ r → r < b → In r l → ⊥

  recorded_stays : {k p q n : ℕ} → Recorded w k p q n → Recorded u k p q n
  recorded_stays {k} r =
      record {
        first = f.low (4 * k + 0) ∙ r.first;
        last = f.low (4 * k + 1) ∙ r.last;
        next = f.next k ∙ r.next;
        onward = r.onward;
        long = omega (arith, f.long, r.long);
        few = r.few;
      }

  unlinked_stays : {k : ℕ} → (In k l → ⊥) → Unlinked w k → Unlinked u k
  unlinked_stays {k} n (a, b) = let (x, y) = f.out k n in (omega (arith, x), omega (arith, y))

  mutual
    unfolding size sizes

    pub held_stays : {t : Bytes} {k : ℕ} {v : Node} → Held t w k v → Untouched (suc k) (k + size v) → Held t u k v
    held_stays (Held.held r s x) n = Held.held (recorded_stays r) s (holds_stays x n)

    holds_stays : {t : Bytes} {k : ℕ} {v : Node} → Holds t w k v → Untouched (suc k) (k + size v) → Holds t u k v
    holds_stays (Holds.literal s) n = Holds.literal s
    holds_stays (Holds.string s) n = Holds.string s
    holds_stays (Holds.number s) n = Holds.number s
    holds_stays (Holds.array {vs = vs} b y) n = Holds.array b (all_stay y (λ r a c. n r a (omega (arith, elements_size vs))))
    holds_stays (Holds.object {ms = ms} b s y) n = Holds.object b s (all_stay y (λ r a c. n r a (omega (arith, members_size ms))))

    all_stay : {t : Bytes} {k : ℕ} {cs : List Child} → HeldAll t w k cs → Untouched k (k + sizes cs) → HeldAll t u k cs
    all_stay HeldAll.none n = HeldAll.none
    all_stay (HeldAll.more {k = k} {v = v} {cs = cs} x o e y) n =
        HeldAll.more (held_stays x (λ r a c. n r (omega arith) (omega arith))) (unlinked_stays (n k (omega arith) (omega (arith, size_some v))) o) (f.quote k ∙ e)
        (all_stay y (λ r a c. n r (omega (arith, size_some v)) (omega arith)))

-- The records inside one of some siblings are none of them.
pub inside_none : {t : Bytes} {w : Words} {k x r : ℕ} {cs : List Child} → HeldAll t w k cs → In x (places k cs) → x < r → r < word w x 3 → In r (places k cs) → ⊥
unfolding places
inside_none (HeldAll.more h u e y) In.here a b In.here = omega arith
inside_none (HeldAll.more h u e y) In.here a b (In.there j) = omega (arith, siblings_between (held_siblings y) j, held_record h)
inside_none (HeldAll.more {v = v} h u e y) (In.there i) a b In.here = omega (arith, siblings_between (held_siblings y) i, size_some v)
inside_none (HeldAll.more h u e y) (In.there i) a b (In.there j) = inside_none y i a b j
inside_none (HeldAll.none) x16 a b _ = elim x16 [ ]
