-- The records of a value one after another: what is counted already and what is pending make up its whole weight.
use Prim.Native.Nat.{◌*◌, ◌+◌, ◌<◌, ◌≤◌, suc, ℕ}
use Rattle.entries.specs.Answer.{max_text}
use Rattle.meaning.proofs.Weight.{called, canon_weigh, own, weigh, weigh_all, weigh_pairs}
use Rattle.meaning.specs.Meaning.{pairs, tree, trees}
use Rattle.members.specs.Names.{name_at}
use Rattle.members.specs.Records.{next_of, word}
use Rattle.spell.specs.Scalars.{quoted}
use Rattle.text.proofs.Records.{size_some}
use Rattle.text.specs.Bytes.{Bytes, Units}
use Rattle.text.specs.Node.{Members, Node, Nodes}
use Rattle.text.specs.Table.{Words, size, size_all, size_members, unnamed}
use Rattle.values.specs.Children.{Child, elements, members}
use Rattle.values.specs.Held.{Held, HeldAll, Holds, Spelt}
use Rattle.writer.proofs.Bounds.{named_most, own_most}
use Rattle.values.proofs.Records.{held_few, held_onward, held_room, held_start}
use Rattle.writer.proofs.Owning.{own_empty, own_full, own_leaf, own_scalar}
use Rattle.writer.proofs.Naming.{none_length, some_length}
use Rattle.writer.specs.Pending.{Countable, Counts, Pending, children, weights}
use Rattle.writer.specs.Writes.{Nameable, Writes, named}
use lib.ListN.{length}
use mathlib.Core.List.{List, [], ◌++◌, ◌∷◌}
use mathlib.Core.Path.{◌∙◌, ◌≡◌, ap, refl, subst, sym}
use native.Mathlib.Nat.{add_assoc, add-suc, add-zero, suc-add}
use native.Mathlib.Numerals.{add-one}
use native.Mathlib.Omega.{arith}

-- The weight of a value from those of its children.
module _ (t : Bytes) where
  weights_append : (cs ds : List Child) → weights t (cs ++ ds) ≡ weights t cs + weights t ds
  unfolding weights
  weights_append [] ds = omega arith
  weights_append (Child.child q v ∷ cs) ds = omega (arith, weights_append cs ds)

  elements_weight : (vs : Nodes) → weights t (elements vs) ≡ weigh_all (trees vs)
  unfolding weights elements tree weigh
  elements_weight Nodes.nil = refl
  elements_weight (Nodes.cons v vs) = omega (arith, none_length t {q = unnamed} refl, elements_weight vs)

  module _ (small : length t ≤ max_text) where
    name_weight : (q : ℕ) (us : Units) → q < length t → name_at t q ≡ us → length (named t q) ≡ called us
    unfolding called
    name_weight q us l e =
        let n : q ≡ unnamed → ⊥ = λ f. omega arith in
        omega (arith, some_length t {q = q} n, ap (λ u. length (quoted u)) e)

    members_weight : {b : ℕ} (ms : Members) → Spelt t b ms → weights t (members ms) ≡ weigh_pairs (pairs ms)
    unfolding weights members tree weigh
    members_weight Members.empty s = refl
    members_weight (Members.member q us v ms) (Spelt.more a l b e s) = omega (arith, name_weight q us l e, members_weight ms s)

    value_weight : {w : Words} {k : ℕ} {v : Node} → Held t w k v → weigh (tree v) ≡ own (tree v) + weights t (children v)
    unfolding weights children tree weigh
    value_weight (Held.held r i (Holds.literal s)) = omega arith
    value_weight (Held.held r i (Holds.string s)) = omega arith
    value_weight (Held.held r i (Holds.number s)) = omega arith
    value_weight (Held.held r i (Holds.array {vs = vs} e h)) = omega (arith, elements_weight vs)
    value_weight (Held.held r i (Holds.object {ms = ms} e s h)) = omega (arith, members_weight ms s)

-- The children of a value go in front of what is pending behind it.
module _ {t : Bytes} {w : Words} {end : ℕ} where
  moved : {i j : ℕ} {cs : List Child} → i ≡ j → Pending t w end i cs → Pending t w end j cs
  moved {cs = cs} e = subst (λ j. Pending t w end j cs) e

  -- Sums in the order that the next law wants.
  inner : (k n : ℕ) {cs ds : List Child} → (Pending t w end (suc k + n) cs → Pending t w end (suc k) ds) → Pending t w end (k + suc n) cs → Pending t w end (k + 1) ds
  inner k n f p = moved (sym (add-one k)) (f (moved (add-suc k n ∙ sym (suc-add k n)) p))

  elements_first : {k : ℕ} {cs : List Child} (vs : Nodes) → HeldAll t w k (elements vs) → Pending t w end (k + size_all vs) cs → Pending t w end k (elements vs ++ cs)
  unfolding elements size
  elements_first {k} Nodes.nil h p = moved (add-zero k) p
  elements_first {k} (Nodes.cons v vs) (HeldAll.more h u e hs) p =
      Pending.more h e (λ n. absurd (n refl)) (elements_first {k = k + size v} vs hs (moved (sym (add_assoc k (size v) (size_all vs))) p))

  members_first : {b k : ℕ} {cs : List Child} (ms : Members) → Spelt t b ms → HeldAll t w k (members ms) → Pending t w end (k + size_members ms) cs → Pending t w end k (members ms ++ cs)
  unfolding members size
  members_first {k = k} Members.empty s h p = moved (add-zero k) p
  members_first {b = b'} {k = k} (Members.member q us v ms) (Spelt.more a l b f s) (HeldAll.more h u e hs) p =
      Pending.more h e (λ n. l) (members_first {b = suc q} {k = k + size v} ms s hs (moved (sym (add_assoc k (size v) (size_members ms))) p))

  children_first : {k : ℕ} {v : Node} {cs : List Child} → Held t w k v → Pending t w end (k + size v) cs → Pending t w end (k + 1) (children v ++ cs)
  unfolding children size
  children_first (Held.held r i (Holds.literal s)) p = p
  children_first (Held.held r i (Holds.string s)) p = p
  children_first (Held.held r i (Holds.number s)) p = p
  children_first {k} (Held.held r i (Holds.array {vs = vs} e h)) p = inner k (size_all vs) (elements_first vs h) p
  children_first {k} (Held.held r i (Holds.object {ms = ms} e s h)) p = inner k (size_members ms) (members_first ms s h) p

  -- Nothing is pending at the end, and something before it.
  pending_end : {k : ℕ} {cs : List Child} → Pending t w end k cs → k ≤ end
  pending_end Pending.none = omega arith
  pending_end (Pending.more {v = v} h e n p) = omega (arith, pending_end p)

  pending_none : {k : ℕ} {cs : List Child} → Pending t w end k cs → end ≤ k → weights t cs ≡ 0
  unfolding weights
  pending_none Pending.none l = refl
  pending_none (Pending.more {v = v} h e n p) l = absurd (omega (arith, pending_end p, size_some v))

-- `n` is counted, and from record `k` on there is left what makes up `total`.
pub record Measured (t : Bytes) (w : Words) (end total n k : ℕ) : Type 0 where
  pub rest : List Child
  pub pending : Pending t w end k rest
  pub sum : n + weights t rest ≡ total

-- The most that an entry counts, 2 ^ 24.
abbrev pub most_entry : ℕ
most_entry = 16_777_216

-- So it is whatever value record `r` is said to have; and `n` is small enough to be counted on.
pub record Tally (t : Bytes) (w : Words) (r end n k : ℕ) : Type 0 where
  pub few : n ≤ k * most_entry
  pub left : (v : Node) → Held t w r v → Measured t w end (weigh (tree v)) n k

-- The first pending value.
entry_first : {t : Bytes} {w : Words} {end k : ℕ} {cs : List Child} → Pending t w end k cs → k < end → Countable t w k
entry_first Pending.none l = absurd (omega arith)
entry_first {t} (Pending.more {v = v} h e n p) l = record { value = v; held = h; name = subst (Nameable t) (sym e) n }

module _ {t : Bytes} {w : Words} (small : length t ≤ max_text) where
  measured_start : {r end n : ℕ} {v : Node} → Held t w r v → end ≡ next_of w r → n ≡ own (tree v) → Measured t w end (weigh (tree v)) n (r + 1)
  unfolding weights next_of
  measured_start {r} {end} {v = v} (Held.held x i y) e f =
      record {
        rest = children v ++ [];
        pending = children_first (Held.held x i y) (moved (e ∙ x.next) Pending.none);
        sum = omega (arith, value_weight t small (Held.held x i y), weights_append t (children v) []);
      }

  -- A turn takes the first value away, and leaves its children.
  measured_turn : (n : ℕ) {end k m total : ℕ} {cs : List Child} → Pending t w end k cs → k < end → n + weights t cs ≡ total → Counts t w k m → Measured t w end total (n + m) (k + 1)
  unfolding weights
  measured_turn n Pending.none l s f = absurd (omega arith)
  measured_turn n (Pending.more {v = v} {cs = cs} h e a p) l s f =
      record {
        rest = children v ++ cs;
        pending = children_first h p;
        sum = omega (arith, f v h, ap (λ q. length (named t q)) e, value_weight t small h, weights_append t (children v) cs);
      }

  module _ {r : ℕ} {v : Node} (h : Held t w r v) {end n : ℕ} where
    pub tally_start : end ≡ next_of w r → ((v : Node) → Held t w r v → n ≡ own (tree v)) → Tally t w r end n (r + 1)
    tally_start e f = record { few = omega (arith, f v h, own_most h); left = λ u g. measured_start g e (f u g) }

    module _ {k : ℕ} (s : Tally t w r end n k) (l : k < end) where
      pub tally_first : Countable t w k
      tally_first = entry_first (s.left v h).pending l

      pub tally_turn : {m : ℕ} → Counts t w k m → Tally t w r end (n + m) (k + 1)
      tally_turn f =
          let x = tally_first in
          record {
            few = omega (arith, s.few, f x.value x.held, named_most t (word w k 2), own_most x.held);
            left = λ u g. let y = s.left u g in measured_turn n y.pending l y.sum f;
          }

-- The value that is written.
pub writes_held : {t : Bytes} {w : Words} {r d : ℕ} {c : Bytes} → Writes t w r d c → (v : Node) × Held t w r v
writes_held (Writes.writes {v = v} h k e) = (v, h)

pub tally_end : {t : Bytes} {w : Words} {r end n k d : ℕ} {c : Bytes} → Tally t w r end n k → end ≤ k → Writes t w r d c → n ≡ length c
tally_end s l (Writes.writes {v = v} h k e) =
    let x = s.left v h in
    omega (arith, x.sum, pending_none x.pending l, canon_weigh (tree v), ap length e)

-- What measuring a record needs.
pub ruleset measuring = (held_room, held_few, held_onward, held_start, own_empty, own_full, own_leaf, own_scalar, named_most, own_most)
