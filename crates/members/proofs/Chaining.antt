-- What a chain in order gives, and how its table is given back.
use Prim.Native.Nat.{◌<◌, ℕ}
use Rattle.members.proofs.Earliness.{earliest_same}
use Rattle.members.proofs.Framing.{frame_name, frame_next, frame_seats, frame_trans}
use Rattle.members.proofs.Membership.{same_refl}
use Rattle.members.proofs.Ordering.{ahead_before}
use Rattle.members.proofs.Restoring.{restored}
use Rattle.members.proofs.Sorting.{sorted_map}
use Rattle.members.proofs.Walks.{walk_same}
use Rattle.members.specs.Chains.{Linked, Seats, chain_of, siblings_of}
use Rattle.members.specs.Links.{Laid, link_of, low_part}
use Rattle.members.specs.Lists.{In, Sorted}
use Rattle.members.specs.Merging.{turned}
use Rattle.members.specs.Names.{ahead, before, in_order, name_of}
use Rattle.members.specs.Records.{Room, next_of, word}
use Rattle.members.specs.Repeats.{Earliest}
use Rattle.std.specs.Prelude.{Option}
use Rattle.text.specs.Bytes.{Bytes, Units}
use Rattle.text.specs.Table.{Words}
use mathlib.Core.Bool.{Bool, true}
use mathlib.Core.List.{List}
use mathlib.Core.Path.{◌≡◌}
use native.Mathlib.Omega.{arith}

pub linked_up : {lt : ℕ → ℕ → Bool} {w u : Words} {l c : List ℕ} → Linked (turned true lt) w l u c → Linked lt w l u c
unfolding turned
linked_up p = p

-- Siblings whose names ascend, linked as they stand.
pub linked_along : (name : ℕ → Units) (w u : Words) (n first : ℕ) → Sorted (ahead name) (siblings_of w n first)
    → Laid (next_of w) (siblings_of w n first) w u
    → Linked (before name) w (siblings_of w n first) u (chain_of u n first)
linked_along name w u n first s p =
    rw (walk_same (next_of w) (link_of u) n first p.links) record {
      same = same_refl (siblings_of w n first);
      sorted = sorted_map (ahead name) (before name) (ahead_before name) s;
      frame = p.frame;
    }

module _ (t : Bytes) {w u : Words} {l c : List ℕ} (p : Linked (in_order t w) w l u c) where
  pub linked_seats : Seats t w l → Seats t u c
  linked_seats s = frame_seats p.frame t c (λ v i. s v (p.same.to v i))

  pub linked_sorted : Sorted (in_order t u) c
  linked_sorted = rw (frame_name p.frame t) p.sorted

  pub linked_earliest : (z : Option ℕ) → Earliest (name_of t u) c z → Earliest (name_of t w) l z
  linked_earliest z e = earliest_same (name_of t w) z p.same (rw (frame_name p.frame t) at e)

-- A change of the links of `l` alone leaves its siblings, and taking the links away gives the table back.
module _ {lt : ℕ → ℕ → Bool} {w u : Words} {c : List ℕ} (first n : ℕ) (p : Linked lt w (siblings_of w n first) u c) where
  siblings_stay : siblings_of u n first ≡ siblings_of w n first
  siblings_stay = rw (frame_next p.frame)

  pub linked_room : ((v : ℕ) → In v (siblings_of w n first) → Room w v) → (v : ℕ) → In v (siblings_of u n first) → Room u v
  linked_room room v i = omega (arith, p.frame.long, room v (rw siblings_stay at i))

  pub linked_back : {x : Words} → Laid (λ _. 0) (siblings_of u n first) u x
      → ((v : ℕ) → In v (siblings_of w n first) → (word w v 0 < low_part) × (word w v 1 < low_part)) → x ≡ w
  linked_back {x} q low =
      let r : Laid (λ _. 0) (siblings_of w n first) u x = rw siblings_stay at q in
      restored (frame_trans p.frame r.frame) r.links low
