-- What a change of links leaves as it was.
use Prim.Native.Nat.{ℕ}
use Rattle.members.proofs.Walks.{walk_same}
use Rattle.members.specs.Chains.{Seats, chain_of}
use Rattle.members.specs.Links.{Frame, link_of}
use Rattle.members.specs.Lists.{In}
use Rattle.members.specs.Names.{Named, name_at, name_of}
use Rattle.members.specs.Records.{next_of}
use Rattle.text.specs.Bytes.{Bytes}
use Rattle.text.specs.Table.{Words}
use mathlib.Core.List.{List}
use mathlib.Core.Path.{◌∙◌, ◌≡◌, ap, fun_ext, refl}
use native.Mathlib.Omega.{arith}

pub frame_refl : (l : List ℕ) (w : Words) → Frame l w w
frame_refl l w = record { long = refl; low = λ i. refl; quote = λ r. refl; next = λ r. refl; out = λ r n. (refl, refl) }

pub frame_trans : {l : List ℕ} {u v w : Words} → Frame l u v → Frame l v w → Frame l u w
frame_trans p q =
    record {
      long = q.long ∙ p.long;
      low = λ i. q.low i ∙ p.low i;
      quote = λ r. q.quote r ∙ p.quote r;
      next = λ r. q.next r ∙ p.next r;
      out = λ r n. ((q.out r n).0 ∙ (p.out r n).0, (q.out r n).1 ∙ (p.out r n).1);
    }

pub frame_more : {k l : List ℕ} {w u : Words} → ((v : ℕ) → In v k → In v l) → Frame k w u → Frame l w u
frame_more m p =
    record { long = p.long; low = p.low; quote = p.quote; next = p.next; out = λ r n. p.out r (λ i. n (m r i)) }

module _ {l : List ℕ} {w u : Words} (p : Frame l w u) where
  pub frame_next : next_of u ≡ next_of w
  unfolding next_of
  frame_next = fun_ext (λ r. p.next r)

  pub frame_name : (t : Bytes) → name_of t u ≡ name_of t w
  unfolding name_of
  frame_name t = fun_ext (λ r. ap (name_at t) (p.quote r))

  frame_named : (t : Bytes) (r : ℕ) → Named t w r → Named t u r
  frame_named t r h = (omega (arith, p.long, h.0), omega (arith, p.quote r, h.1))

  pub frame_seats : (t : Bytes) (k : List ℕ) → Seats t w k → Seats t u k
  frame_seats t k s v i = ((s v i).0, frame_named t v (s v i).1)

  -- A chain of other records is as it was.
  pub frame_walk : (n h : ℕ) → ((v : ℕ) → In v (chain_of w n h) → In v l → ⊥) → chain_of u n h ≡ chain_of w n h
  unfolding link_of
  frame_walk n h z = walk_same (link_of w) (link_of u) n h (λ v i. rw ((p.out v (z v i)).0, (p.out v (z v i)).1))
