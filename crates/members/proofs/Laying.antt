-- Links set one after the other along the siblings.
use Prim.Native.Nat.{◌<◌, ◌≤◌, suc, zero, ℕ}
use Rattle.members.proofs.Framing.{frame_next, frame_trans}
use Rattle.members.proofs.Linking.{link_back, link_else, link_frame}
use Rattle.members.proofs.Membership.{in_cases, in_none}
use Rattle.members.specs.Chains.{siblings_of, walk}
use Rattle.members.specs.Links.{Frame, Laid, link_of, with_link}
use Rattle.members.specs.Lists.{In}
use Rattle.members.specs.Records.{Room, max_records, next_of}
use Rattle.text.specs.Table.{Words}
use borrow.Author.Tests.{eqb-false, eqb-true}
use lib.Dec.{eqb}
use mathlib.Core.Bool.{Bool, false, true}
use mathlib.Core.List.{List, ◌∷◌}
use mathlib.Core.Logic.{◌⊎◌, inl, inr, ⊎_elim}
use mathlib.Core.Path.{◌∙◌, ◌≡◌, refl}
use native.Mathlib.Omega.{arith}

-- The `i` siblings from `r` on are left; the links of the others are as `f` says.
pub record Laying (f : ℕ → ℕ) (l : List ℕ) (w u : Words) (r i : ℕ) : Type 0 where
  pub within : (v : ℕ) → In v (siblings_of w i r) → In v l
  pub frame : Frame l w u
  pub links : (v : ℕ) → In v l → In v (siblings_of w i r) ⊎ (link_of u v ≡ f v)

-- The link of one record is set.
module _ (f : ℕ → ℕ) (u : Words) (r : ℕ) (room : Room u r) (small : f r ≤ max_records) where
  set_by : (v : ℕ) (b : Bool) → eqb v r ≡ b → link_of u v ≡ f v → link_of (with_link u r (f r)) v ≡ f v
  set_by v true e h = rw (eqb-true v r e) (link_back u r (f r) room small)
  set_by v false e h = link_else u r (f r) room v (eqb-false v r e) ∙ h

  set_links : (rest : List ℕ) (v : ℕ) → In v (r ∷ rest) ⊎ (link_of u v ≡ f v) → In v rest ⊎ (link_of (with_link u r (f r)) v ≡ f v)
  set_links rest v =
      ⊎_elim (λ i. ⊎_elim (λ e. inr (rw e (link_back u r (f r) room small))) (λ k. inl k) (in_cases i)) (λ e. inr (set_by v (eqb v r) refl e))

module _ {f : ℕ → ℕ} {l : List ℕ} {w u : Words}
    (fit : (v : ℕ) → In v l → Room w v × (f v ≤ max_records)) where
  lay_in : {r i : ℕ} → Laying f l w u r i → 0 < i → In r l
  unfolding walk
  lay_in {i = zero} p h = absurd (omega arith)
  lay_in {r = r} {i = suc i} p h = p.within r In.here

  -- The record that comes next may be linked.
  pub lay_fit : {r i : ℕ} → Laying f l w u r i → 0 < i → Room u r × (f r ≤ max_records)
  lay_fit {r} p h = let k = fit r (lay_in p h) in (omega (arith, k.0, p.frame.long), k.1)

  lay_step : (r i : ℕ) → Laying f l w u r (suc i) → Laying f l w (with_link u r (f r)) (next_of w r) i
  unfolding walk
  lay_step r i p =
      let k = lay_fit p (omega arith) in
      record {
        within = λ v k. p.within v (In.there k);
        frame = frame_trans p.frame (link_frame u r (f r) k.0 l (p.within r In.here));
        links = λ v z. set_links f u r k.0 k.1 (siblings_of w i (next_of w r)) v (p.links v z);
      }

  pub lay_turn : {r i j x q : ℕ} {u' : Words} → Laying f l w u r i → i ≡ suc j → x ≡ f r → u' ≡ with_link u r x → q ≡ next_of u r
      → Laying f l w u' q j
  lay_turn {r} {j = j} p d e g k = rw (g, e, k, frame_next p.frame) (lay_step r j (rw d at p))

pub lay_next : {f : ℕ → ℕ} {l : List ℕ} {w u : Words} {r i q : ℕ} → Laying f l w u r i → q ≡ next_of u r → q ≡ next_of w r
lay_next p e = rw (frame_next p.frame) at e

pub lay_end : {f : ℕ → ℕ} {l : List ℕ} {w u : Words} {r i : ℕ} → Laying f l w u r i → i ≡ 0 → Laid f l w u
unfolding walk
lay_end p e =
    let q = rw e at p in record { frame = q.frame; links = λ v k. ⊎_elim (λ z. absurd (in_none z)) (λ e. e) (q.links v k) }
