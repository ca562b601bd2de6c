-- The turns of merging two chains inside a table.
use Prim.Native.Nat.{◌+◌, ◌-◌, ◌<◌, ◌≤◌, suc, zero, ℕ}
use Rattle.members.proofs.Framing.{frame_name, frame_refl, frame_seats, frame_trans, frame_walk}
use Rattle.members.proofs.Linking.{link_back, link_frame}
use Rattle.members.proofs.Membership.{in_either, in_equal, in_left, in_none, in_right, in_single}
use Rattle.members.proofs.Mingling.{Mingling, mingle_swap, mingle_take}
use Rattle.members.proofs.Sorting.{before_all, sorted_head}
use Rattle.members.proofs.Turning.{first_picked, second_picked, turned_not, turned_strict, turned_total, turned_trans}
use Rattle.members.specs.Chains.{Linked, chain_of, walk}
use Rattle.members.specs.Links.{Frame, link_of, with_link}
use Rattle.members.specs.Lists.{In, Sorted}
use Rattle.members.specs.declared.chain.Chain.{Chain}
use Rattle.members.specs.Merging.{Picked, Ready, turned}
use Rattle.members.specs.Names.{Named, in_order, name_of}
use Rattle.members.specs.Records.{max_records}
use Rattle.std.proofs.Common.{add-one}
use Rattle.text.specs.Bytes.{Bytes}
use Rattle.text.specs.Table.{Words}
use mathlib.Core.Bool.{Bool, false, not, true}
use mathlib.Core.List.{List, [], ◌++◌, ◌∷◌}
use mathlib.Core.Logic.{inl, inr, ⊎_elim}
use mathlib.Core.Path.{◌≡◌, ap}
use native.Mathlib.Omega.{arith}

-- The order in which the heads are taken.
abbrev pub Taken : Bool → Bytes → Words → ℕ → ℕ → Bool
Taken up t w = turned up (in_order t w)

-- `done` records are chained from `d` on; `i` from `x` on and `j` from `y` on are left.
pub record Midway (up : Bool) (t : Bytes) (w : Words) (a b : List ℕ) (total done : ℕ) (u : Words) (x i y j d : ℕ) : Type 0 where
  pub sum : done + (i + j) ≡ total
  pub mingling : Mingling (Taken up t w) (a ++ b) (chain_of u done d) (chain_of u i x) (chain_of u j y)
  pub frame : Frame (a ++ b) w u
  pub small : d ≤ max_records

module _ {up : Bool} {t : Bytes} {w : Words} {a b : List ℕ} (total : ℕ) (ready : Ready (Taken up t w) t w a b) where
  pub midway_start : (m x n y : ℕ) → m + n ≡ total → a ≡ chain_of w m x → b ≡ chain_of w n y → Midway up t w a b total 0 w x m y n 0
  unfolding walk
  midway_start m x n y e p q =
      record {
        sum = omega arith;
        mingling = rw (← p, ← q) record {
          down = Sorted.none;
          left = ready.left;
          right = ready.right;
          ahead = λ v z i. absurd (in_none i);
          apart = ready.apart;
          only = λ v. ⊎_elim (λ i. absurd (in_none i)) (⊎_elim (λ i. in_left b i) (λ i. in_right a i));
          all = λ v i. inr (in_either a i);
        };
        frame = frame_refl (a ++ b) w;
        small = omega arith;
      }

  module _ {u : Words} {done x i y j d : ℕ} where
    pub midway_swap : Midway up t w a b total done u x i y j d → Midway up t w a b total done u y j x i d
    midway_swap s =
        record { sum = omega (arith, s.sum); mingling = mingle_swap s.mingling; frame = s.frame; small = s.small }

  -- A record that is left has its seat.
  pub midway_seat : {u : Words} {done x i y j d : ℕ} → Midway up t w a b total done u x i y j d → 0 < i → (x < max_records) × Named t u x
  unfolding walk
  midway_seat {i = zero} s h = absurd (omega arith)
  midway_seat {x = x} {i = suc i} s h = frame_seats s.frame t (a ++ b) ready.seats x (s.mingling.only x (inr (inl In.here)))

  -- The head of the first chain is taken.
  module _ {u : Words} {done x i y j d : ℕ} (s : Midway up t w a b total done u x (suc i) y j d) (h : 0 < j → Taken up t w x y ≡ true) where
    seat : (x < max_records) × Named t u x
    seat = midway_seat s (omega arith)

    stays : (n k : ℕ) → (In x (chain_of u n k) → ⊥) → chain_of (with_link u x d) n k ≡ chain_of u n k
    stays n k z =
        frame_walk (link_frame u x d seat.1.0 (x ∷ []) In.here) n k (λ v p q. z (rw (in_single q) at p))

    strict : Taken up t w x x ≡ true → ⊥
    strict = turned_strict (name_of t w) up x

    done_stays : chain_of (with_link u x d) done d ≡ chain_of u done d
    unfolding walk
    done_stays = stays done d (λ k. strict (s.mingling.ahead x x k (inl In.here)))

    made : chain_of (with_link u x d) (suc done) x ≡ x ∷ chain_of u done d
    unfolding walk
    made = rw (link_back u x d seat.1.0 s.small) (ap (λ (l : List ℕ). x ∷ l) done_stays)

    left_stays : chain_of (with_link u x d) i (link_of u x) ≡ chain_of u i (link_of u x)
    unfolding walk
    left_stays = stays i (link_of u x) (λ k. strict (sorted_head s.mingling.left x k))

    right_stays : chain_of (with_link u x d) j y ≡ chain_of u j y
    unfolding walk
    right_stays = stays j y (λ k. s.mingling.apart x In.here k)

    taken : Mingling (Taken up t w) (a ++ b) (x ∷ chain_of u done d) (chain_of u i (link_of u x)) (chain_of u j y)
    unfolding walk
    taken = mingle_take x s.mingling (later j s.mingling.right h)
      where
        later : (n : ℕ) → Sorted (Taken up t w) (chain_of u n y) → (0 < n → Taken up t w x y ≡ true) → (v : ℕ) → In v (chain_of u n y)
            → Taken up t w x v ≡ true
        later zero r g v k = absurd (in_none k)
        later (suc n) r g v k = before_all (Taken up t w) (turned_trans (name_of t w) up) x y (chain_of u n (link_of u y)) r (g (omega arith)) v k

    midway_step : Midway up t w a b total (suc done) (with_link u x d) (link_of u x) i y j x
    unfolding walk
    midway_step =
        record {
          sum = omega (arith, s.sum);
          mingling = rw (made, left_stays, right_stays) taken;
          frame = frame_trans s.frame (link_frame u x d seat.1.0 (a ++ b) (s.mingling.only x (inr (inl In.here))));
          small = omega (arith, seat.0);
        }

  step_first : {u : Words} {done x i y j d : ℕ} → Midway up t w a b total done u x i y j d → 0 < i → (0 < j → Taken up t w x y ≡ true)
      → Midway up t w a b total (done + 1) (with_link u x d) (link_of u x) (i - 1) y j x
  step_first {done = done} {i = i} s p h =
      let e : i ≡ suc (i - 1) = omega arith in
      let s = rw e at s in rw add-one (midway_step s h)

  heads_apart : {u : Words} {done x i y j d : ℕ} → Midway up t w a b total done u x i y j d → 0 < i → 0 < j → x ≡ y → ⊥
  unfolding walk
  heads_apart {i = zero} s p q e = omega arith
  heads_apart {i = suc i} {j = zero} s p q e = omega arith
  heads_apart {x = x} {i = suc i} {j = suc j} s p q e = s.mingling.apart x In.here (in_equal _ e)

  -- What the picked chain gives. Its order is read in the table as it is.
  module _ {u : Words} {done d : ℕ} {x y : Chain} (s : Midway up t w a b total done u x.head x.count y.head y.count d) (z : Bool) (p : Picked (Taken up t u) x y z) where
    picked : Picked (Taken up t w) x y z
    picked = rw (frame_name s.frame t) at p

    pub first_goes : z ≡ true → (0 < x.count) × Named t u x.head
    first_goes e =
        let h = (first_picked (Taken up t w) x y z picked e).0 in (h, (midway_seat s h).1)

    pub second_goes : z ≡ false → (0 < y.count) × Named t u y.head
    second_goes e =
        let h = (second_picked (Taken up t w) x y z picked e).0 in (h, (midway_seat (midway_swap s) h).1)

    pub first_gone : {u' : Words} {x' : Chain} → z ≡ true → u' ≡ with_link u x.head d → x' ≡ record { head = link_of u x.head; count = x.count - 1 }
        → Midway up t w a b total (done + 1) u' x'.head x'.count y.head y.count x.head
    first_gone e e₁ e₂ =
        let h = first_picked (Taken up t w) x y z picked e in rw (e₁, e₂) (step_first s h.0 h.1)

    pub second_gone : {u' : Words} {y' : Chain} → z ≡ false → u' ≡ with_link u y.head d → y' ≡ record { head = link_of u y.head; count = y.count - 1 }
        → Midway up t w a b total (done + 1) u' x.head x.count y'.head y'.count y.head
    second_gone e e₁ e₂ =
        let h = second_picked (Taken up t w) x y z picked e in
        rw (e₁, e₂)
        (midway_swap (step_first (midway_swap s) h.0 (λ q. turned_total (name_of t w) up x.head y.head (h.1 q) (heads_apart s q h.0))))

  pub midway_end : {u : Words} {done x i y j d : ℕ} → Midway up t w a b total done u x i y j d → done ≡ total
      → Linked (turned (not up) (in_order t w)) w (a ++ b) u (chain_of u total d)
  unfolding walk
  midway_end {i = zero} {j = zero} s h =
      rw (← h, ← turned_not (in_order t w) up) record {
        same = record { to = λ v k. s.mingling.only v (inl k); back = λ v k. ⊎_elim (λ p. p) (⊎_elim (λ p. absurd (in_none p)) (λ p. absurd (in_none p))) (s.mingling.all v k) };
        sorted = s.mingling.down;
        frame = s.frame;
      }
  midway_end {i = zero} {j = suc j} s h = absurd (omega (arith, s.sum))
  midway_end {i = suc i} s h = absurd (omega (arith, s.sum))
