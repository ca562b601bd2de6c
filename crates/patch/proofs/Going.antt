-- Members of target and patch one after another: what is done, and what the next turn adds to it.
use Prim.Native.Char.{code}
use Prim.Native.Nat.{◌+◌, ◌-◌, ◌<◌, suc, ℕ}
use Rattle.meaning.proofs.SideBySide.{Side}
use Rattle.meaning.specs.Canonical.{put, put_rest}
use Rattle.meaning.specs.Meaning.{Pairs, Tree}
use Rattle.members.specs.Links.{link_of}
use Rattle.members.specs.Names.{Named, name_of}
use Rattle.members.specs.declared.chain.Chain.{Chain}
use Rattle.names.proofs.Order.{behind_before, order_equal}
use Rattle.names.specs.Order.{order}
use Rattle.patch.proofs.Sides.{Ahead, Turned, turn_both, turn_new, turn_old}
use Rattle.patch.specs.Emits.{end_at, mark_at}
use Rattle.patch.specs.Stands.{Chained, Old, Stands}
use Rattle.patch.specs.Turns.{Takes, key, old_of, rest_of, turn_of}
use Rattle.patch.specs.Walks.{left}
use Rattle.std.specs.Ordering.{is_ge, is_le, is_lt, ordering_index}
use Rattle.std.proofs.lemmas.Bool.Decides.{nat_tests}
use Rattle.std.specs.declared.cmp.Ordering.{Ordering}
use Rattle.std.specs.declared.cmp.Ordering.TheVariants.{Less, Equal, Greater}
use Rattle.text.specs.Bytes.{Bytes, Units}
use Rattle.text.specs.Table.{Words}
use Rattle.writer.proofs.Gathered.{order_before}
use Rattle.writer.proofs.Spelled.{member_text}
use borrow.Author.Tests.{ne_eqb}
use lib.ListN.{length}
use mathlib.Core.Bool.{Bool, cond, false, true, true≢false}
use mathlib.Core.List.{[], ◌++◌, ◌∷◌, append-nil}
use mathlib.Core.Path.{◌∙◌, ◌≡◌, ap, refl, subst⁻¹, sym}
use native.Mathlib.Omega.{arith}

-- A member behind what is done, and what is left then.
left_member : (done : Bytes) (k : Units) (v : Tree) (rs : Pairs) {m : ℕ} → m ≡ mark_at (length done)
    → left done (Pairs.pair k v rs) ≡ (key m k ++ put v []) ++ left (done ++ (key m k ++ put v [])) rs
unfolding left put
left_member [] k v rs {m} e = ap (λ o. code "{" ∷ o) (sym (member_text k v (put_rest rs []))) ∙ ap (λ n. (key n k ++ put v []) ++ put_rest rs []) (sym e)
left_member (b ∷ done) k v rs {m} e =
    ap (λ o. code "," ∷ o) (sym (member_text k v (put_rest rs [])))
    ∙ ap (λ n. (key n k ++ put v []) ++ put_rest rs []) (sym (e ∙ ap (λ q. cond q (code "{") (code ",")) (ne_eqb (suc (length done)) 0 (λ f. omega arith))))

-- Nothing is left but the end.
pub left_end : (done : Bytes) → left done Pairs.empty ≡ end_at (length done)
unfolding left put end_at
left_end [] = refl
left_end (b ∷ done) = ap (λ q. cond q (code "{" ∷ code "}" ∷ []) (code "}" ∷ [])) (sym (ne_eqb (suc (length done)) 0 (λ f. omega arith)))

-- Whose turn it is where the patch has a member to come, and where both have.
turn_patch : (j : ℕ) (a b : Units) → 0 < j → turn_of 0 j a b ≡ 2
turn_patch j a b h = grind (arith, nat_tests)

turn_named : (i j : ℕ) (a b : Units) → 0 < i → 0 < j → turn_of i j a b ≡ order a b
turn_named i j a b h k = grind (arith, nat_tests)

-- What is to come of a chain: what is behind its first, if that had its turn.
abbrev pub onward_if : Bool → Words → Chain → Chain
onward_if b w c = cond b (rest_of w c) c

-- What turn `z` adds behind `done`, and the members to come then.
pub record Next (t p : Bytes) (w u : Words) (d : ℕ) (a b : Chain) (z : Ordering) (m : ℕ) (done : Bytes) (rs : Pairs) : Type 0 where
  pub olds : Pairs
  pub news : Pairs
  pub merged : Pairs
  pub target : Chained t w d (onward_if (is_le z) w a).count (onward_if (is_le z) w a).head olds
  pub patch : Chained p u d (onward_if (is_ge z) u b).count (onward_if (is_ge z) u b).head news
  pub side : Side olds news merged
  pub entry : Bytes
  pub takes : Takes t p w u d a.head b.head z m entry
  pub text : left done rs ≡ entry ++ left (done ++ entry) merged
  pub old_left : is_le z ≡ true → 0 < a.count
  pub new_left : is_ge z ≡ true → 0 < b.count

-- The rest of a chain of `suc n`.
rest_chained : {t : Bytes} {w : Words} {d n x : ℕ} {ps : Pairs} → Chained t w d n x ps → Chained t w d (suc n - 1) x ps
rest_chained {t} {w} {d} {n} {x} {ps} c =
    let e : suc n - 1 ≡ n = omega arith in
    subst⁻¹ (λ n. Chained t w d n x ps) e c

-- A turn that takes a member of the patch adds this behind `done`.
record Adds (t p : Bytes) (w u : Words) (d x y : ℕ) (z : Ordering) (m : ℕ) (done : Bytes) (rs rs' : Pairs) : Type 0 where
  pub entry : Bytes
  pub takes : Takes t p w u d x y z m entry
  pub text : left done rs ≡ entry ++ left (done ++ entry) rs'

module _ {t p : Bytes} {w u : Words} {d m : ℕ} {done : Bytes} (mark : m ≡ mark_at (length done)) where
  -- The target's member comes next.
  next_old : {i x j y : ℕ} {v : Tree} {ps qs rs : Pairs} → Named t w x → Stands t w x d v → Chained t w d i (link_of w x) ps → Chained p u d j y qs
      → Ahead (name_of t w x) qs → Side (Pairs.pair (name_of t w x) v ps) qs rs
      → Next t p w u d (record { head = x; count = suc i }) (record { head = y; count = j }) Less m done rs
  next_old {i} {x} {j} {y} {v} {ps} {qs} n s c k a h =
      let (rs, f, g) = turn_old a h in
      record {
        olds = ps;
        news = qs;
        merged = rs;
        target = rest_chained c;
        patch = k;
        side = g;
        entry = key m (name_of t w x) ++ put v [];
        takes = Takes.keep refl n s refl;
        text = ap (left done) f ∙ left_member done (name_of t w x) v rs mark;
        old_left = λ _. omega arith;
        new_left = λ f. absurd (true≢false (sym f));
      }

  adds : {x y : ℕ} {z : Ordering} {a q : Tree} {rs rs' : Pairs} → is_lt z ≡ false → Named p u y → Old t w d (old_of z x) a → Stands p u y d q → Turned (name_of p u y) a q rs rs' → Adds t p w u d x y z m done rs rs'
  adds {rs' = rs'} n b o s (Turned.dropped e f) =
      record { entry = []; takes = Takes.skip n s e refl; text = ap (left done) f ∙ ap (λ l. left l rs') (sym (append-nil done)) }
  adds {y = y} {rs' = rs'} n b o s (Turned.merged {r = r} e g f) =
      record {
        entry = key m (name_of p u y) ++ put r [];
        takes = Takes.set n b o s e g refl;
        text = ap (left done) f ∙ left_member done (name_of p u y) r rs' mark;
      }

  -- The patch's comes next, alone or with the target's.
  next_new : {i x j y : ℕ} {q : Tree} {ps qs rs : Pairs} → Chained t w d i x ps → Named p u y → Stands p u y d q → Chained p u d j (link_of u y) qs
      → Ahead (name_of p u y) ps → Side ps (Pairs.pair (name_of p u y) q qs) rs
      → Next t p w u d (record { head = x; count = i }) (record { head = y; count = suc j }) Greater m done rs
  next_new {i} {x} {j} {y} {q} {ps} {qs} c n s k a h =
      let (rs, f, g) = turn_new a h in
      let r = adds {x = x} {z = Greater} refl n refl s f in
      record {
        olds = ps;
        news = qs;
        merged = rs;
        target = c;
        patch = rest_chained k;
        side = g;
        entry = r.entry;
        takes = r.takes;
        text = r.text;
        old_left = λ f. absurd (true≢false (sym f));
        new_left = λ _. omega arith;
      }

  next_both : {i x j y : ℕ} {v q : Tree} {ps qs rs : Pairs} → Stands t w x d v → Chained t w d i (link_of w x) ps
      → Named p u y → Stands p u y d q → Chained p u d j (link_of u y) qs
      → name_of t w x ≡ name_of p u y → Side (Pairs.pair (name_of t w x) v ps) (Pairs.pair (name_of p u y) q qs) rs
      → Next t p w u d (record { head = x; count = suc i }) (record { head = y; count = suc j }) Equal m done rs
  next_both {i} {x} {j} {y} {v} {q} {ps} {qs} a c n s k i' h =
      let (rs, f, g) = turn_both i' h in
      let r = adds {x = x} {z = Equal} refl n a s f in
      record {
        olds = ps;
        news = qs;
        merged = rs;
        target = rest_chained c;
        patch = rest_chained k;
        side = g;
        entry = r.entry;
        takes = r.takes;
        text = r.text;
        old_left = λ _. omega arith;
        new_left = λ _. omega arith;
      }

  -- With a member on both sides their names decide.
  next_named : {i x j y : ℕ} {v q : Tree} {ps qs rs : Pairs} → Named t w x → Stands t w x d v → Chained t w d i (link_of w x) ps
      → Named p u y → Stands p u y d q → Chained p u d j (link_of u y) qs
      → Side (Pairs.pair (name_of t w x) v ps) (Pairs.pair (name_of p u y) q qs) rs → (z : Ordering) → ordering_index z ≡ order (name_of t w x) (name_of p u y)
      → Next t p w u d (record { head = x; count = suc i }) (record { head = y; count = suc j }) z m done rs
  next_named a b c n s k h Less e = next_old a b c (Chained.more n s k) (Ahead.some (order_before _ _ (sym e))) h
  next_named a b c n s k h Equal e = next_both b c n s k (order_equal _ _ (sym e)) h
  next_named a b c n s k h Greater e = next_new (Chained.more a b c) n s k (Ahead.some (order_before _ _ (behind_before _ _ (sym e)))) h

  pub next : {i x j y : ℕ} {ps qs rs : Pairs} → Chained t w d i x ps → Chained p u d j y qs → Side ps qs rs → 0 < i + j
      → (z : Ordering) → ordering_index z ≡ turn_of i j (name_of t w x) (name_of p u y)
      → Next t p w u d (record { head = x; count = i }) (record { head = y; count = j }) z m done rs
  next Chained.none Chained.none h l z e = absurd (omega arith)
  next (Chained.more a b c) Chained.none h l Less e = next_old a b c Chained.none Ahead.none h
  next (Chained.more a b c) Chained.none h l Equal e = absurd (omega (arith, e))
  next (Chained.more a b c) Chained.none h l Greater e = absurd (omega (arith, e))
  next Chained.none (Chained.more n s k) h l Greater e = next_new Chained.none n s k Ahead.none h
  next {x = x} {j = j} {y = y} Chained.none (Chained.more n s k) h l Less e = absurd (omega (arith, e, turn_patch j (name_of t w x) (name_of p u y) (omega arith)))
  next {x = x} {j = j} {y = y} Chained.none (Chained.more n s k) h l Equal e = absurd (omega (arith, e, turn_patch j (name_of t w x) (name_of p u y) (omega arith)))
  next {i = i} {x = x} {j = j} {y = y} (Chained.more a b c) (Chained.more n s k) h l z e =
      next_named a b c n s k h z (e ∙ turn_named i j (name_of t w x) (name_of p u y) (omega arith) (omega arith))
