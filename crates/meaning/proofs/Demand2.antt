-- Demand 2: canonical texts agree exactly where meanings do, and read back to the meaning they were written for.
use Prim.Native.Nat.{◌*◌, ◌+◌, ◌≤◌, max, ℕ}
use Rattle.meaning.proofs.Depth.{depth, depth_merge, keeps_depth}
use Rattle.meaning.proofs.Keeps.{Keeps}
use Rattle.meaning.proofs.Length.{put_length, text_length}
use Rattle.meaning.proofs.MergeLength.{merge_weigh}
use Rattle.meaning.proofs.Merging.{keeps_merge, merge_again, merge_means, merge_same, merge_meaning}
use Rattle.meaning.proofs.Reading.{text_keeps}
use Rattle.meaning.proofs.RoundTrip.{put_text}
use Rattle.meaning.proofs.SideBySide.{merged_some, side_by_side}
use Rattle.meaning.proofs.Sorting.{canon, keeps_canon, mean_canon, sorted_canon, sorted_one}
use Rattle.meaning.proofs.Weight.{canon_weigh, put_weigh}
use Rattle.meaning.specs.Canonical.{Canonical, put}
use Rattle.meaning.specs.Meaning.{Meaning, Tree, mean, meaning, tree}
use Rattle.meaning.specs.Merge.{merge}
use Rattle.text.proofs.Demand3.{one_meaning}
use Rattle.text.specs.Bytes.{Bytes}
use Rattle.text.specs.Ceilings.{house, max_depth}
use Rattle.text.specs.Grammar.{Text}
use Rattle.text.specs.Node.{Node}
use lib.ListN.{length}
use mathlib.Core.List.{[]}
use mathlib.Core.Logic.{◌↔◌}
use mathlib.Core.Path.{◌∙◌, ◌≡◌, ap, refl, subst, subst⁻¹, sym}
use native.Mathlib.Omega.{arith}

-- A tree within the ceilings has a canonical text, and a meaning has one only.
pub canonical_of : {d : ℕ} {t : Tree} → Keeps d t → Canonical (mean t) (put (canon t) [])
canonical_of {t = t} k = Canonical.canonical (canon t) (sorted_canon k) (mean_canon k) refl

pub canonical_one : {m : Meaning} {c d : Bytes} → Canonical m c → Canonical m d → c ≡ d
canonical_one (Canonical.canonical s x e p) (Canonical.canonical t y f q) = sym p ∙ ap (λ t. put t []) (sorted_one x y (e ∙ sym f)) ∙ q

-- It is a text of the grammar within all ceilings, and means what it was written for.
canonical_back : {t : Tree} {c : Bytes} → Keeps 0 t → Canonical (mean t) c → (w : Node) × Text house c w × (meaning w ≡ mean t)
canonical_back {t} k x =
    let (w, y, e) = put_text (keeps_canon k) in
    (w, subst (λ i. Text house i w) (canonical_one (canonical_of k) x) y, ap mean e ∙ mean_canon k)

-- Demand 2 of an accepted text: it has a canonical text, ...
pub text_canonical : {t : Bytes} {v : Node} → Text house t v → (c : Bytes) × Canonical (meaning v) c
text_canonical {v = v} x = (put (canon (tree v)) [], canonical_of (text_keeps x))

-- ... which reads back to the same meaning ...
pub text_back : {t c : Bytes} {v : Node} → Text house t v → Canonical (meaning v) c → (w : Node) × Text house c w × (meaning w ≡ meaning v)
text_back x y = canonical_back (text_keeps x) y

-- ... and is its own canonical text.
pub settled : {t c : Bytes} {v w : Node} → Text house t v → Canonical (meaning v) c → Text house c w → Canonical (meaning w) c
settled {c = c} x y z = let (u, z', e) = text_back x y in subst⁻¹ (λ m. Canonical m c) (ap meaning (one_meaning c z z') ∙ e) y

-- Demand 2 of two accepted texts: the same canonical bytes exactly when they mean the same.
pub demand_2 : {s t c d : Bytes} {v w : Node} → Text house s v → Text house t w → Canonical (meaning v) c → Canonical (meaning w) d → (c ≡ d) ↔ (meaning v ≡ meaning w)
demand_2 {c = c} {d = d} {v = v} {w = w} x y p q = (
  (λ e.
      let (v', x', f) = text_back x p in
      let (w', y', h) = text_back y q in
      sym f ∙ ap meaning (one_meaning d (subst (λ i. Text house i v') e x') y') ∙ h),
  (λ e. canonical_one (subst (λ m. Canonical m c) e p) q),
)

-- A canonical text is at most six times as long as its source.
pub six_times : {t c : Bytes} {v : Node} → Text house t v → Canonical (meaning v) c → length c ≤ 6 * length t
six_times {c = c} {v = v} x y =
    let e : length (put (canon (tree v)) []) ≡ length c = ap (λ z. length z) (canonical_one (canonical_of (text_keeps x)) y) in
    omega (arith, e, canon_weigh (tree v), put_weigh (tree v) [], put_length (tree v) [], text_length x)

-- The merge of two accepted texts keeps to the ceilings, its depth to the deeper one's; so it has a canonical text,
-- which reads back to it; and it depends on what the two mean alone.
module _ {s t : Bytes} {v u : Node} (x : Text house s v) (y : Text house t u) where
  pub merge_keeps : Keeps 0 (merge (tree v) (tree u))
  merge_keeps = keeps_merge (text_keeps y) (text_keeps x)

  pub merge_depth : (depth (merge (tree v) (tree u)) ≤ max (depth (tree v)) (depth (tree u))) × (depth (merge (tree v) (tree u)) ≤ max_depth)
  merge_depth = (depth_merge (tree v) (tree u), let h : 0 + depth (merge (tree v) (tree u)) ≤ max_depth = keeps_depth (omega arith) merge_keeps in omega (arith, h))

  pub merge_canonical : (c : Bytes) × Canonical (mean (merge (tree v) (tree u))) c
  merge_canonical = (put (canon (merge (tree v) (tree u))) [], canonical_of merge_keeps)

  pub merge_back : {c : Bytes} → Canonical (mean (merge (tree v) (tree u))) c → (w : Node) × Text house c w × (meaning w ≡ mean (merge (tree v) (tree u)))
  merge_back z = canonical_back merge_keeps z

  pub merge_respects : {s' t' : Bytes} {v' u' : Node} → Text house s' v' → Text house t' u' → meaning v ≡ meaning v' → meaning u ≡ meaning u'
      → mean (merge (tree v) (tree u)) ≡ mean (merge (tree v') (tree u'))
  merge_respects {v' = v'} x' y' e f = merge_same (tree v) (tree v') (text_keeps y) (text_keeps y') e f

  -- The same patch again changes nothing.
  pub merge_settled : {c : Bytes} {w : Node} → Canonical (mean (merge (tree v) (tree u))) c → Text house c w → Canonical (mean (merge (tree w) (tree u))) c
  merge_settled {c} {w} z r =
      let k = text_keeps y in
      let (w', r', e) = merge_back z in
      let f : meaning w ≡ merge_meaning (meaning v) (meaning u) = ap meaning (one_meaning c r r') ∙ e ∙ merge_means (tree v) k in
      subst⁻¹ (λ m. Canonical m c) (merge_means (tree w) k ∙ ap (λ m. merge_meaning m (meaning u)) f ∙ merge_again (meaning v) (meaning u) ∙ sym (merge_means (tree v) k)) z

  -- It is at most six times as long as both.
  pub merge_six_times : {c : Bytes} → Canonical (mean (merge (tree v) (tree u))) c → length c ≤ 6 * (length s + length t)
  merge_six_times {c} z =
      let k = text_keeps x in
      let l = text_keeps y in
      let (r, m) = merged_some (sorted_canon l) (sorted_canon k) in
      let e : length (put r []) ≡ length c = ap (λ r. length (put r [])) (side_by_side k l m) ∙ ap (λ c. length c) (canonical_one (canonical_of merge_keeps) z) in
      omega (arith, e, put_weigh r [], put_weigh (canon (tree v)) [], put_weigh (canon (tree u)) [], merge_weigh m, six_times x (canonical_of k), six_times y (canonical_of l))
