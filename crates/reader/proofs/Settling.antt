-- Containers that a refusal left open are closed as if they ended there, so that their names are judged as well.
use Prim.Native.Nat.{ℕ, ◌*◌, ◌+◌, ◌-◌, ◌<◌, ◌≤◌}
use Rattle.entries.specs.Answer.{max_text}
use Rattle.members.specs.Records.{word_of}
use Rattle.reader.proofs.Behind.{joined}
use Rattle.reader.proofs.Laying.{join, laid_framed, put_value}
use Rattle.reader.proofs.Loop.{after_stop}
use Rattle.reader.proofs.Tokens.{flat_literal}
use Rattle.reader.specs.Loop.{After, Closable, ClosedAt, Inside, Pended, Settled, Stopped}
use Rattle.reader.specs.Stacks.{Marked, Named, kind, name_of, shut_at}
use Rattle.scan.specs.declared.refusal.Refusal.{Refusal}
use Rattle.std.proofs.lemmas.Bool.{false≢true}
use Rattle.std.specs.Prelude.{Option, Some, None, IsSome}
use Rattle.text.proofs.Machine.{Frame, Stack, depth_of}
use Rattle.text.specs.Bytes.{Bytes}
use Rattle.text.specs.Node.{Literal, Node}
use Rattle.text.specs.Table.{Words, unnamed}
use lib.ListN.{get_or, length}
use mathlib.Core.List.{List, ◌∷◌}
use mathlib.Core.Path.{◌∙◌, ◌≡◌, ap, refl, subst, subst⁻¹}
use native.Mathlib.Omega.{arith}

-- What stands for a value that never came.
abbrev missing : Node
missing = Node.literal 0 0 Literal.null

stay : {t : Bytes} {w tab m : Words} {d n op : ℕ} {first : Option ℕ} {r : Option Refusal} {n' : ℕ} {tab' : Words} → (n' ≡ n) × (tab' ≡ tab) → Stopped t w tab m d n op first r None → Stopped t w tab' m d n' op first r None
stay {t} {w} {m = m} {d} {n} {op} {first} {r} {n'} {tab'} (f, g) s = subst⁻¹ (λ n. Stopped t w tab' m d n op first r None) f (subst⁻¹ (λ tab. Stopped t w tab m d n op first r None) g s)

module _ {t : Bytes} {w tab m : Words} {d n op : ℕ} {first : Option ℕ} where
  pub pended : {r : Option Refusal} {nm : Option ℕ} {n' : ℕ} {tab' : Words} → Stopped t w tab m d n op first r nm → Pended tab tab' nm n n' → Stopped t w tab' m d n' op first r None
  unfolding name_of
  pended {tab' = tab'} (Stopped.named {e = e} {q = x} a ms us st es i b q) (f, g) =
      let y : After t w tab' m (Frame.object a ms x us ∷ st) missing es d i (n + 1) op first =
      put_value tab' missing 0 0 i (Some x) q (flat_literal 0 0 Literal.null) refl (omega arith) (omega arith) (omega arith) (q.room refl) q.laid.bound g in
      subst⁻¹ (λ n. Stopped t w tab' m d n op first (Some e) None) f (Stopped.inside (joined (Frame.object a ms x us) missing) st es i b (join (Frame.object a ms x us) st missing y))
  pended (Stopped.read h v es r) x = stay x (Stopped.read h v es r)
  pended (Stopped.outside es b h c f l) x = stay x (Stopped.outside es b h c f l)
  pended (Stopped.inside f st es i b q) x = stay x (Stopped.inside f st es i b q)

  -- Room for such a record.
  pub pend_room : {r : Option Refusal} {nm : Option ℕ} → 4 * length t ≤ length w → Stopped t w tab m d n op first r nm → IsSome nm → 4 * n + 4 ≤ length tab
  unfolding name_of
  pend_room h (Stopped.named a ms us st es i b q) f = let l = laid_framed h q.laid in let r : n < i = q.room refl in omega (arith, l.0, q.laid.bound)
  pend_room h (Stopped.read _ v es r) f = absurd (false≢true f)
  pend_room h (Stopped.outside es b _ _ g l) f = absurd (false≢true f)
  pend_room h (Stopped.inside g st es i b q) f = absurd (false≢true f)

-- A name and the number of records are small.
pub stopped_most : {t : Bytes} {w tab m : Words} {d n op : ℕ} {first : Option ℕ} {r : Option Refusal} {nm : Option ℕ} → length t ≤ max_text → Stopped t w tab m d n op first r nm → (word_of nm ≤ unnamed) × (n < unnamed)
unfolding Named
stopped_most h (Stopped.read z v es r) = (omega arith, omega (arith, r.few))
stopped_most h (Stopped.outside es b z c g l) = (omega arith, omega arith)
stopped_most h (Stopped.inside f st es i b q) = (omega arith, omega (arith, q.laid.few, q.laid.bound))
stopped_most h (Stopped.named a ms us st es i b q) = (omega (arith, q.names.1.inside), omega (arith, q.laid.few, q.laid.bound))

module _ {t : Bytes} {w tab m : Words} {d n op : ℕ} {first : Option ℕ} {r : Option Refusal} (s : Stopped t w tab m d n op first r None) where
  mark_of : {f : Frame} {st : Stack} {es : List ℕ} {i : ℕ} → Inside t w tab m (f ∷ st) es d i n op first → get_or m (d - 1) 0 ≡ kind f
  unfolding depth_of Marked
  mark_of {f} {st} q = let l = q.laid in let h : d - 1 ≡ depth_of st = omega (arith, l.deep) in ap (λ x. get_or m x 0) h ∙ l.marked.0

  pub stopped_closable : 0 < d → Closable t tab op n (get_or m (d - 1) 0) first
  stopped_closable h = by s
    where
      by : {r : Option Refusal} → Stopped t w tab m d n op first r None → Closable t tab op n (get_or m (d - 1) 0) first
      by (Stopped.read z v es r) = absurd (omega arith)
      by (Stopped.outside es b z c g l) = absurd (omega arith)
      by (Stopped.inside f st es i b q) = record { entry = w; marks = m; frame = f; stack = st; names = es; depth = d; offset = i; inside = q; bracketed = mark_of q }

  pub stopped_closes : (e up : ℕ) (first' : Option ℕ) (tab' : Words) → 4 * length t ≤ length w → 0 < d → ClosedAt t tab tab' op e n (get_or m (d - 1) 0) first up first'
      → Stopped t w tab' m (d - 1) n up first' r None
  stopped_closes e up first' tab' room h x = by s
    where
      by : {r : Option Refusal} → Stopped t w tab m d n op first r None → Stopped t w tab' m (d - 1) n up first' r None
      by (Stopped.read z v es r) = absurd (omega arith)
      by (Stopped.outside es b z c g l) = absurd (omega arith)
      by (Stopped.inside {e = k} f st es i b q) = after_stop room k st (shut_at f e) es (x w m f st es d i i q (mark_of q) (omega arith) q.laid.bound) b

  settled : d ≡ 0 → Settled t w tab n first r
  unfolding depth_of
  settled z = by s
    where
      by : {r : Option Refusal} → Stopped t w tab m d n op first r None → Settled t w tab n first r
      by (Stopped.read z v es r) = Settled.read v es r
      by (Stopped.outside es b z c g l) = Settled.broken es b g l
      by (Stopped.inside f st es i b q) = absurd (omega (arith, q.laid.deep))

-- Where nothing is open any more, the count is what it was if the text was read.
settled_broken : {t : Bytes} {w tab : Words} {n n' : ℕ} {first : Option ℕ} {e : Refusal} → Settled t w tab n' first (Some e) → Settled t w tab n first (Some e)
settled_broken (Settled.broken es b g l) = Settled.broken es b g l

pub settled_as : {t : Bytes} {w tab tab₂ m m' : Words} {d d' n n' op op' : ℕ} {first first' : Option ℕ} {r : Option Refusal} {nm : Option ℕ} (tab₁ : Words)
    → Pended tab tab₁ nm n n' → Stopped t w tab m d n op first r nm → Stopped t w tab₂ m' d' n' op' first' r None → d' ≡ 0 → Settled t w tab₂ n first' r
settled_as {t} {w} {tab₂ = tab₂} {first' = first'} _ x (Stopped.read z v es r) s h = subst (λ n. Settled t w tab₂ n first' None) x.0 (settled s h)
settled_as _ x (Stopped.outside es b z c g l) s h = settled_broken (settled s h)
settled_as _ x (Stopped.inside f st es i b q) s h = settled_broken (settled s h)
settled_as _ x (Stopped.named a ms us st es i b q) s h = settled_broken (settled s h)
