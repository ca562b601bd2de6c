-- What the merge patch answers, in the terms of the entries.
use Prim.Native.Nat.{◌≤◌, ℕ}
use Rattle.entries.proofs.Readings.{ready_text}
use Rattle.entries.specs.Answer.{Read, Reading, Writing}
use Rattle.entries.specs.Answer as entry
use Rattle.entries.specs.Entries.{Merger}
use Rattle.meaning.proofs.Demand2.{canonical_of, merge_keeps, merge_six_times}
use Rattle.meaning.proofs.Reading.{text_keeps}
use Rattle.meaning.proofs.SideBySide.{merged_some, side_by_side}
use Rattle.meaning.proofs.Sorting.{canon, sorted_canon}
use Rattle.meaning.specs.Canonical.{Canonical, put}
use Rattle.meaning.specs.Meaning.{mean, tree}
use Rattle.meaning.specs.Merge.{merge}
use Rattle.std.specs.Prelude.{Some, Ok}
use Rattle.patch.specs.Emits.{Fits, most_bytes}
use Rattle.patch.specs.Stands.{Stands}
use Rattle.patch.specs.Walks.{Merges}
use Rattle.reader.specs.Answers.{ReadAs}
use Rattle.reader.specs.declared.answer.Input.{Input}
use Rattle.text.specs.Bytes.{Bytes}
use Rattle.text.specs.Node.{Node}
use Rattle.text.specs.Table.{Words}
use Rattle.values.proofs.Holding.{reading_held}
use Rattle.writer.proofs.Answering.{read_short}
use lib.ListN.{length}
use mathlib.Core.Bool.{false, true≢false}
use mathlib.Core.List.{[]}
use mathlib.Core.Path.{◌≡◌, refl, subst⁻¹, sym}
use native.Mathlib.Omega.{arith}

-- The value of a text that was read stands at the first record.
module _ {k : ℕ} {t : Bytes} {w w' : Words} {v : Node} (r : Reading k t w (Read.ready v w')) where
  read_stands : Stands t w' 0 0 (canon (tree v))
  read_stands = Stands.stands (read_short r) (reading_held r) (text_keeps (ready_text r)) refl

-- Two texts that were read, and the canonical text of their merge.
pub record Accepted (t p : Bytes) (w x w' x' : Words) : Type 0 where
  pub old : Node
  pub new : Node
  pub target : Reading 1 t w (Read.ready old w')
  pub patch : Reading 2 p x (Read.ready new x')
  pub text : Bytes
  pub canonical : Canonical (mean (merge (tree old) (tree new))) text
  pub merges : Merges t p w' x' 0 (Some 0) 0 text
  pub few : length text ≤ most_bytes

taken : {t p : Bytes} {w x w' x' : Words} (v u : Node) → Reading 1 t w (Read.ready v w') → Reading 2 p x (Read.ready u x') → Accepted t p w x w' x'
taken v u a b =
    let k = text_keeps (ready_text a) in
    let l = text_keeps (ready_text b) in
    let (r, m) = merged_some (sorted_canon l) (sorted_canon k) in
    let c : Canonical (mean (merge (tree v) (tree u))) (put r []) =
    subst⁻¹ (λ r. Canonical (mean (merge (tree v) (tree u))) (put r [])) (side_by_side k l m) (canonical_of (merge_keeps (ready_text a) (ready_text b))) in
    record {
      old = v;
      new = u;
      target = a;
      patch = b;
      text = put r [];
      canonical = c;
      merges = Merges.merges (read_stands a) (read_stands b) m refl;
      few = omega (arith, read_short a, read_short b, merge_six_times (ready_text a) (ready_text b) c);
    }

pub accepted : {t p : Bytes} {w x w' x' : Words} {m n : ℕ} → ReadAs Input.First t w w' (Ok m) → ReadAs Input.Second p x x' (Ok n) → Accepted t p w x w' x'
accepted (v, e, r) (u, f, s) = taken v u r s

module _ {t p : Bytes} {w x w' x' : Words} (a : Accepted t p w x w' x') {o : Bytes} where
  pub merge_asks : (c : Bytes) × Merges t p w' x' 0 (Some 0) 0 c × Fits false c o
  merge_asks = (a.text, a.merges, record { few = a.few; room = λ e. absurd (true≢false (sym e)) })

  pub merged : {r : entry.Answer} {u y : Words} {o' : Bytes} → ((c : Bytes) → Merges t p w' x' 0 (Some 0) 0 c → Writing c o r o') → (u ≡ w') × (y ≡ x') → Merger t w p x o r u y o'
  merged {r} {y = y} {o' = o'} f (g, h) =
      subst⁻¹ (λ u. Merger t w p x o r u y o') g
      (subst⁻¹ (λ y. Merger t w p x o r w' y o') h (Merger.done a.target a.patch a.canonical (f a.text a.merges)))
