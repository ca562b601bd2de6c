-- What is told of a view holds of its side.
use Prim.Native.Nat.{ℕ}
use Rattle.meaning.specs.Meaning.{Tree}
use Rattle.members.specs.Names.{name_of}
use Rattle.patch.specs.Emits.{Emits}
use Rattle.patch.specs.Stands.{Stands}
use Rattle.patch.specs.Turns.{key}
use Rattle.text.specs.Bytes.{Bytes}
use Rattle.text.specs.Table.{Words}
use mathlib.Core.Bool.{Bool}
use mathlib.Core.Path.{◌≡◌}

module _ {t t' : Bytes} {w w' : Words} (s : (t' ≡ t) × (w' ≡ w)) where
  pub shown : {r d : ℕ} {v : Tree} → Stands t w r d v → Stands t' w' r d v
  shown x = rw (s.0, s.1) x

  pub told : {r : ℕ} {b : Bool} {f : Tree → Bool} → ((d : ℕ) (v : Tree) → Stands t' w' r d v → b ≡ f v) → (d : ℕ) (v : Tree) → Stands t w r d v → b ≡ f v
  told g d v x = g d v (shown x)

  pub keyed : (r : ℕ) {on : Bool} {m n : ℕ} {o o' : Bytes} → Emits on (key m (name_of t' w' r)) o n o' → Emits on (key m (name_of t w r)) o n o'
  keyed r q = rw (s.0, s.1) at q
