-- A value that stands at a record can be written, so the table has its record and the text its first byte.
use Prim.Native.Nat.{◌<◌, ◌≤◌, ℕ}
use Rattle.entries.specs.Answer.{max_text}
use Rattle.meaning.specs.Canonical.{put}
use Rattle.meaning.specs.Meaning.{Tree}
use Rattle.members.specs.Records.{Room, max_records}
use Rattle.patch.specs.Stands.{Stands}
use Rattle.text.specs.Bytes.{Bytes}
use Rattle.text.specs.Table.{Words}
use Rattle.writer.proofs.Opening.{writes_room}
use Rattle.writer.specs.Writes.{Writes}
use lib.ListN.{length}
use mathlib.Core.List.{[]}
use mathlib.Core.Path.{ap}

module _ {t : Bytes} {w : Words} {r d : ℕ} {v : Tree} where
  pub stands_writes : Stands t w r d v → Writes t w r d (put v [])
  stands_writes (Stands.stands l h k e) = Writes.writes h k (ap (λ v. put v []) e)

  pub stands_short : Stands t w r d v → length t ≤ max_text
  stands_short (Stands.stands l h k e) = l

  pub stands_room : Stands t w r d v → Room w r × (r < max_records)
  stands_room s = writes_room (stands_writes s)
