-- Links set and taken away again leave the table as it was, if its words had none.
use Prim.Native.Nat.{◌%◌, ◌*◌, ◌+◌, ◌/◌, ◌<◌, suc, zero, ℕ}
use Rattle.members.proofs.Membership.{in_decided}
use Rattle.members.specs.Links.{Frame, link_of, low_part}
use Rattle.members.specs.Lists.{In}
use Rattle.members.specs.Records.{word}
use Rattle.text.specs.Table.{Words, record_words}
use lib.ListN.{get_or}
use lib.Seq.{ext_get_or}
use mathlib.Core.List.{List}
use mathlib.Core.Logic.{⊎_elim}
use mathlib.Core.Path.{◌≡◌}
use native.Mathlib.Omega.{arith}

module _ {l : List ℕ} {w u : Words} (f : Frame l w u) (gone : (v : ℕ) → In v l → link_of u v ≡ 0)
    (low : (v : ℕ) → In v l → (word w v 0 < low_part) × (word w v 1 < low_part)) where
  words : (r : ℕ) → (word u r 0 ≡ word w r 0) × (word u r 1 ≡ word w r 1)
  unfolding link_of
  words r =
      ⊎_elim
      (λ i. let g = gone r i in let k = low r i in (omega (arith, g, k.0, f.low (record_words * r + 0)), omega (arith, g, k.1, f.low (record_words * r + 1))))
      (f.out r)
      (in_decided r l)

  word_at : (r j i : ℕ) → i ≡ record_words * r + j → j < record_words → get_or u i 0 ≡ get_or w i 0
  word_at r zero i e h = rw e (words r).0
  word_at r (suc zero) i e h = rw e (words r).1
  word_at r (suc (suc zero)) i e h = rw e (f.quote r)
  word_at r (suc (suc (suc zero))) i e h = rw e (f.next r)
  word_at r (suc (suc (suc (suc j)))) i e h = absurd (omega arith)

  pub restored : u ≡ w
  restored = ext_get_or 0 u w f.long (λ i h. word_at (i / record_words) (i % record_words) i (omega arith) (omega arith))
