-- Four words, written one by one.
use Prim.Native.Nat.{◌*◌, ◌+◌, ◌≤◌, ℕ}
use Rattle.reader.specs.Tokens.{put_at}
use Rattle.text.specs.Table.{Words, record_words}
use lib.ListN.{length, set}
use lib.Seq.{sets-eq}
use mathlib.Core.List.{[], ◌∷◌, append_assoc}
use mathlib.Core.Path.{◌∙◌, ◌≡◌}
use native.Mathlib.Numerals.{towards_suc}
use Rattle.reader.proofs.record.put.Goals as goal

put_is : (w : Words) (n a b c d : ℕ) → record_words * n + record_words ≤ length w
    → set (set (set (set w (record_words * n) a) (record_words * n + 1) b) (record_words * n + 2) c) (record_words * n + 3) d ≡ put_at w n a b c d
unfolding put_at
put_is w n a b c d h = simp towards_suc (sets-eq (a ∷ b ∷ c ∷ d ∷ []) w (record_words * n) h ∙ simp (towards_suc, append_assoc))

pub returns : goal.returns
returns c = rw c.word_of.ensures (put_is c.args.table.now c.args.n _ _ _ _ c.requires.0)
