-- Members of target and patch come in turn: the one with the least name of both is the next of the result.
use Rattle.meaning.proofs.Order.{before_not, before_trans}
use Rattle.meaning.proofs.SideBySide.{Merged, Side, nothing}
use Rattle.meaning.specs.Meaning.{Pairs, Tree}
use Rattle.meaning.specs.Merge.{is_null}
use Rattle.meaning.specs.Order.{Before, BeforeAll}
use Rattle.text.specs.Bytes.{Units}
use mathlib.Core.Bool.{false, true}
use mathlib.Core.Path.{◌≡◌, refl, sym}

-- `k` stands before the first of these members.
pub data Ahead (k : Units) : Pairs → Type 0 where
  none : Ahead k Pairs.empty
  some : {j : Units} {t : Tree} {ps : Pairs} → Before k j → Ahead k (Pairs.pair j t ps)

-- The turn of a member of the target alone.
pub turn_old : {k : Units} {t : Tree} {ps qs rs : Pairs} → Ahead k qs → Side (Pairs.pair k t ps) qs rs → (rs' : Pairs) × (rs ≡ Pairs.pair k t rs') × Side ps qs rs'
turn_old h (Side.keep {rs = rs} a b s) = (rs, refl, s)
turn_old (Ahead.some l) (Side.skip (BeforeAll.next m a) b z s) = absurd (before_not (before_trans l m) refl)
turn_old (Ahead.some l) (Side.new (BeforeAll.next m a) b z x s) = absurd (before_not (before_trans l m) refl)
turn_old (Ahead.some l) (Side.remove a b z s) = absurd (before_not l refl)
turn_old (Ahead.some l) (Side.change a b z x s) = absurd (before_not l refl)

-- What a turn of a member of the patch, with the value `p`, makes of the result: nothing, or the merge with `t`.
pub data Turned (k : Units) (t p : Tree) (rs rs' : Pairs) : Type 0 where
  dropped : is_null p ≡ true → rs ≡ rs' → Turned k t p rs rs'
  merged : {r : Tree} → is_null p ≡ false → Merged t p r → rs ≡ Pairs.pair k r rs' → Turned k t p rs rs'

pub turn_new : {k : Units} {p : Tree} {ps qs rs : Pairs} → Ahead k ps → Side ps (Pairs.pair k p qs) rs → (rs' : Pairs) × Turned k nothing p rs rs' × Side ps qs rs'
turn_new h (Side.skip {rs = rs} a b z s) = (rs, Turned.dropped z refl, s)
turn_new h (Side.new {rs = rs} a b z m s) = (rs, Turned.merged z m refl, s)
turn_new (Ahead.some l) (Side.keep a (BeforeAll.next m b) s) = absurd (before_not (before_trans l m) refl)
turn_new (Ahead.some l) (Side.remove a b z s) = absurd (before_not l refl)
turn_new (Ahead.some l) (Side.change a b z x s) = absurd (before_not l refl)

pub turn_both : {j k : Units} {t p : Tree} {ps qs rs : Pairs} → j ≡ k → Side (Pairs.pair j t ps) (Pairs.pair k p qs) rs → (rs' : Pairs) × Turned k t p rs rs' × Side ps qs rs'
turn_both e (Side.remove {rs = rs} a b z s) = (rs, Turned.dropped z refl, s)
turn_both e (Side.change {rs = rs} a b z m s) = (rs, Turned.merged z m refl, s)
turn_both e (Side.keep a (BeforeAll.next m b) s) = absurd (before_not m e)
turn_both e (Side.skip (BeforeAll.next m a) b z s) = absurd (before_not m (sym e))
turn_both e (Side.new (BeforeAll.next m a) b z x s) = absurd (before_not m (sym e))
