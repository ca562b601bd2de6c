-- Lines of the two programs, 01's own among them.
use Prim.Native.Nat.{◌≤◌}
use Rattle.console.specs.Programs.{Apply, Canon, Judged, feed, longest, refused_at, refused_in}
use Rattle.meaning.specs.Canonical.{put_digits}
use Rattle.text.proofs.Demand3.{read, read_right}
use Rattle.text.proofs.Limits.{house_limits}
use Rattle.text.specs.Bytes.{Bytes, ascii}
use Rattle.text.specs.Ceilings.{house}
use Rattle.text.specs.Verdict.{Outcome}
use lib.Dec.{lit≤}
use lib.ListN.{length}
use mathlib.Core.List.{[], ◌++◌}
use mathlib.Core.Path.{◌≡◌, refl, subst}

judged : {a : Outcome} (t : Bytes) → length t ≤ longest → read house t ≡ a → Judged t a
judged t l e = subst (Judged t) e (Judged.short l (read_right house_limits t))

-- 01's example: a name that stands twice.
pub canon_example : Canon (ascii "{\"a\":1,\"\\u0061\":2}") (ascii "refused 8 at 14" ++ feed)
unfolding read put_digits refused_at
canon_example = Canon.refused {n = 8} {p = 14} (judged _ (lit≤ tt) refl)

-- A file that can't be opened counts as an empty text.
pub apply_example : (p : Bytes) → Apply [] p (ascii "refused 3 in 1 at 0" ++ feed)
unfolding read put_digits refused_in
apply_example p = Apply.refused {n = 3} {q = 0} (judged [] (lit≤ tt) refl)
