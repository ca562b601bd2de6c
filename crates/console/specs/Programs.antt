-- The line that each of the two programs writes, its line feed included. 01 "The two programs".
use Rattle.std.specs.Prelude.{ℕ, ◌<◌, ◌≤◌, length, [], ◌++◌, ◌∷◌}
use Rattle.meaning.specs.Canonical.{Canonical, put_digits}
use Rattle.meaning.specs.Meaning.{mean, meaning, tree}
use Rattle.meaning.specs.Merge.{merge}
use Rattle.text.specs.Bytes.{Bytes, ascii}
use Rattle.text.specs.Ceilings.{house}
use Rattle.text.specs.Node.{Node}
use Rattle.text.specs.Verdict.{Outcome, Verdict}

-- The most bytes of a text.
abbrev pub longest : ℕ
longest = 1024

-- A number in fewest digits: one of 32 bits has at most ten.
abbrev pub decimal : ℕ → Bytes
decimal n = put_digits 10 n []

abbrev pub feed : Bytes
feed = 0x0a ∷ []

-- `refused N at P`, and `refused N in I at P`.
unfoldable pub refused_at : ℕ → ℕ → Bytes
refused_at n p = ascii "refused " ++ decimal n ++ ascii " at " ++ decimal p ++ feed

unfoldable pub refused_in : ℕ → ℕ → ℕ → Bytes
refused_in n i p = ascii "refused " ++ decimal n ++ ascii " in " ++ decimal i ++ ascii " at " ++ decimal p ++ feed

-- What is made of a text: one that is too long is refused as 1 at 0, and any other has its verdict.
pub data Judged (t : Bytes) : Outcome → Type 0 where
  long : longest < length t → Judged t (Outcome.refused 1 0)
  short : {a : Outcome} → length t ≤ longest → Verdict house t a → Judged t a

-- The line of the first program for a text.
pub data Canon (t : Bytes) : Bytes → Type 0 where
  refused : {n p : ℕ} → Judged t (Outcome.refused n p) → Canon t (refused_at n p)
  written : {v : Node} {c : Bytes} → Judged t (Outcome.accepted v) → Canonical (meaning v) c → Canon t (c ++ feed)

-- The line of the second for a target and a patch: all of the target, then all of the patch.
pub data Apply (t p : Bytes) : Bytes → Type 0 where
  refused : {n q : ℕ} → Judged t (Outcome.refused n q) → Apply t p (refused_in n 1 q)
  refused_patch : {v : Node} {n q : ℕ} → Judged t (Outcome.accepted v) → Judged p (Outcome.refused n q) → Apply t p (refused_in n 2 q)
  written : {v u : Node} {c : Bytes} → Judged t (Outcome.accepted v) → Judged p (Outcome.accepted u)
      → Canonical (mean (merge (tree v) (tree u))) c → Apply t p (c ++ feed)
