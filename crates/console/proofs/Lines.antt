-- Of each program one line fits any texts, and no second one does.
use Prim.Native.Nat.{◌<◌, ◌≤◌, ℕ}
use Rattle.console.specs.Programs.{Apply, Canon, Judged, feed, longest, refused_at, refused_in}
use Rattle.meaning.proofs.Demand2.{canonical_of, canonical_one, merge_keeps, text_canonical}
use Rattle.meaning.specs.Canonical.{Canonical}
use Rattle.meaning.specs.Meaning.{mean, meaning, tree}
use Rattle.meaning.specs.Merge.{merge}
use Rattle.text.proofs.Demand3.{number_of_refusal, read, read_right, verdict_one}
use Rattle.text.proofs.Limits.{house_limits}
use Rattle.text.specs.Bytes.{Bytes}
use Rattle.text.specs.Ceilings.{house}
use Rattle.text.specs.Grammar.{Text}
use Rattle.text.specs.Node.{Node}
use Rattle.text.specs.Verdict.{Outcome, Verdict}
use borrow.Author.Tests.{ltb-false, ltb-true}
use lib.Dec.{ltb}
use lib.ListN.{length}
use mathlib.Core.Bool.{Bool, false, true}
use mathlib.Core.List.{◌++◌}
use mathlib.Core.Path.{◌≡◌, ap, refl, subst}
use native.Mathlib.Omega.{arith}

-- What is made of a text.
judged_some : (t : Bytes) → (a : Outcome) × Judged t a
judged_some t = by (ltb longest (length t)) refl
  where
    by : (b : Bool) → ltb longest (length t) ≡ b → (a : Outcome) × Judged t a
    by true e = (Outcome.refused 1 0, Judged.long (ltb-true longest (length t) e))
    by false e = (read house t, Judged.short (ltb-false longest (length t) e) (read_right house_limits t))

judged_one : {t : Bytes} {a b : Outcome} → Judged t a → Judged t b → a ≡ b
judged_one (Judged.long h) (Judged.long g) = refl
judged_one (Judged.long h) (Judged.short l v) = absurd (omega arith)
judged_one (Judged.short l v) (Judged.long h) = absurd (omega arith)
judged_one (Judged.short l v) (Judged.short m w) = verdict_one v w

judged_text : {t : Bytes} {v : Node} → Judged t (Outcome.accepted v) → Text house t v
judged_text (Judged.short l (Verdict.text x)) = x

-- The numbers that a text is refused with: 2, 12 and 13 are none of them.
pub judged_number : {t : Bytes} {n p : ℕ} → Judged t (Outcome.refused n p) → (0 < n) × (n ≤ 9) × (n ≡ 2 → ⊥)
judged_number (Judged.long h) = (omega arith, omega arith, λ e. omega (arith, e))
judged_number (Judged.short l v) = let r = number_of_refusal v in (omega arith, omega arith, λ e. omega (arith, e))

-- A text is not both refused and accepted.
apart : {t : Bytes} {n p : ℕ} {v : Node} → Judged t (Outcome.refused n p) → Judged t (Outcome.accepted v) → ⊥
apart r s = let e = judged_one r s in let z : ◌≡◌ {A = ℕ} 0 1 = cc in omega arith

-- The first program.
pub canon_some : (t : Bytes) → (c : Bytes) × Canon t c
canon_some t = let (a, j) = judged_some t in by a j
  where
    by : (a : Outcome) → Judged t a → (c : Bytes) × Canon t c
    by (Outcome.refused n p) j = (refused_at n p, Canon.refused j)
    by (Outcome.accepted v) j = let (c, y) = text_canonical (judged_text j) in (c ++ feed, Canon.written j y)

pub canon_one : {t c d : Bytes} → Canon t c → Canon t d → c ≡ d
canon_one (Canon.refused r) (Canon.refused s) = let e = judged_one r s in cc
canon_one (Canon.refused r) (Canon.written s y) = absurd (apart r s)
canon_one (Canon.written r x) (Canon.refused s) = absurd (apart s r)
canon_one (Canon.written {v = v} {c = c} r x) (Canon.written {v = u} s y) =
    let e = judged_one r s in
    let f : v ≡ u = cc in
    ap (λ z. z ++ feed) (canonical_one (subst (λ v. Canonical (meaning v) c) f x) y)

-- The second.
pub apply_some : (t p : Bytes) → (c : Bytes) × Apply t p c
apply_some t p = let (a, j) = judged_some t in let (b, k) = judged_some p in by a b j k
  where
    by : (a b : Outcome) → Judged t a → Judged p b → (c : Bytes) × Apply t p c
    by (Outcome.refused n q) b j k = (refused_in n 1 q, Apply.refused j)
    by (Outcome.accepted v) (Outcome.refused n q) j k = (refused_in n 2 q, Apply.refused_patch j k)
    by (Outcome.accepted v) (Outcome.accepted u) j k =
        let y = canonical_of (merge_keeps (judged_text j) (judged_text k)) in (_, Apply.written j k y)

pub apply_one : {t p c d : Bytes} → Apply t p c → Apply t p d → c ≡ d
apply_one (Apply.refused r) (Apply.refused s) = let e = judged_one r s in cc
apply_one (Apply.refused r) (Apply.refused_patch s k) = absurd (apart r s)
apply_one (Apply.refused r) (Apply.written s k y) = absurd (apart r s)
apply_one (Apply.refused_patch r j) (Apply.refused s) = absurd (apart s r)
apply_one (Apply.refused_patch r j) (Apply.refused_patch s k) = let e = judged_one j k in cc
apply_one (Apply.refused_patch r j) (Apply.written s k y) = absurd (apart j k)
apply_one (Apply.written r j x) (Apply.refused s) = absurd (apart s r)
apply_one (Apply.written r j x) (Apply.refused_patch s k) = absurd (apart k j)
apply_one (Apply.written {v = v} {u = u} {c = c} r j x) (Apply.written {v = v'} {u = u'} s k y) =
    let e = judged_one r s in
    let f = judged_one j k in
    let g : mean (merge (tree v) (tree u)) ≡ mean (merge (tree v') (tree u')) = cc in
    ap (λ z. z ++ feed) (canonical_one (subst (λ m. Canonical m c) g x) y)
