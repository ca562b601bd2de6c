-- What room a refusal takes, and where a line stands that was put to the front of an output.
use Prim.Native.Nat.{◌<◌, ◌^◌, ◌≤◌, ℕ}
use Rattle.console.specs.Parts.{refusal_room}
use Rattle.console.specs.Programs.{decimal, refused_at, refused_in}
use Rattle.console.specs.Counts.{IsPrefixLen}
use Rattle.meaning.proofs.NumberLength.{digits_most}
use Rattle.meaning.specs.Canonical.{put_digits}
use Rattle.spell.proofs.Widths.{width}
use Rattle.spell.specs.Puts.{Puts}
use Rattle.text.specs.Bytes.{Bytes}
use Rattle.text.specs.Ceilings.{max_digits}
use lib.ListN.{drop, length, length-append, take}
use lib.Seq.{length-take-le, take_at}
use mathlib.Core.List.{[]}
use mathlib.Core.Path.{◌∙◌, ap, ap₂, refl, subst, sym}
use mir.Syntax.{w32}
use mir.Val.{Fits}
use native.Mathlib.Omega.{arith}

-- Ten digits are enough for a number of 32 bits, whatever width it may have.
pub digits_room : (x : ℕ) {k : ℕ} → Fits w32 x → length (decimal x) ≤ k → (x < 10 ^ max_digits) × (length (put_digits max_digits x []) ≤ k)
digits_room x f h = (omega arith, omega (arith, ap length (width max_digits 10 x [] (omega arith) (omega arith) (omega arith) (omega arith))))

-- A refusal is short, since none of its numbers has more than ten.
pub at_room : (n p : ℕ) {k : ℕ} → refusal_room ≤ k → length (refused_at n p) ≤ k
unfolding refused_at
at_room n p h = simp length-append (omega (arith, digits_most 10 n [], digits_most 10 p []))

pub in_room : (n i p : ℕ) {k : ℕ} → refusal_room ≤ k → length (refused_in n i p) ≤ k
unfolding refused_in
in_room n i p h = simp length-append (omega (arith, digits_most 10 n [], digits_most 10 i [], digits_most 10 p []))

-- What was put to the front of an output is its first bytes.
pub at_front : (Line : Bytes → Type 0) {c o o' : Bytes} {n : ℕ} → Puts c o n o' → Line c → Line (take n o') × IsPrefixLen n o'
at_front Line {c} {o} {o'} {n} p l =
    let r = drop (length c) o in
    let h : n ≤ length o' = omega (arith, p.count, ap length p.now, length-append c r) in
    (subst Line (sym (ap₂ take p.count p.now ∙ take_at c r (length c) refl)) l, (h, sym (length-take-le n o' h)))
