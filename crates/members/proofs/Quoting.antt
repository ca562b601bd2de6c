-- The first repeat among records is the first among their quotes, since numbers and quotes ascend together.
use Prim.Native.Nat.{◌<◌, ◌≤◌, ℕ}
use Rattle.members.proofs.Earliness.{distinct_one}
use Rattle.members.proofs.Lineage.{siblings_onward, siblings_shut}
use Rattle.members.proofs.Membership.{in_cases, in_none}
use Rattle.members.proofs.RowLaws.{row_in}
use Rattle.members.specs.Lists.{In}
use Rattle.members.specs.Names.{name_at, name_of}
use Rattle.members.specs.Records.{next_of, word}
use Rattle.members.specs.Repeats.{Distinct, Repeated}
use Rattle.members.specs.Rows.{Row, named}
use Rattle.members.specs.Siblings.{Siblings}
use Rattle.text.specs.Bytes.{Bytes}
use Rattle.text.specs.Table.{Words}
use borrow.Author.Tests.{ltb-false, ltb-true}
use lib.Dec.{ltb}
use mathlib.Core.Bool.{Bool, false, true}
use mathlib.Core.List.{List, [], ◌∷◌}
use mathlib.Core.Logic.{⊎_elim}
use mathlib.Core.Path.{◌∙◌, ◌≡◌, ap, refl, sym}
use native.Mathlib.Omega.{arith}

-- The record whose quote stands at `x`.
record Owner (w : Words) (l : List ℕ) (x : ℕ) : Type 0 where
  pub owner : ℕ
  pub member : In owner l
  pub at : x ≡ word w owner 2

owner_of : {w : Words} {x : ℕ} (l : List ℕ) → In x (named w l) → Owner w l x
unfolding named
owner_of [] i = absurd (in_none i)
owner_of (r ∷ l) i =
    ⊎_elim
    (λ e. record { owner = r; member = In.here; at = e })
    (λ k. let o = owner_of l k in record { owner = o.owner; member = In.there o.member; at = o.at })
    (in_cases i)

pub quote_in : (w : Words) {r : ℕ} {l : List ℕ} → In r l → In (word w r 2) (named w l)
unfolding named
quote_in w In.here = In.here
quote_in w (In.there i) = In.there (quote_in w i)

module _ {t : Bytes} {w : Words} {first end : ℕ} (row : Row t w first end) {l : List ℕ} (s : Siblings w end first l) where
  rising : (x y : ℕ) → In x l → In y l → x < y → word w x 2 < word w y 2
  rising x y i j = row.rising x y (row_in row s i) (row_in row s j)

  -- Of two quotes the lesser has the lesser record.
  reflects : (x y : ℕ) (b : Bool) → ltb x y ≡ b → In x l → In y l → word w x 2 < word w y 2 → x < y
  reflects x y true e i j h = ltb-true x y e
  reflects x y false e i j h = absurd (equal_or (ltb y x) refl)
    where
      equal_or : (c : Bool) → ltb y x ≡ c → ⊥
      equal_or true f = omega (arith, h, rising y x j i (ltb-true y x f))
      equal_or false f =
          let d : x ≡ y = omega (arith, ltb-false x y e, ltb-false y x f) in
          omega (arith, h, ap (λ (r : ℕ). word w r 2) d)

  keeps : (x y : ℕ) (b : Bool) → ltb x y ≡ b → In x l → In y l → x ≤ y → word w x 2 ≤ word w y 2
  keeps x y true e i j h = omega (arith, rising x y i j (ltb-true x y e))
  keeps x y false e i j h =
      let d : x ≡ y = omega (arith, ltb-false x y e) in omega (arith, ap (λ (r : ℕ). word w r 2) d)

  module _ {x y : ℕ} (a : Owner w l x) (b : Owner w l y) where
    owners_rise : x < y → a.owner < b.owner
    owners_rise h = reflects a.owner b.owner (ltb a.owner b.owner) refl a.member b.member (omega (arith, h, a.at, b.at))

    owners_alike : name_at t x ≡ name_at t y → name_of t w a.owner ≡ name_of t w b.owner
    unfolding name_of
    owners_alike e = ap (name_at t) (sym a.at) ∙ e ∙ ap (name_at t) b.at

  pub quotes_distinct : Distinct (name_of t w) l → Distinct (name_at t) (named w l)
  quotes_distinct p x y i j h e =
      let a = owner_of l i in
      let b = owner_of l j in
      p a.owner b.owner a.member b.member (owners_rise a b h) (owners_alike a b e)

  pub quote_repeated : {z q : ℕ} → Repeated (name_of t w) l z → q ≡ word w z 2 → Repeated (name_at t) (named w l) q
  unfolding name_of
  quote_repeated {z} p f =
      let r = p.real in
      record {
        least = λ x y i j h e.
            let a = owner_of l i in
            let b = owner_of l j in
            let k = p.least a.owner b.owner a.member b.member (owners_rise a b h) (owners_alike a b e) in
            omega (arith, f, b.at, keeps z b.owner (ltb z b.owner) refl r.0 b.member k);
        real = rw f (quote_in w r.0, (word w r.1.0 2, quote_in w r.1.1, rising r.1.0 z r.1.1 r.0 r.1.2, r.1.3));
      }

  -- No sibling and one.
  pub quotes_none : end ≤ first → Distinct (name_at t) (named w l)
  quotes_none h = quotes_distinct (rw (siblings_shut s h) (λ x y i. absurd (in_none i)))

  pub quotes_one : first < end → end ≤ next_of w first → Distinct (name_at t) (named w l)
  quotes_one h k =
      let o = siblings_onward s h in
      quotes_distinct (rw (o.split, siblings_shut o.siblings k) (distinct_one (name_of t w) first))
