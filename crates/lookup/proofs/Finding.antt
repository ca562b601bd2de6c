-- What is found among the values inside a container, by their records.
use Prim.Native.Nat.{◌+◌, ◌-◌, suc, zero, ℕ}
use Rattle.lookup.specs.Steps.{Stepped}
use Rattle.meaning.specs.Lookup.{Seen, by_name, nth}
use Rattle.members.specs.Names.{name_at}
use Rattle.members.specs.Records.{word}
use Rattle.names.specs.Units.{units}
use Rattle.std.proofs.lemmas.List.{take_rest}
use Rattle.std.specs.List.{find, slice_get}
use Rattle.std.specs.Prelude.{Option, Some}
use Rattle.text.specs.Bytes.{Bytes, Units}
use Rattle.text.specs.Ceilings.{same}
use Rattle.text.specs.Node.{Members, Node, Nodes}
use Rattle.text.specs.Table.{Words, size}
use Rattle.values.specs.Children.{elements, members, places}
use Rattle.values.specs.Held.{Held, HeldAll, Spelt}
use lib.ListN.{drop, length, take}
use mathlib.Core.Bool.{Bool, cond, false, true}
use mathlib.Core.Path.{◌∙◌, ◌≡◌, ap}

-- Whether record `r` is that of a member of the name `us`.
abbrev pub is_named : Bytes → Words → Units → ℕ → Bool
is_named t w us r = same us (name_at t (word w r 2))

-- As the bytes behind the name's opening quote, which stands at `q`, tell.
pub named_by : (t : Bytes) (w : Words) (us : Units) (r q : ℕ) {z : Bool} → z ≡ same us (units (take (length t - (q + 1)) (drop (q + 1) t))) → q ≡ word w r 2 → z ≡ is_named t w us r
named_by t w us r q f g = f ∙ ap (λ s. same us (units s)) (take_rest t (q + 1)) ∙ ap (λ q. same us (name_at t q)) g

module _ {t : Bytes} {w : Words} (p : ℕ) where
  pub nth_place : {k : ℕ} (i : ℕ) (vs : Nodes) → HeldAll t w k (elements vs) → Stepped t w p (slice_get (places k (elements vs)) i) (nth p i k vs)
  unfolding elements nth places
  nth_place i Nodes.nil HeldAll.none = Stepped.lost
  nth_place zero (Nodes.cons v vs) (HeldAll.more h u e y) = Stepped.found h
  nth_place {k} (suc i) (Nodes.cons v vs) (HeldAll.more h u e y) = nth_place {k = k + size v} i vs y

  first_place : {k : ℕ} {v : Node} {o : Option ℕ} {s : Seen} (x : Bool) → Held t w k v → Stepped t w p o s → Stepped t w p (cond x (Some k) o) (elim x as (λ _. Seen) [ true ↦ Seen.found k v | false ↦ s ])
  first_place true h s = Stepped.found h
  first_place false h s = s

  pub find_place : {k b : ℕ} (us : Units) (ms : Members) → Spelt t b ms → HeldAll t w k (members ms) → Stepped t w p (find (is_named t w us) (places k (members ms))) (by_name p us k ms)
  unfolding members by_name places
  find_place us Members.empty s HeldAll.none = Stepped.lost
  find_place {k} us (Members.member q ns v ms) (Spelt.more a b c n s) (HeldAll.more h u e y) =
      rw (ap (same us) (ap (name_at t) e ∙ n)) (first_place (same us ns) h (find_place {k = k + size v} us ms s y))
