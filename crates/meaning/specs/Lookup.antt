-- What a pointer names in a text: a value with its record's number, or the place of the first token that names
-- nothing. 01 "Pointer"; RFC 6901 section 4.
use Rattle.std.specs.Prelude.{ℕ, zero, suc, ◌+◌, Bool, true, false, ◌&&◌, List, [], ◌∷◌}
use Rattle.meaning.specs.Pointer.{Token}
use Rattle.text.specs.Bytes.{Units, is_digit, is_nonzero, value_from}
use Rattle.text.specs.Ceilings.{same}
use Rattle.text.specs.Node.{Members, Node, Nodes}
use Rattle.text.specs.Table.{size}

pub data Seen : Type 0 where
  found : ℕ → Node → Seen
  lost : ℕ → Seen

-- An array's index: one digit, or a digit 1 to 9 and more digits.
unfoldable pub all_digits : Units → Bool
all_digits [] = true
all_digits (b ∷ bs) = is_digit b && all_digits bs

unfoldable pub is_index : Units → Bool
unfolding all_digits
is_index [] = false
is_index (b ∷ []) = is_digit b
is_index (b ∷ c ∷ bs) = is_nonzero b && all_digits (c ∷ bs)

-- Among members, or elements, of which the first has record `n`: the one of a name, and the one of an index; where there
-- is none it is lost at `p`.
unfoldable pub by_name : ℕ → Units → ℕ → Members → Seen
unfolding size
by_name p us n Members.empty = Seen.lost p
by_name p us n (Members.member q k v ms) = elim (same us k) [ true ↦ Seen.found n v | false ↦ by_name p us (n + size v) ms ]

unfoldable pub nth : ℕ → ℕ → ℕ → Nodes → Seen
unfolding size
nth p i n Nodes.nil = Seen.lost p
nth p zero n (Nodes.cons v vs) = Seen.found n v
nth p (suc i) n (Nodes.cons v vs) = nth p i (n + size v) vs

-- What the token `us`, whose `/` stands at `p`, names below the value of record `n`.
unfoldable pub child : ℕ → Units → ℕ → Node → Seen
unfolding by_name nth is_index value_from
child p us n (Node.literal a e w) = Seen.lost p
child p us n (Node.string a e vs) = Seen.lost p
child p us n (Node.number a e x) = Seen.lost p
child p us n (Node.array a e vs) = elim (is_index us) [ true ↦ nth p (value_from 0 us) (suc n) vs | false ↦ Seen.lost p ]
child p us n (Node.object a e ms) = by_name p us (suc n) ms

-- What the tokens name from the value of record `n` on.
unfoldable pub resolve : List Token → ℕ → Node → Seen
unfolding child
resolve [] n v = Seen.found n v
resolve (Token.token p us ∷ ts) n v = elim (child p us n v) [ Seen.found m w ↦ resolve ts m w | Seen.lost q ↦ Seen.lost q ]
