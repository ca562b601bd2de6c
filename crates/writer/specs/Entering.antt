-- What entering a container does to the table, and leaving it again.
use Rattle.std.specs.Prelude.{ℕ, ◌%◌, eqb, get_or, Bool, false, true, List, ◌≡◌}
use Rattle.members.specs.Chains.{siblings_of}
use Rattle.members.specs.Links.{Laid, low_part}
use Rattle.members.specs.Lists.{In}
use Rattle.members.specs.Records.{Room, word}
use Rattle.reader.specs.Tokens.{brace, opens_container}
use Rattle.text.specs.Bytes.{Bytes}
use Rattle.text.specs.Table.{Words}

abbrev pub opens_object : ℕ → Bool
opens_object b = eqb b brace

-- The value of record `r` is a container that `b` opens.
pub record Opened (t : Bytes) (w : Words) (r b : ℕ) : Type 0 where
  pub byte : get_or t (word w r 0 % low_part) 0 ≡ b
  pub kind : opens_container b ≡ true

-- From `u` to `x` the links of the records `l` of an object were taken away; an array has none.
unfoldable pub Cleared : Bool → List ℕ → Words → Words → Type 0
Cleared true l u x = Laid (λ _. 0) l u x
Cleared false l u x = x ≡ u

-- The table `u` is `w` but for links that leaving takes away.
pub record Kept (w u : Words) (b n first : ℕ) : Type 0 where
  pub room : (v : ℕ) → In v (siblings_of u n first) → Room u v
  pub back : (x : Words) → Cleared (opens_object b) (siblings_of u n first) u x → x ≡ w
