-- What a value within the house ceilings keeps to, apart from any text.
use Prim.Native.Nat.{◌%◌, ◌<◌, ◌^◌, ◌≤◌, suc, ℕ}
use Rattle.meaning.specs.Meaning.{Maybe, Pairs, Tree, Trees, at}
use Rattle.text.specs.Bytes.{Units}
use Rattle.text.specs.Ceilings.{max_depth, max_digits, max_power}
use Rattle.text.specs.Decimal.{Decimal}
use Rattle.text.specs.Node.{Literal}
use mathlib.Core.Bool.{Bool, false, true}
use mathlib.Core.List.{[], ◌∷◌}
use mathlib.Core.Path.{◌≡◌}

pub data Units16 : Units → Type 0 where
  none : Units16 []
  next : {u : ℕ} {us : Units} → u < 65536 → Units16 us → Units16 (u ∷ us)

-- A decimal in normal form, with at most 18 digits and an exponent from -999 to 999.
pub data Normal : Decimal → Type 0 where
  zero : Normal (Decimal.decimal false 0 false 0)
  up : {neg : Bool} {c e : ℕ} → 0 < c → c < 10 ^ max_digits → ¬ (c % 10 ≡ 0) → e ≤ max_power → Normal (Decimal.decimal neg c false e)
  down : {neg : Bool} {c e : ℕ} → 0 < c → c < 10 ^ max_digits → ¬ (c % 10 ≡ 0) → 0 < e → e ≤ max_power → Normal (Decimal.decimal neg c true e)

-- `Keeps d t`: inside `d` open containers `t` keeps to the ceilings, and no object in it has a name twice.
mutual
  pub data Keeps : ℕ → Tree → Type 0 where
    literal : {d : ℕ} {w : Literal} → Keeps d (Tree.literal w)
    string : {d : ℕ} {us : Units} → Units16 us → Keeps d (Tree.string us)
    number : {d : ℕ} {x : Decimal} → Normal x → Keeps d (Tree.number x)
    array : {d : ℕ} {ts : Trees} → d < max_depth → KeepsAll (suc d) ts → Keeps d (Tree.array ts)
    object : {d : ℕ} {ps : Pairs} → d < max_depth → KeepsPairs (suc d) ps → Keeps d (Tree.object ps)

  pub data KeepsAll : ℕ → Trees → Type 0 where
    nil : {d : ℕ} → KeepsAll d Trees.nil
    cons : {d : ℕ} {t : Tree} {ts : Trees} → Keeps d t → KeepsAll d ts → KeepsAll d (Trees.cons t ts)

  pub data KeepsPairs : ℕ → Pairs → Type 0 where
    empty : {d : ℕ} → KeepsPairs d Pairs.empty
    pair : {d : ℕ} {k : Units} {t : Tree} {ps : Pairs} → Units16 k → at ps k ≡ Maybe.none → Keeps d t → KeepsPairs d ps → KeepsPairs d (Pairs.pair k t ps)
