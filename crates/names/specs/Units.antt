-- What a string means, from behind its opening quote on, and where it closes. 01 "The grammar". Said of any bytes; of a
-- string of the grammar it is what the grammar says (proofs/Spelling).
use Prim.Native.Char.{code}
use Rattle.std.specs.Prelude.{ℕ, suc, eqb, cond, [], ◌∷◌}
use Rattle.text.specs.Bytes.{Bytes, Units, escape_unit}
use Rattle.text.specs.Strings.{hex_unit}

-- The units up to the closing quote.
unfoldable mutual
  pub units : Bytes → Units
  units [] = []
  units (b ∷ s) = cond (eqb b (code "\"")) [] (cond (eqb b (code "\\")) (escaped s) (b ∷ units s))

  pub escaped : Bytes → Units
  escaped [] = []
  escaped (b ∷ s) = cond (eqb b (code "u")) (hexed s) (escape_unit b ∷ units s)

  pub hexed : Bytes → Units
  hexed [] = []
  hexed (a ∷ []) = []
  hexed (a ∷ b ∷ []) = []
  hexed (a ∷ b ∷ c ∷ []) = []
  hexed (a ∷ b ∷ c ∷ d ∷ s) = hex_unit a b c d ∷ units s

-- The offset of the closing quote, where the bytes begin at `p`.
unfoldable mutual
  pub closing : ℕ → Bytes → ℕ
  closing p [] = p
  closing p (b ∷ s) = cond (eqb b (code "\"")) p (cond (eqb b (code "\\")) (skipping (suc p) s) (closing (suc p) s))

  pub skipping : ℕ → Bytes → ℕ
  skipping p [] = p
  skipping p (b ∷ s) = closing (suc p) s
