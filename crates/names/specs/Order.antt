-- The order of names as a number: 0 if the first stands before the second, 1 if they are equal, 2 if it stands behind
-- it. By units, the first difference decides, and a proper prefix comes first. 01 "What a text means".
use Rattle.std.specs.Prelude.{ℕ, ltb, cond, [], ◌∷◌}
use Rattle.text.specs.Bytes.{Units}

unfoldable pub order : Units → Units → ℕ
order [] [] = 1
order [] (y ∷ ys) = 0
order (x ∷ xs) [] = 2
order (x ∷ xs) (y ∷ ys) = cond (ltb x y) 0 (cond (ltb y x) 2 (order xs ys))
