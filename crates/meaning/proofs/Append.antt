-- What is written stands in front of what was handed in: `put t o` is the text of `t`, and then `o`.
use Prim.Native.Char.{code}
use Prim.Native.Nat.{◌%◌, ◌+◌, ◌/◌, suc, zero, ℕ}
use Rattle.meaning.specs.Canonical.{hex_digit, is_bare, put, put_array, put_digits, put_elements, put_number, put_object, put_power, put_rest, put_sign, put_unit, put_units, spelling}
use Rattle.meaning.specs.Meaning.{Pairs, Tree, Trees}
use Rattle.text.specs.Bytes.{Bytes, Units}
use Rattle.text.specs.Ceilings.{max_digits, max_power_digits}
use Rattle.text.specs.Decimal.{Decimal}
use lib.Dec.{eqb, ltb}
use mathlib.Core.Bool.{Bool, ◌||◌, false, true}
use mathlib.Core.List.{[], ◌++◌, ◌∷◌, append_assoc}
use mathlib.Core.Path.{◌∙◌, ◌≡◌, ap, refl, sym}

pub unit_append : (u : ℕ) (a b : Bytes) → put_unit u (a ++ b) ≡ put_unit u a ++ b
unfolding put_unit
unit_append u a b = by (is_bare u) (eqb u (code "\"") || eqb u (code "\\"))
  where
    in_front : Bool → Bool → Bytes → Bytes
    in_front x y o =
        elim x as (λ _. Bytes) [
          | true ↦ u ∷ o
          | false ↦ elim y as (λ _. Bytes) [
            | true ↦ code "\\" ∷ u ∷ o
            | false ↦ code "\\" ∷ code "u" ∷ hex_digit (u / 4096 % 16) ∷ hex_digit (u / 256 % 16) ∷ hex_digit (u / 16 % 16) ∷ hex_digit (u % 16) ∷ o
          ]
        ]

    by : (x y : Bool) → in_front x y (a ++ b) ≡ in_front x y a ++ b
    by true y = refl
    by false true = refl
    by false false = refl

pub units_append : (us : Units) (a b : Bytes) → put_units us (a ++ b) ≡ put_units us a ++ b
unfolding put_units
units_append [] a b = refl
units_append (u ∷ us) a b = ap (put_unit u) (units_append us a b) ∙ unit_append u (put_units us a) b

pub digits_append : (n c : ℕ) (a b : Bytes) → put_digits n c (a ++ b) ≡ put_digits n c a ++ b
unfolding put_digits
digits_append zero c a b = refl
digits_append (suc n) c a b = by (ltb c 10) (digits_append n (c / 10) ((code "0" + c % 10) ∷ a) b)
  where
    by : (x : Bool) → put_digits n (c / 10) ((code "0" + c % 10) ∷ (a ++ b)) ≡ put_digits n (c / 10) ((code "0" + c % 10) ∷ a) ++ b
        → ◌≡◌ {A = Bytes} (elim x as (λ _. Bytes) [ true ↦ (code "0" + c) ∷ (a ++ b) | false ↦ put_digits n (c / 10) ((code "0" + c % 10) ∷ (a ++ b)) ])
        ((elim x as (λ _. Bytes) [ true ↦ (code "0" + c) ∷ a | false ↦ put_digits n (c / 10) ((code "0" + c % 10) ∷ a) ]) ++ b)
    by true h = refl
    by false h = h

pub sign_append : (s : Bool) (a b : Bytes) → put_sign s (a ++ b) ≡ put_sign s a ++ b
unfolding put_sign
sign_append true a b = refl
sign_append false a b = refl

power_append : (s : Bool) (e : ℕ) (a b : Bytes) → put_power s e (a ++ b) ≡ put_power s e a ++ b
unfolding put_power
power_append s e a b = by (eqb e 0)
  where
    by : (x : Bool) → ◌≡◌ {A = Bytes} (elim x as (λ _. Bytes) [ true ↦ a ++ b | false ↦ code "e" ∷ put_sign s (put_digits max_power_digits e (a ++ b)) ])
        ((elim x as (λ _. Bytes) [ true ↦ a | false ↦ code "e" ∷ put_sign s (put_digits max_power_digits e a) ]) ++ b)
    by true = refl
    by false = ap (λ x. code "e" ∷ x) (ap (put_sign s) (digits_append max_power_digits e a b) ∙ sign_append s (put_digits max_power_digits e a) b)

pub number_append : (x : Decimal) (a b : Bytes) → put_number x (a ++ b) ≡ put_number x a ++ b
unfolding put_number
number_append (Decimal.decimal neg c s e) a b =
    ap (put_sign neg) (ap (put_digits max_digits c) (power_append s e a b) ∙ digits_append max_digits c (put_power s e a) b)
    ∙ sign_append neg (put_digits max_digits c (put_power s e a)) b

-- A name behind its opening quote, and then a value.
named_append : (k : Units) {x : Bytes} (a b : Bytes) → x ≡ a ++ b → put_units k (code "\"" ∷ code ":" ∷ x) ≡ put_units k (code "\"" ∷ code ":" ∷ a) ++ b
named_append k a b e = ap (λ x. put_units k (code "\"" ∷ code ":" ∷ x)) e ∙ units_append k (code "\"" ∷ code ":" ∷ a) b

mutual
  unfolding put

  put_append : (t : Tree) (a b : Bytes) → put t (a ++ b) ≡ put t a ++ b
  put_append (Tree.literal w) a b = sym (append_assoc (spelling w) a b)
  put_append (Tree.string us) a b = ap (λ x. code "\"" ∷ x) (units_append us (code "\"" ∷ a) b)
  put_append (Tree.number x) a b = number_append x a b
  put_append (Tree.array ts) a b = ap (λ x. code "[" ∷ x) (array_append ts a b)
  put_append (Tree.object ps) a b = ap (λ x. code "{" ∷ x) (object_append ps a b)

  array_append : (ts : Trees) (a b : Bytes) → put_array ts (a ++ b) ≡ put_array ts a ++ b
  array_append Trees.nil a b = refl
  array_append (Trees.cons t ts) a b = ap (put t) (elements_append ts a b) ∙ put_append t (put_elements ts a) b

  elements_append : (ts : Trees) (a b : Bytes) → put_elements ts (a ++ b) ≡ put_elements ts a ++ b
  elements_append Trees.nil a b = refl
  elements_append (Trees.cons t ts) a b = ap (λ x. code "," ∷ x) (ap (put t) (elements_append ts a b) ∙ put_append t (put_elements ts a) b)

  object_append : (ps : Pairs) (a b : Bytes) → put_object ps (a ++ b) ≡ put_object ps a ++ b
  object_append Pairs.empty a b = refl
  object_append (Pairs.pair k t ps) a b = ap (λ x. code "\"" ∷ x) (named_append k (put t (put_rest ps a)) b (ap (put t) (rest_append ps a b) ∙ put_append t (put_rest ps a) b))

  rest_append : (ps : Pairs) (a b : Bytes) → put_rest ps (a ++ b) ≡ put_rest ps a ++ b
  rest_append Pairs.empty a b = refl
  rest_append (Pairs.pair k t ps) a b = ap (λ x. code "," ∷ code "\"" ∷ x) (named_append k (put t (put_rest ps a)) b (ap (put t) (rest_append ps a b) ∙ put_append t (put_rest ps a) b))

-- The text of a value apart from what follows it.
pub put_alone : (t : Tree) (o : Bytes) → put t o ≡ put t [] ++ o
put_alone t o = put_append t [] o
