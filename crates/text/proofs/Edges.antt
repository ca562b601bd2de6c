-- Both sides of each edge: of the byte classes, which the grammar and the machine share, and of the ceilings. One list,
-- one statement, beside 01's starred examples.
use Prim.Native.Char.{code}
use Prim.Native.Nat.{ℕ}
use Rattle.text.proofs.Demand3.{read, read_right}
use Rattle.text.proofs.Every.{Every, every}
use Rattle.text.proofs.Limits.{house_limits}
use Rattle.text.specs.Bytes.{Bytes, Units, ascii}
use Rattle.text.specs.Ceilings.{house}
use Rattle.text.specs.Decimal.{Decimal}
use Rattle.text.specs.Grammar.{Text}
use Rattle.text.specs.Node.{Literal, Members, Node, Nodes}
use Rattle.text.specs.Table.{table}
use Rattle.text.specs.Verdict.{Outcome, Verdict}
use lib.ListN.{length, replicate}
use mathlib.Core.Bool.{Bool, false, true}
use mathlib.Core.List.{List, [], ◌++◌, ◌∷◌}
use mathlib.Core.Path.{◌≡◌, refl, subst}

-- Bytes with the verdict on them.
abbrev pub Edge : Type 0
Edge = Bytes × Outcome

abbrev accepts : Bytes → Node → Edge
accepts t v = (t, Outcome.accepted v)

abbrev refuses : Bytes → ℕ → ℕ → Edge
refuses t n p = (t, Outcome.refused n p)

-- A number, and a string that is the whole text.
abbrev number : ℕ → ℕ → Bool → ℕ → Bool → ℕ → Node
number p q neg c down e = Node.number p q (Decimal.decimal neg c down e)

abbrev means : Bytes → Units → Edge
means t us = accepts t (Node.string 0 (length t) us)

-- Whitespace, words, and what may stand behind a value.
unfoldable pub plain : List Edge
plain =
    accepts (ascii "\t\n\r null \r\n\t") (Node.literal 4 8 Literal.null)
    ∷ accepts (ascii "true") (Node.literal 0 4 Literal.true)
    ∷ accepts (ascii "false") (Node.literal 0 5 Literal.false)
    ∷ refuses (ascii "\u{8}1") 4 0
    ∷ refuses (ascii "\u{b}1") 4 0
    ∷ refuses (ascii "\u{c}1") 4 0
    ∷ refuses (ascii "1\u{1f}") 4 1
    ∷ refuses (ascii "1!") 4 1
    ∷ refuses (ascii "ï»¿1") 4 0
    ∷ refuses (ascii "\u{80}") 4 0
    ∷ refuses (ascii "trux") 4 3
    ∷ refuses (ascii "nul") 3 3
    ∷ refuses (ascii "True") 4 0
    ∷ refuses (ascii "1 2") 4 2
    ∷ refuses (ascii "[1;2]") 4 2
    ∷ refuses (ascii "{1:2}") 4 1
    ∷ refuses (ascii "{\"a\" 1}") 4 5
    ∷ refuses (ascii "{\"a\":1,}") 4 7
    ∷ []

-- Digits, points, exponents, and the ceilings 6 and 7.
unfoldable pub numbers : List Edge
numbers =
    accepts (ascii "0") (number 0 1 false 0 false 0)
    ∷ accepts (ascii "-0") (number 0 2 false 0 false 0)
    ∷ accepts (ascii "9") (number 0 1 false 9 false 0)
    ∷ accepts (ascii "-1") (number 0 2 true 1 false 0)
    ∷ accepts (ascii "100") (number 0 3 false 1 false 2)
    ∷ accepts (ascii "1.50e+1") (number 0 7 false 15 false 0)
    ∷ accepts (ascii "1E-1") (number 0 4 false 1 true 1)
    ∷ refuses (ascii "/") 4 0
    ∷ refuses (ascii ":") 4 0
    ∷ refuses (ascii "1/") 4 1
    ∷ refuses (ascii "1:") 4 1
    ∷ refuses (ascii "1d1") 4 1
    ∷ refuses (ascii "1f1") 4 1
    ∷ refuses (ascii "-01") 4 2
    ∷ refuses (ascii "+1") 4 0
    ∷ refuses (ascii ".5") 4 0
    ∷ refuses (ascii "1.") 3 2
    ∷ refuses (ascii "1.e1") 4 2
    ∷ refuses (ascii "1e") 3 2
    ∷ refuses (ascii "1e+") 3 3
    ∷ accepts (ascii "123456789012345678") (number 0 18 false 123456789012345678 false 0)
    ∷ accepts (ascii "12345678901234567.8") (number 0 19 false 123456789012345678 true 1)
    ∷ refuses (ascii "1234567890123456789") 6 18
    ∷ refuses (ascii "123456789012345678.") 6 18
    ∷ refuses (ascii "0.123456789012345678") 6 19
    ∷ accepts (ascii "1e999") (number 0 5 false 1 false 999)
    ∷ accepts (ascii "1e-999") (number 0 6 false 1 true 999)
    ∷ accepts (ascii "1.000e999") (number 0 9 false 1 false 999)
    ∷ accepts (ascii "1000e-999") (number 0 9 false 1 true 996)
    ∷ accepts (ascii "-0.0e-999") (number 0 9 false 0 false 0)
    ∷ refuses (ascii "10e999") 7 5
    ∷ refuses (ascii "1000e997") 7 7
    ∷ refuses (ascii "0.1e-999") 7 7
    ∷ refuses (ascii "1e0000") 7 5
    ∷ refuses (ascii "0e0000") 7 5
    ∷ []

-- Characters, escapes, and the ceiling 9.
unfoldable pub strings : List Edge
strings =
    means (ascii "\" !#[]~\u{7f}\"") (ascii " !#[]~\u{7f}")
    ∷ means (ascii "\"\\\"\\\\\\/\\b\\f\\n\\r\\t\"") (0x22 ∷ 0x5c ∷ 0x2f ∷ 0x08 ∷ 0x0c ∷ 0x0a ∷ 0x0d ∷ 0x09 ∷ [])
    ∷ means (ascii "\"\\u09Af\\uaF90\"") (0x09af ∷ 0xaf90 ∷ [])
    ∷ refuses (ascii "\"") 3 1
    ∷ refuses (ascii "\"\u{1f}") 4 1
    ∷ refuses (ascii "\"\u{80}") 9 1
    ∷ refuses (ascii "\"ÿ") 9 1
    ∷ refuses (ascii "\"\\a") 4 2
    ∷ refuses (ascii "\"\\'") 4 2
    ∷ refuses (ascii "\"\\U") 4 2
    ∷ refuses (ascii "\"\\\u{80}") 4 2
    ∷ refuses (ascii "\"\\u/") 4 3
    ∷ refuses (ascii "\"\\u:") 4 3
    ∷ refuses (ascii "\"\\u@") 4 3
    ∷ refuses (ascii "\"\\uG") 4 3
    ∷ refuses (ascii "\"\\u`") 4 3
    ∷ refuses (ascii "\"\\ug") 4 3
    ∷ refuses (ascii "\"\\u123\u{80}") 4 6
    ∷ []

-- Open containers and names, the ceilings 5 and 8.
unfoldable pub containers : List Edge
containers =
    refuses (replicate 64 (code "[")) 3 64
    ∷ refuses (replicate 65 (code "[")) 5 64
    ∷ refuses (replicate 63 (code "[") ++ ascii "{{") 4 64
    ∷ refuses (replicate 63 (code "[") ++ ascii "{\"\":{") 5 67
    ∷ refuses (ascii "{\"a\":1,\"a\"") 8 9
    ∷ refuses (ascii "{\"a\":1,\"a") 3 9
    ∷ refuses (ascii "{\"\":1,\"\":2}") 8 7
    ∷ accepts (ascii "{\"a\":{\"a\":1},\"b\":2}")
    (Node.object 0 19 (Members.member 1 (ascii "a") (Node.object 5 12 (Members.member 6 (ascii "a") (number 10 11 false 1 false 0) Members.empty)) (Members.member 13 (ascii "b") (number 17 18 false 2 false 0) Members.empty)))
    ∷ []

unfoldable pub edges : List Edge
unfolding plain numbers strings containers
edges = plain ++ (numbers ++ (strings ++ containers))

pub edges_hold : Every (λ e. Verdict house e.0 e.1) edges
unfolding edges read
edges_hold = every (λ e. Verdict house e.0 e.1) (λ e. read house e.0) (λ e. e.1) (λ e r. subst (Verdict house e.0) r (read_right house_limits e.0)) edges refl

-- 01's whole case of the record table.
pub whole_case : (v : Node) × Text house (ascii "{\"a\":[1,true]}") v × (table v ≡ 0 ∷ 14 ∷ 4294967295 ∷ 4 ∷ 5 ∷ 13 ∷ 1 ∷ 4 ∷ 6 ∷ 7 ∷ 4294967295 ∷ 3 ∷ 8 ∷ 12 ∷ 4294967295 ∷ 4 ∷ [])
unfolding table read
whole_case = (
  Node.object 0 14 (Members.member 1 (ascii "a") (Node.array 5 13 (Nodes.cons (number 6 7 false 1 false 0) (Nodes.cons (Node.literal 8 12 Literal.true) Nodes.nil))) Members.empty),
  accepted_text (read_right house_limits (ascii "{\"a\":[1,true]}")),
  refl,
)
  where
    accepted_text : {t : Bytes} {v : Node} → Verdict house t (Outcome.accepted v) → Text house t v
    accepted_text (Verdict.text x) = x
