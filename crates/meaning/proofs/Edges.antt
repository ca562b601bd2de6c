-- Both sides of the edges of canonical texts, merges and pointers, beside 01's starred examples: what the theorems
-- alone would not tell apart. Each list is one statement.
use Prim.Native.Nat.{ℕ}
use Rattle.meaning.proofs.Demand2.{canonical_of, merge_keeps}
use Rattle.meaning.proofs.Order.{before}
use Rattle.meaning.proofs.Pointers.{Parsed, PointerCheck, check_pointer, pointer_checked}
use Rattle.meaning.proofs.Reading.{text_keeps}
use Rattle.meaning.proofs.Sorting.{canon, insert}
use Rattle.meaning.specs.Canonical.{Canonical, put}
use Rattle.meaning.specs.Lookup.{Seen, resolve}
use Rattle.meaning.specs.Meaning.{mean, meaning, tree}
use Rattle.meaning.specs.Merge.{merge}
use Rattle.meaning.specs.Pointer.{Token}
use Rattle.text.proofs.Demand3.{read, read_right}
use Rattle.text.proofs.Every.{Every, every}
use Rattle.text.proofs.Limits.{house_limits}
use Rattle.text.specs.Bytes.{Bytes, ascii}
use Rattle.text.specs.Ceilings.{house, same}
use Rattle.text.specs.Decimal.{Decimal}
use Rattle.text.specs.Grammar.{Text}
use Rattle.text.specs.Node.{Members, Node, Nodes}
use Rattle.text.specs.Verdict.{Outcome, Verdict}
use mathlib.Core.Bool.{false}
use mathlib.Core.List.{List, [], ◌∷◌}
use mathlib.Core.Path.{◌≡◌, refl, subst}
use native.Mathlib.Omega.{arith}

-- An accepted text and its canonical text, two of them and the canonical text of their merge.
abbrev pub Writes : Bytes → Bytes → Type 0
Writes t c = (v : Node) × Text house t v × Canonical (meaning v) c

abbrev pub Merges : Bytes → Bytes → Bytes → Type 0
Merges t p c = (v u : Node) × Text house t v × Text house p u × Canonical (mean (merge (tree v) (tree u))) c

-- The same as functions of the outcomes; a refusal gives none.
unfoldable pub written : Outcome → List Bytes
unfolding canon insert before put tree
written (Outcome.accepted v) = put (canon (tree v)) [] ∷ []
written (Outcome.refused n p) = []

unfoldable pub merged : Outcome → Outcome → List Bytes
unfolding canon insert before put tree merge
merged (Outcome.accepted v) (Outcome.accepted u) = put (canon (merge (tree v) (tree u))) [] ∷ []
merged (Outcome.accepted v) (Outcome.refused n p) = []
merged (Outcome.refused n p) b = []

nothing : {c : Bytes} {A : Type 0} → ◌≡◌ {A = List Bytes} [] (c ∷ []) → A
nothing e = let z : ◌≡◌ {A = ℕ} 0 1 = cc in absurd (omega arith)

writes : {t c : Bytes} {a : Outcome} → Verdict house t a → written a ≡ c ∷ [] → Writes t c
unfolding written
writes {c = c} (Verdict.text {v = v} x) e = (v, x, subst (Canonical (meaning v)) (let z : put (canon (tree v)) [] ≡ c = cc in z) (canonical_of (text_keeps x)))
writes (Verdict.short x y) e = nothing e
writes (Verdict.wrong x y z) e = nothing e
writes (Verdict.over x y z) e = nothing e

merges : {t p c : Bytes} {a b : Outcome} → Verdict house t a → Verdict house p b → merged a b ≡ c ∷ [] → Merges t p c
unfolding merged
merges {c = c} (Verdict.text {v = v} x) (Verdict.text {v = u} y) e =
    (v, u, x, y, subst (Canonical (mean (merge (tree v) (tree u)))) (let z : put (canon (merge (tree v) (tree u))) [] ≡ c = cc in z) (canonical_of (merge_keeps x y)))
merges (Verdict.text x) (Verdict.short f g) e = nothing e
merges (Verdict.text x) (Verdict.wrong f g h) e = nothing e
merges (Verdict.text x) (Verdict.over f g h) e = nothing e
merges (Verdict.short f g) w e = nothing e
merges (Verdict.wrong f g h) w e = nothing e
merges (Verdict.over f g h) w e = nothing e

unfoldable pub texts : List (Bytes × Bytes)
texts =
    (ascii " [ null , true , false ] ", ascii "[null,true,false]")
    ∷ (ascii "\"\u{7f}\"", ascii "\"\\u007f\"")
    ∷ (ascii "\"\\u0020\\u007E\\u001F\"", ascii "\" ~\\u001f\"")
    ∷ (ascii "\"\\u0022\\u005C\\u002F\\/\"", ascii "\"\\\"\\\\//\"")
    ∷ (ascii "\"\\uABCD\\uD800\"", ascii "\"\\uabcd\\ud800\"")
    ∷ (ascii "-0.0e12", ascii "0")
    ∷ (ascii "-1.50E+003", ascii "-15e2")
    ∷ (ascii "120e-010", ascii "12e-9")
    ∷ (ascii "10.0", ascii "1e1")
    ∷ (ascii "{\"a\":1,\"B\":2,\"aa\":3}", ascii "{\"B\":2,\"a\":1,\"aa\":3}")
    ∷ (ascii "{\"b\":{\"d\":1,\"c\":[{}]},\"\":2}", ascii "{\"\":2,\"b\":{\"c\":[{}],\"d\":1}}")
    ∷ []

pub texts_hold : Every (λ e. Writes e.0 e.1) texts
unfolding texts read written
texts_hold = every (λ e. Writes e.0 e.1) (λ e. written (read house e.0)) (λ e. e.1 ∷ []) (λ e r. writes (read_right house_limits e.0) r) texts refl

-- Target, patch and result. A null removes, those of the target and of arrays stay, and none comes with a new object.
unfoldable pub patches : List (Bytes × Bytes × Bytes)
patches =
    (ascii "{\"a\":1,\"b\":2}", ascii "{\"a\":null,\"c\":null}", ascii "{\"b\":2}")
    ∷ (ascii "{\"e\":null,\"a\":{\"b\":null}}", ascii "{\"a\":{\"c\":1}}", ascii "{\"a\":{\"b\":null,\"c\":1},\"e\":null}")
    ∷ (ascii "{\"a\":1}", ascii "{\"a\":{\"b\":null,\"c\":{\"d\":null}}}", ascii "{\"a\":{\"c\":{}}}")
    ∷ (ascii "{\"a\":1}", ascii "{\"a\":[{\"b\":null}]}", ascii "{\"a\":[{\"b\":null}]}")
    ∷ (ascii "{\"a\":1}", ascii "null", ascii "null")
    ∷ (ascii "{\"a\":1}", ascii "[null]", ascii "[null]")
    ∷ []

pub patches_hold : Every (λ e. Merges e.0 e.1 e.2) patches
unfolding patches read merged
patches_hold =
    every (λ e. Merges e.0 e.1 e.2) (λ e. merged (read house e.0) (read house e.1)) (λ e. e.2 ∷ [])
    (λ e r. merges (read_right house_limits e.0) (read_right house_limits e.1) r) patches refl

-- Pointers.
unfoldable pub pointers : List (Bytes × Parsed)
pointers =
    ([], Parsed.tokens [])
    ∷ (ascii "/", Parsed.tokens (Token.token 0 [] ∷ []))
    ∷ (ascii "/a//b", Parsed.tokens (Token.token 0 (ascii "a") ∷ Token.token 2 [] ∷ Token.token 3 (ascii "b") ∷ []))
    ∷ (ascii "/~01/~10", Parsed.tokens (Token.token 0 (ascii "~1") ∷ Token.token 4 (ascii "/0") ∷ []))
    ∷ (ascii "/\0\u{7f}", Parsed.tokens (Token.token 0 (ascii "\0\u{7f}") ∷ []))
    ∷ (ascii "a", Parsed.malformed 0)
    ∷ (ascii "/\u{80}", Parsed.malformed 1)
    ∷ (ascii "/~", Parsed.malformed 2)
    ∷ (ascii "/~/", Parsed.malformed 2)
    ∷ (ascii "/~2", Parsed.malformed 2)
    ∷ []

pub pointers_hold : Every (λ e. PointerCheck e.0 e.1) pointers
unfolding pointers check_pointer
pointers_hold = every (λ e. PointerCheck e.0 e.1) (λ e. check_pointer e.0) (λ e. e.1) (λ e r. subst (PointerCheck e.0) r (pointer_checked e.0)) pointers refl

-- Look-ups in `{"foo":["bar","baz"],"":0}`, as it is read.
unfoldable pub document : Node
document =
    Node.object 0 26
    (Members.member 1 (ascii "foo") (Node.array 7 20 (Nodes.cons (Node.string 8 13 (ascii "bar")) (Nodes.cons (Node.string 14 19 (ascii "baz")) Nodes.nil)))
    (Members.member 21 [] (Node.number 24 25 (Decimal.decimal false 0 false 0)) Members.empty))

unfoldable pub lookups : List (List Token × Seen)
unfolding document
lookups =
    ([], Seen.found 0 document)
    ∷ (Token.token 0 (ascii "foo") ∷ Token.token 4 (ascii "1") ∷ [], Seen.found 3 (Node.string 14 19 (ascii "baz")))
    ∷ (Token.token 0 [] ∷ [], Seen.found 4 (Node.number 24 25 (Decimal.decimal false 0 false 0)))
    ∷ (Token.token 0 (ascii "foo") ∷ Token.token 4 (ascii "01") ∷ [], Seen.lost 4)
    ∷ (Token.token 0 (ascii "foo") ∷ Token.token 4 (ascii "2") ∷ [], Seen.lost 4)
    ∷ (Token.token 0 (ascii "foo") ∷ Token.token 4 (ascii "-") ∷ [], Seen.lost 4)
    ∷ (Token.token 0 (ascii "foo") ∷ Token.token 4 [] ∷ [], Seen.lost 4)
    ∷ (Token.token 0 (ascii "foo") ∷ Token.token 4 (ascii "18446744073709551617") ∷ [], Seen.lost 4)
    ∷ (Token.token 0 (ascii "fo") ∷ Token.token 3 (ascii "0") ∷ [], Seen.lost 0)
    ∷ (Token.token 0 [] ∷ Token.token 1 (ascii "0") ∷ [], Seen.lost 1)
    ∷ []

pub lookups_hold : Every (λ e. resolve e.0 0 document ≡ e.1) lookups
unfolding lookups document resolve same
lookups_hold = every (λ e. resolve e.0 0 document ≡ e.1) (λ e. resolve e.0 0 document) (λ e. e.1) (λ e r. r) lookups refl
