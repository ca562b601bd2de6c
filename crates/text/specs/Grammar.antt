-- The grammar of texts, with the value that each derivation gives, apart from any reader. 01 "The grammar";
-- RFC 8259 sections 2 to 5. Whitespace may stand before whatever a rule is for.
use Prim.Native.Char.{code}
use Rattle.std.specs.Prelude.{ℕ, suc, T, List, [], ◌∷◌}
use Rattle.text.specs.Bytes.{Bytes, Units, Source, from, ascii, is_space}
use Rattle.text.specs.Ceilings.{Ceilings, Gate}
use Rattle.text.specs.Decimal.{Decimal}
use Rattle.text.specs.Node.{Node, Nodes, Members, Literal}
use Rattle.text.specs.Numbers.{Number}
use Rattle.text.specs.Strings.{Word, Chars}

mutual
  -- `Value C d i o v`: inside `d` open containers the bytes `i` begin with the value `v` and leave `o`.
  pub data Value (C : Ceilings) : ℕ → Source → Source → Node → Type 0 where
    value_space : {d p b : ℕ} {i : Bytes} {o : Source} {v : Node} → T (is_space b) → Value C d (from (suc p) i) o v → Value C d (from p (b ∷ i)) o v
    null : {d p q : ℕ} {i o : Bytes} → Word (ascii "null") (from p i) (from q o) → Value C d (from p i) (from q o) (Node.literal p q Literal.null)
    true : {d p q : ℕ} {i o : Bytes} → Word (ascii "true") (from p i) (from q o) → Value C d (from p i) (from q o) (Node.literal p q Literal.true)
    false : {d p q : ℕ} {i o : Bytes} → Word (ascii "false") (from p i) (from q o) → Value C d (from p i) (from q o) (Node.literal p q Literal.false)
    string : {d p q : ℕ} {i o : Bytes} {us : Units} → Chars C (from (suc p) i) (from q o) us → Value C d (from p (code "\"" ∷ i)) (from q o) (Node.string p q us)
    number : {d p q : ℕ} {i o : Bytes} {x : Decimal} → Number C (from p i) (from q o) x → Value C d (from p i) (from q o) (Node.number p q x)
    array : {d p q : ℕ} {i o : Bytes} {vs : Nodes} → T (C (Gate.depth d)) → Array C (suc d) (from (suc p) i) (from q o) vs → Value C d (from p (code "[" ∷ i)) (from q o) (Node.array p q vs)
    object : {d p q : ℕ} {i o : Bytes} {ms : Members} → T (C (Gate.depth d)) → Object C (suc d) (from (suc p) i) (from q o) ms → Value C d (from p (code "{" ∷ i)) (from q o) (Node.object p q ms)

  -- Behind `[`.
  pub data Array (C : Ceilings) : ℕ → Source → Source → Nodes → Type 0 where
    array_space : {d p b : ℕ} {i : Bytes} {o : Source} {vs : Nodes} → T (is_space b) → Array C d (from (suc p) i) o vs → Array C d (from p (b ∷ i)) o vs
    array_close : {d p : ℕ} {o : Bytes} → Array C d (from p (code "]" ∷ o)) (from (suc p) o) Nodes.nil
    array_first : {d : ℕ} {i m o : Source} {v : Node} {vs : Nodes} → Value C d i m v → Elements C d m o vs → Array C d i o (Nodes.cons v vs)

  -- Behind an element.
  pub data Elements (C : Ceilings) : ℕ → Source → Source → Nodes → Type 0 where
    elements_space : {d p b : ℕ} {i : Bytes} {o : Source} {vs : Nodes} → T (is_space b) → Elements C d (from (suc p) i) o vs → Elements C d (from p (b ∷ i)) o vs
    elements_close : {d p : ℕ} {o : Bytes} → Elements C d (from p (code "]" ∷ o)) (from (suc p) o) Nodes.nil
    elements_comma : {d p : ℕ} {i : Bytes} {m o : Source} {v : Node} {vs : Nodes} → Value C d (from (suc p) i) m v → Elements C d m o vs → Elements C d (from p (code "," ∷ i)) o (Nodes.cons v vs)

  -- Behind `{`.
  pub data Object (C : Ceilings) : ℕ → Source → Source → Members → Type 0 where
    object_space : {d p b : ℕ} {i : Bytes} {o : Source} {ms : Members} → T (is_space b) → Object C d (from (suc p) i) o ms → Object C d (from p (b ∷ i)) o ms
    object_close : {d p : ℕ} {o : Bytes} → Object C d (from p (code "}" ∷ o)) (from (suc p) o) Members.empty
    object_first : {d : ℕ} {i o : Source} {ms : Members} → Member C d [] i o ms → Object C d i o ms

  -- A member and those behind it, where the names `ns` stand before it.
  pub data Member (C : Ceilings) : ℕ → List Units → Source → Source → Members → Type 0 where
    member_space : {d p b : ℕ} {ns : List Units} {i : Bytes} {o : Source} {ms : Members} → T (is_space b) → Member C d ns (from (suc p) i) o ms → Member C d ns (from p (b ∷ i)) o ms
    member_name : {d p : ℕ} {ns : List Units} {us : Units} {i : Bytes} {m o : Source} {ms : Members}
        → Chars C (from (suc p) i) m us → T (C (Gate.name us ns)) → Named C d ns p us m o ms → Member C d ns (from p (code "\"" ∷ i)) o ms

  -- Behind the name `us`, whose opening quote stands at `q`.
  pub data Named (C : Ceilings) : ℕ → List Units → ℕ → Units → Source → Source → Members → Type 0 where
    named_space : {d p b q : ℕ} {ns : List Units} {us : Units} {i : Bytes} {o : Source} {ms : Members} → T (is_space b) → Named C d ns q us (from (suc p) i) o ms → Named C d ns q us (from p (b ∷ i)) o ms
    named_colon : {d p q : ℕ} {ns : List Units} {us : Units} {v : Node} {i : Bytes} {m o : Source} {ms : Members}
        → Value C d (from (suc p) i) m v → Rest C d (us ∷ ns) m o ms → Named C d ns q us (from p (code ":" ∷ i)) o (Members.member q us v ms)

  -- Behind a member.
  pub data Rest (C : Ceilings) : ℕ → List Units → Source → Source → Members → Type 0 where
    rest_space : {d p b : ℕ} {ns : List Units} {i : Bytes} {o : Source} {ms : Members} → T (is_space b) → Rest C d ns (from (suc p) i) o ms → Rest C d ns (from p (b ∷ i)) o ms
    rest_close : {d p : ℕ} {ns : List Units} {o : Bytes} → Rest C d ns (from p (code "}" ∷ o)) (from (suc p) o) Members.empty
    rest_comma : {d p : ℕ} {ns : List Units} {i : Bytes} {o : Source} {ms : Members} → Member C d ns (from (suc p) i) o ms → Rest C d ns (from p (code "," ∷ i)) o ms

-- Nothing but whitespace, to the end.
pub data End : Source → Type 0 where
  space : {p b : ℕ} {i : Bytes} → T (is_space b) → End (from (suc p) i) → End (from p (b ∷ i))
  end : {p : ℕ} → End (from p [])

-- The bytes `t` are a text of the value `v`.
pub data Text (C : Ceilings) (t : Bytes) (v : Node) : Type 0 where
  text : {o : Source} → Value C 0 (from 0 t) o v → End o → Text C t v
