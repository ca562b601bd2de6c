-- The tokens of a pointer are followed one by one.
use Prim.Native.Nat.{◌+◌, ◌-◌, ◌<◌, ◌≤◌, ℕ}
use Rattle.entries.specs.Answer.{Read, Reading, refusal, success}
use Rattle.entries.specs.Entries.{Finder}
use Rattle.lookup.specs.Found.{Found}
use Rattle.lookup.specs.Steps.{Stepped}
use Rattle.lookup.specs.Tokens.{Checked, Left, TokenTo, token_units}
use Rattle.meaning.specs.Lookup.{Seen, child, resolve}
use Rattle.meaning.specs.Pointer.{Pointer, Token, TokenRest, Tokens, max_pointer}
use Rattle.scan.specs.Refusals.{number_of, place_of}
use Rattle.scan.specs.declared.refusal.Refusal.{Refusal}
use Rattle.std.specs.Prelude.{Err, None, Ok, Option, Some}
use Rattle.text.specs.Bytes.{Bytes, Units, from}
use Rattle.text.specs.Node.{Node}
use Rattle.text.specs.Table.{Words, unnamed}
use Rattle.values.proofs.Records.{held_few, held_onward}
use Rattle.values.specs.Held.{Held}
use lib.ListN.{drop, length, take}
use mathlib.Core.List.{List, [], ◌∷◌}
use mathlib.Core.Path.{◌∙◌, ◌≡◌, ap, refl, subst⁻¹}
use native.Mathlib.Numerals.{add-one}
use native.Mathlib.Omega.{arith}

-- The tokens `ts` lead from the value `v` to the value of record `r`, from where those from the offset `i` on are left.
pub record Walking (t : Bytes) (w : Words) (p : Bytes) (ts : List Token) (v : Node) (r i : ℕ) : Type 0 where
  pub here : Node
  pub held : Held t w r here
  pub rest : List Token
  pub left : Left p i rest
  pub same : resolve ts 0 v ≡ resolve rest r here

-- So they do from each value of record 0, whatever the pointer's tokens are.
abbrev pub Walked : Bytes → Words → Bytes → ℕ → ℕ → Type 0
Walked t w p r i = (v : Node) (ts : List Token) → Held t w 0 v → Pointer p ts → Walking t w p ts v r i

pointer_left : {p : Bytes} {ts : List Token} → Pointer p ts → Left p 0 ts
pointer_left (Pointer.pointer l Tokens.whole) = Left.none refl
pointer_left (Pointer.pointer l (Tokens.first x)) = Left.next (omega arith) refl x

pointer_short : {p : Bytes} {ts : List Token} → Pointer p ts → length p ≤ max_pointer
pointer_short (Pointer.pointer l x) = l

pub walk_start : (t : Bytes) (w : Words) (p : Bytes) → Walked t w p 0 0
walk_start t w p v ts h x = record { here = v; held = h; rest = _; left = pointer_left x; same = refl }

-- The next token.
pub record Next (p : Bytes) (i : ℕ) (rest : List Token) : Type 0 where
  pub units : Units
  pub later : List Token
  pub first : rest ≡ Token.token i units ∷ later
  pub bytes : TokenRest (from (i + 1) (drop (i + 1) p)) units later

left_next : {p : Bytes} {i : ℕ} {ts : List Token} → Left p i ts → i < length p → Next p i ts
left_next (Left.none e) l = absurd (omega arith)
left_next {p} {i} (Left.next {us = us} {ts = ts} m e x) l =
    record { units = us; later = ts; first = refl; bytes = subst⁻¹ (λ n. TokenRest (from n (drop n p)) us ts) (add-one i) x }

left_none : {p : Bytes} {i : ℕ} {ts : List Token} → Left p i ts → length p ≤ i → ts ≡ []
left_none (Left.none e) l = refl
left_none (Left.next m e x) l = absurd (omega arith)

-- What one token does.
resolve_token : (i : ℕ) (us : Units) (ts : List Token) (n : ℕ) (v : Node) (s : Seen) → child i us n v ≡ s
    → resolve (Token.token i us ∷ ts) n v ≡ elim s as (λ _. Seen) [ Seen.found m w ↦ resolve ts m w | Seen.lost q ↦ Seen.lost q ]
unfolding resolve
resolve_token i us ts n v s e = ap (λ s. elim s as (λ _. Seen) [ Seen.found m w ↦ resolve ts m w | Seen.lost q ↦ Seen.lost q ]) e

module _ {t : Bytes} {w : Words} {p : Bytes} {ts : List Token} {v : Node} {r i : ℕ} (g : Walking t w p ts v r i) where
  -- The tokens are used up.
  used_up : length p ≤ i → resolve ts 0 v ≡ Seen.found r g.here
  unfolding resolve
  used_up l = g.same ∙ ap (λ ts. resolve ts r g.here) (left_none g.left l)

  module _ (l : i < length p) where
    pub token : Next p i g.rest
    token = left_next g.left l

    module _ {j : ℕ} (k : TokenTo p (i + 1) j token.units token.later) where
      onto : (s : Seen) → child i token.units r g.here ≡ s
          → resolve ts 0 v ≡ elim s as (λ _. Seen) [ Seen.found m w ↦ resolve token.later m w | Seen.lost q ↦ Seen.lost q ]
      onto s f = g.same ∙ ap (λ ts. resolve ts r g.here) token.first ∙ resolve_token i token.units token.later r g.here s f

      -- As the step from it says.
      abbrev Step : Option ℕ → Type 0
      Step o = Stepped t w i o (child i (token_units (take (j - (i + 1)) (drop (i + 1) p))) r g.here)

      lost_here : Step None → resolve ts 0 v ≡ Seen.lost i
      lost_here s = by (child i token.units r g.here) refl (rw k.means at s)
        where
          by : (x : Seen) → child i token.units r g.here ≡ x → Stepped t w i None x → resolve ts 0 v ≡ Seen.lost i
          by (Seen.lost q) f Stepped.lost = onto (Seen.lost q) f
          by (Seen.found m u) f s = elim s [ ]

      found_next : {z : ℕ} → Step (Some z) → Walking t w p ts v z j
      found_next {z} s = by (child i token.units r g.here) refl (rw k.means at s)
        where
          by : (x : Seen) → child i token.units r g.here ≡ x → Stepped t w i (Some z) x → Walking t w p ts v z j
          by (Seen.found m u) f (Stepped.found h) = record { here = u; held = h; rest = token.later; left = k.left; same = onto (Seen.found m u) f }
          by (Seen.lost q) f s = elim s [ ]

pub found_bad : {p : Bytes} {e : Refusal} (v : Node) → Checked p (Err e) → Found p v (Err e)
found_bad v (Checked.bad l m) = Found.malformed l m

module _ {t : Bytes} {w : Words} {p : Bytes} {r i : ℕ} (g : Walked t w p r i) where
  -- The value and tokens that the walk has come to, of a text that was read and a pointer that is well formed.
  pub walk_here : (v : Node) × Held t w 0 v → Checked p (Ok tt) → (v : Node) × (ts : List Token) × Walking t w p ts v r i
  walk_here (v, h) (Checked.well {ts = ts} x) = (v, ts, g v ts h x)

  pub walk_small : (v : Node) × Held t w 0 v → Checked p (Ok tt) → r ≤ unnamed
  walk_small h x = let (v, ts, y) = walk_here h x in omega (arith, held_onward y.held, held_few y.held)

  pub walk_end : Checked p (Ok tt) → length p ≤ i → (v : Node) → Held t w 0 v → Found p v (Ok r)
  walk_end (Checked.well {ts = ts} x) l v h = Found.found x (used_up (g v ts h x) l)

  -- Where the token from `i` on ends, and what it names.
  module _ (l : i < length p) {j : ℕ} (k : (us : Units) (ts : List Token) → TokenRest (from (i + 1) (drop (i + 1) p)) us ts → TokenTo p (i + 1) j us ts) {o : Option ℕ}
      (s : (q : ℕ) (v : Node) → Held t w r v → Stepped t w q o (child q (token_units (take (j - (i + 1)) (drop (i + 1) p))) r v))
    where
      pub walk_lost : o ≡ None → Checked p (Ok tt) → (v : Node) → Held t w 0 v → Found p v (Err (Refusal.Lost i))
      walk_lost e (Checked.well {ts = ts} x) v h =
          let y = g v ts h x in
          let n = token y l in
          Found.lost (omega (arith, pointer_short x)) x (lost_here y l (k n.units n.later n.bytes) (rw e at (s i y.here y.held)))

      pub walk_next : {z : ℕ} → o ≡ Some z → Walked t w p z j
      walk_next e v ts h x =
          let y = g v ts h x in
          let n = token y l in
          found_next y l (k n.units n.later n.bytes) (rw e at (s i y.here y.held))

-- The whole entry, of a text that was read.
pub found_small : {p : Bytes} {v : Node} {e : Refusal} → Found p v (Err e) → place_of e ≤ unnamed
found_small (Found.malformed l m) = omega arith
found_small (Found.lost l x f) = omega arith

module _ {t : Bytes} {w w' : Words} {p : Bytes} {v : Node} (x : Reading 1 t w (Read.ready v w')) where
  pub found_ok : {n : ℕ} → Found p v (Ok n) → Finder t w p (success n) w'
  found_ok (Found.found y f) = Finder.found x y f

  pub found_err : {e : Refusal} → Found p v (Err e) → Finder t w p (refusal (number_of e) 2 (place_of e)) w'
  found_err (Found.malformed l m) = Finder.malformed x m
  found_err (Found.lost l y f) = Finder.lost x y f
