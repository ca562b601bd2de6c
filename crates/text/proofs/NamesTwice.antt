-- 01's consequence on repeated names, both ways: the refusal 8 is at the closing quote of a name that stood before in its
-- object, and each such quote is refused so if what stands before it is not refused.
use Prim.Native.Char.{code}
use Prim.Native.Nat.{◌+◌, ◌<◌, ◌≤◌, suc, ℕ}
use Rattle.text.proofs.Blame.{Blamed, Refuses, move_refuses, refused_byte}
use Rattle.text.proofs.Demand3.{place_longest, run_verdict, verdict_one, verdict_run, viable_cut}
use Rattle.text.proofs.Limits.{house_limits, limits_without, roomy_without, wider}
use Rattle.text.proofs.Longest.{longest_one, parts_at, take_next, take_past}
use Rattle.text.proofs.Machine.{Stack, State, Use, close_move, member_move, move, names_of, onto}
use Rattle.text.proofs.Open.{onto_members_lem, onto_nodes_lem}
use Rattle.text.proofs.Opening.{Opened, name_opened, twice_opened}
use Rattle.text.proofs.Place.{Over, Refused, over, refused_inside}
use Rattle.text.proofs.Quotes.{chars_stop, in_text}
use Rattle.text.proofs.Residual.{After, AfterName, Follows}
use Rattle.text.proofs.Run.{Fault, Run, Took, follows_behind, took_one}
use Rattle.text.proofs.Sources.{At, at_byte, at_drop, at_next}
use Rattle.text.proofs.Takes.{chars_take}
use Rattle.text.proofs.Tests.{or_right}
use Rattle.text.proofs.Twice.{Closes, Repeated, Twice, TwiceAll, TwiceMembers}
use Rattle.text.proofs.Way.{Went, follows_went, initial, text_follows, took_wide}
use Rattle.text.specs.Bytes.{Bytes, Source, Units, from}
use Rattle.text.specs.Ceilings.{Ceilings, Gate, among, house, number_of, without}
use Rattle.text.specs.Grammar.{Named, Text}
use Rattle.text.specs.Node.{Members, Node}
use Rattle.text.specs.Strings.{Chars}
use Rattle.text.specs.Verdict.{Outcome, Verdict, Viable}
use lib.Dec.{T, T_not, eqb→eq, not_T}
use lib.ListN.{drop, get_or, length, length-drop, take, take-append-drop}
use lib.Seq.{drop_at, length-take-le, take-append-le, take-suc, take-take}
use mathlib.Core.Bool.{not, true}
use mathlib.Core.List.{List, [], ◌++◌, ◌∷◌, append_assoc}
use mathlib.Core.Logic.{◌↔◌}
use mathlib.Core.Path.{◌∙◌, ◌≡◌, ap, refl, subst, subst⁻¹, sym}
use mir.Facts.{T_not-not}
use native.Mathlib.Omega.{arith}
use Rattle.text.specs.Grammar as rule

module _ {C : Ceilings} where
  -- A name that stands twice does so in whatever the text comes to.
  after_twice : {q : ℕ} {us : Units} {st : Stack} {i : Source} {v r : Node} → After C st v i r → Twice q us v → Twice q us r
  after_twice (After.top e) t = t
  after_twice (After.array {vs = vs} x a) t = after_twice a (Twice.array (onto_nodes_lem vs (TwiceAll.first t)))
  after_twice (After.object {ms = ms} x a) t = after_twice a (Twice.object (onto_members_lem ms (TwiceMembers.inside t)))

  named_twice : {d q : ℕ} {ns : List Units} {us : Units} {i o : Source} {ms : Members} → Named C d ns q us i o ms → T (among us ns) → TwiceMembers q us ns ms
  named_twice (rule.named_space w x) t = named_twice x t
  named_twice (rule.named_colon x y) t = TwiceMembers.here t

  follows_twice : {q a : ℕ} {us : Units} {ms : Members} {st : Stack} {i : Source} {r : Node} → Follows C (State.named q us a ms st) i r → T (among us (names_of ms)) → Twice q us r
  follows_twice {ms = ms} (Follows.named (AfterName.named x a)) t = after_twice a (Twice.object (onto_members_lem ms (named_twice x t)))

  -- A run behind a way, and how far a way goes.
  went_run : {s s' : State} {n j : ℕ} {p i : Bytes} {a : Outcome} → Went C s n p s' j → Run C s' j i a → Run C s n (p ++ i) a
  went_run Went.none ρ = ρ
  went_run (Went.step k w) ρ = Run.on k (went_run w ρ)

  went_length : {s s' : State} {n j : ℕ} {p : Bytes} → Went C s n p s' j → j ≡ n + length p
  went_length Went.none = omega arith
  went_length (Went.step k w) = omega (arith, went_length w)

-- Behind a way stands what it has not gone over.
behind : {C : Ceilings} {t p i : Bytes} {s : State} {n : ℕ} → t ≡ p ++ i → Went C initial 0 p s n → At t (from n i)
behind {t = t} {p = p} {i = i} {n = n} e w = At.at (sym (ap (drop n) e ∙ drop_at p i n (omega (arith, went_length w))))

-- A name is refused if it stood before.
among_shut : (us : Units) (ns : List Units) → T (among us ns) → T (not (house (Gate.name us ns)))
unfolding house
among_shut us ns t = not_T (not (among us ns)) λ n. T_not (among us ns) n t

shut_among : (us : Units) (ns : List Units) → T (not (house (Gate.name us ns))) → T (among us ns)
unfolding house
shut_among us ns t = T_not-not (among us ns) t

-- A name that stood before is refused at its closing quote.
refused_at_lem : {t p r o : Bytes} {q a m : ℕ} {us : Units} {ms : Members} {st : Stack}
    → Over p (State.member a ms st) q → t ≡ p ++ (code "\"" ∷ r) → T (among us (names_of ms)) → Chars house (from (suc q) r) (from (suc m) o) us → Verdict house t (Outcome.refused 8 m)
unfolding move member_move close_move number_of onto
refused_at_lem {q = q} {a = a} {m = m} {us = us} {ms = ms} {st = st} w e h x =
    subst⁻¹ (λ t. Verdict house t (Outcome.refused 8 m)) e
    (run_verdict house_limits (went_run w (Run.on (Took.no tt (Took.yes tt Took.go)) (chars_stop (Use.name q a ms st) [] x (Fault.ask (among_shut us (names_of ms) h))))))

-- Where 8 is given: inside the text, at a quote.
refused_over : {t : Bytes} {P : ℕ} → Verdict house t (Outcome.refused 8 P) → (P < length t) × Viable (without 8 house) (take (suc P) t)
refused_over (Verdict.over l _ x) = (l, x)

pub closing_quote : {t : Bytes} {P : ℕ} → Verdict house t (Outcome.refused 8 P) → get_or t P 0 ≡ code "\""
closing_quote {t} {P} v = by (refused_byte v (refused_over v).0)
  where
    by : Blamed 8 (get_or t P 0) → get_or t P 0 ≡ code "\""
    by (Blamed.name h) = eqb→eq (get_or t P 0) (code "\"") h

-- From the refusal to the name.
module _ {t : Bytes} {P : ℕ} (v : Verdict house t (Outcome.refused 8 P)) where
  -- The quote closes a name whose units are `l`, last first, and which stood before.
  module _ {q a j : ℕ} {l : Units} {ms : Members} {st : Stack} (w : Over (take P t) (State.chars (Use.name q a ms st) l) j) (h : T (among (onto l []) (names_of ms))) where
    stops_twice : (z : Bytes) {r : Node} → Text (without 8 house) (take (suc P) t ++ z) r → Twice q (onto l []) r
    unfolding move close_move without number_of
    stops_twice z x =
        let f : take (suc P) t ++ z ≡ take P t ++ (code "\"" ∷ z) = rw (take-suc t P 0 (refused_over v).0, closing_quote v) (append_assoc (take P t) (code "\"" ∷ []) z) in
        let y = follows_went house house_limits (without 8 house) (roomy_without 8 house_limits.roomy) (wider 8 house) w (rw f at (text_follows x)) in
        follows_twice (follows_behind (without 8 house) (roomy_without 8 house_limits.roomy).sane (Took.no tt (Took.no tt (Took.yes tt (Took.ask (or_right (house (Gate.name (onto l []) (names_of ms))) true tt))))) y) h

    stops_closes : Closes t q (onto l []) P
    stops_closes = by (name_opened q (onto l []) house (drop (suc P) t) w h refl)
      where
        whole : t ≡ take P t ++ (code "\"" ∷ drop (suc P) t)
        whole = parts_at P t (refused_over v).0 ∙ ap (λ b. take P t ++ (b ∷ drop (suc P) t)) (closing_quote v)

        by : Opened q (onto l []) house initial 0 (take P t ++ (code "\"" ∷ drop (suc P) t)) → Closes t q (onto l []) P
        by (Opened.opened w₁ e h₁ x) =
            subst (Closes t q (onto l [])) (longest_one (Viable house) t (place_longest (refused_at_lem w₁ (whole ∙ e) h₁ x)) (place_longest v)) (in_text x (at_next t (behind (whole ∙ e) w₁)))

    stops_repeated : Repeated t P
    stops_repeated = let (z, r, x) = (refused_over v).1 in record { q = q; us = onto l []; w = z; v = r; viable = (place_longest v).1; closes = stops_closes; text = x; twice = stops_twice z x }

  verdict_repeated : Repeated t P
  verdict_repeated = by (refused_inside v (refused_over v).0)
    where
      at_s : {s : State} {j b : ℕ} → Over (take P t) s j → Refuses house s b 8 → Repeated t P
      at_s w (Refuses.name {l = l} {ms = ms} _ g) = stops_repeated w (shut_among (onto l []) (names_of ms) g)

      by : {b : ℕ} → Refused (take P t) b 8 → Repeated t P
      by {b} (Refused.refused {s = s} {j = j} w f) = at_s w (move_refuses s j b f)

-- From the name to the refusal. A text goes on as its first bytes do, whatever else follows them.
begins : (t w p : Bytes) (b : ℕ) (r : Bytes) (n : ℕ) → take (suc n) t ++ w ≡ p ++ (b ∷ r) → length p ≤ n → n < length t → t ≡ p ++ (b ∷ drop (suc (length p)) t)
begins t w p b r n e h l =
    let k = suc (length p) in
    let f : take k t ≡ p ++ (b ∷ []) = sym (take-take k (suc n) t (omega arith)) ∙ sym (take-append-le k (take (suc n) t) w (omega (arith, length-take-le (suc n) t (omega arith)))) ∙ ap (take k) e ∙ take_next p b r in
    sym (take-append-drop k t) ∙ ap (λ u. u ++ drop k t) f ∙ append_assoc p (b ∷ []) (drop k t)

-- Where the house's ceilings let the machine go on, it goes on in the same way as where names are not judged.
narrow : {s s₁ s₂ : State} {n i j : ℕ} {p : Bytes} → Went house s n p s₁ i → Went (without 8 house) s n p s₂ j → Went house s n p s₂ j
narrow Went.none Went.none = Went.none
narrow (Went.step k w) (Went.step {s'' = z} {n = n} {j = j} {p = p} l y) =
    Went.step k (narrow w (subst (λ s. Went (without 8 house) s (suc n) p z j) (took_one l (took_wide (wider 8 house) k)) y))

-- A string stands inside its text.
closes_inside : (t : Bytes) {q P : ℕ} {us : Units} → Closes t q us P → (q < P) × (P < length t)
closes_inside t {q} {P} x = omega (arith, chars_take x, length-drop (suc q) t, length-drop (suc P) t)

-- The machine comes to the opening quote, where the name stood before.
data Begun (t : Bytes) (q : ℕ) (us : Units) : Type 0 where
  begun : {a : ℕ} {p : Bytes} (r : Bytes) {ms : Members} {st : Stack} → Over p (State.member a ms st) q → t ≡ p ++ (code "\"" ∷ r) → T (among us (names_of ms)) → Begun t q us

module _ {t : Bytes} {P : ℕ} (c : Repeated t P) where
  repeated_begun : Begun t c.q c.us
  repeated_begun = by (twice_opened c.q c.us (without 8 house) (verdict_run (limits_without 8 (λ e. omega arith) house_limits) (Verdict.text c.text)) c.twice)
    where
      by : Opened c.q c.us (without 8 house) initial 0 (take (suc P) t ++ c.w) → Begun t c.q c.us
      by (Opened.opened {p = p} {r = r} y e h _) =
          let (l, m) = closes_inside t c.closes in
          let n : c.q ≡ 0 + length p = went_length y in
          let f = begins t c.w p (code "\"") r P e (omega arith) m in
          let (z, g) = take_past P p (code "\"") (drop (suc (length p)) t) (omega arith) in
          let (_, _, w) = over p (viable_cut house p (code "\"" ∷ []) (viable_cut house (p ++ (code "\"" ∷ [])) z (subst (Viable house) (ap (take P) f ∙ g) c.viable))) in
          Begun.begun _ (narrow w y) f h

  repeated_verdict : Verdict house t (Outcome.refused 8 P)
  repeated_verdict = by repeated_begun
    where
      by : Begun t c.q c.us → Verdict house t (Outcome.refused 8 P)
      by (Begun.begun _ w e h) = refused_at_lem w e h (rw (← at_drop (at_next t (behind e w))) at c.closes)

  -- A quote stands where the name opens, too.
  pub opening_quote : get_or t c.q 0 ≡ code "\""
  opening_quote = by repeated_begun
    where
      by : Begun t c.q c.us → get_or t c.q 0 ≡ code "\""
      by (Begun.begun _ w e h) = at_byte t (behind e w)

-- A repeated name is refused at its closing quote, and nothing else is refused as 8.
pub names_twice : (t : Bytes) (P : ℕ) → Verdict house t (Outcome.refused 8 P) ↔ Repeated t P
names_twice t P = (verdict_repeated, repeated_verdict)

-- So no text has a name twice in one object.
pub names_once : {t : Bytes} {v : Node} {q : ℕ} {us : Units} → Text house t v → ¬ (Twice q us v)
names_once {t} {v} {q} {us} x h = by (twice_opened q us house (verdict_run house_limits (Verdict.text x)) h)
  where
    by : Opened q us house initial 0 t → ⊥
    by (Opened.opened {m = m} w e n y) = let z : Outcome.accepted v ≡ Outcome.refused 8 m = verdict_one (Verdict.text x) (refused_at_lem w e n y) in let o : ◌≡◌ {A = ℕ} 0 1 = cc in omega arith
