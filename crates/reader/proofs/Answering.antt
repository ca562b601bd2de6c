-- What the reader answers is the verdict on the text.
use Prim.Native.Nat.{ℕ, suc, ◌*◌, ◌+◌, ◌<◌, ◌≤◌}
use Rattle.entries.specs.Answer as entry
use Rattle.entries.specs.Answer.{Reading, max_text, over}
use Rattle.entries.specs.Entries.{Reader}
use Rattle.names.specs.Units.{closing}
use Rattle.reader.proofs.Repeated.{first_least, rising_below}
use Rattle.reader.specs.Answers.{ReadAs, input_of, told}
use Rattle.reader.specs.Loop.{Framed, Settled, answer, strict}
use Rattle.reader.specs.declared.answer.Input.{Input}
use Rattle.reader.specs.declared.answer.Refused.{Refused}
use Rattle.scan.proofs.Steps.{at_start}
use Rattle.scan.specs.Answers.{judging}
use Rattle.scan.specs.Refusals.{number_of, place_of}
use Rattle.scan.specs.declared.refusal.Refusal.{Refusal}
use Rattle.std.specs.Prelude.{Option, Some, None, Result, Ok, Err}
use Rattle.text.proofs.Demand3.{place_longest, read, read_right}
use Rattle.text.proofs.Limits.{house_limits}
use Rattle.text.proofs.Records.{table_length}
use Rattle.text.specs.Bytes.{Bytes}
use Rattle.text.specs.Ceilings.{Gate, house}
use Rattle.text.specs.Grammar.{Text}
use Rattle.text.specs.Node.{Node}
use Rattle.text.specs.Table.{Words, size, table, unnamed}
use Rattle.text.specs.Verdict.{Outcome, Verdict}
use lib.ListN.{drop, length, length-replicate, replicate}
use mathlib.Core.List.{◌++◌}
use mathlib.Core.Path.{◌∙◌, ◌≡◌, ap, fun_ext, refl, subst, subst⁻¹, sym}
use native.Mathlib.Numerals.{add-one}
use native.Mathlib.Omega.{arith}

-- The house judges names as it does.
judging_house : judging strict ≡ house
unfolding judging house
judging_house = fun_ext by
  where
    by : (g : Gate) → judging strict g ≡ house g
    by (Gate.depth d) = refl
    by (Gate.name us ns) = refl
    by (Gate.high b) = refl
    by (Gate.digits n) = refl
    by (Gate.power c n f down e k) = refl

pub verdict : (t : Bytes) → Verdict house t (answer t)
verdict t = subst (Verdict house t) (ap (λ C. read C t) (sym judging_house) ∙ at_start t strict) (read_right house_limits t)

text_of : {t : Bytes} {v : Node} → Verdict house t (Outcome.accepted v) → Text house t v
text_of (Verdict.text x) = x

-- The table at exit: the records, or zeros, and the rest as at entry.
records_over : (v : Node) (w : Words) (n : ℕ) → n ≡ size v → table v ++ drop (4 * n) w ≡ over (table v) w
records_over v w n e = ap (λ k. table v ++ drop k w) (ap (λ n. 4 * n) e ∙ sym (table_length v))

zeros_over : (t : Bytes) (w tab : Words) → Framed t w tab → replicate (4 * length t) 0 ++ drop (4 * length t) tab ≡ over (replicate (4 * length t) 0) w
zeros_over t w tab f = ap (λ l. replicate (4 * length t) 0 ++ l) f.1 ∙ ap (λ k. replicate (4 * length t) 0 ++ drop k w) (sym (length-replicate (4 * length t) 0))

pub small_place : (t : Bytes) {n p : ℕ} → length t ≤ max_text → answer t ≡ Outcome.refused n p → p ≤ unnamed
small_place t {n} {p} h e =
    let v : Verdict house t (Outcome.refused n p) = subst (Verdict house t) e (verdict t) in
    omega (arith, (place_longest v).0)

-- A refusal of the verdict, with the table cleared.
refused : (k : ℕ) (t w tab : Words) {n p : ℕ} → length t ≤ max_text → 4 * length t ≤ length w → Framed t w tab → answer t ≡ Outcome.refused n p
    → Reading k t w (entry.Read.stop (entry.refusal n k p) (replicate (4 * length t) 0 ++ drop (4 * length t) tab))
refused k t w tab {n} {p} h g f e =
    let v : Verdict house t (Outcome.refused n p) = subst (Verdict house t) e (verdict t) in
    subst⁻¹ (λ l. Reading k t w (entry.Read.stop (entry.refusal n k p) l)) (zeros_over t w tab f) (Reading.refused h g v)

-- By what the containers held when all were closed.
module _ {t w tab : Words} {n : ℕ} where
  framed : {first : Option ℕ} {r : Option Refusal} → Settled t w tab n first r → Framed t w tab
  framed (Settled.read v es r) = r.framed
  framed (Settled.broken es b f l) = f

  -- The first repeated name stands inside the text.
  pub first_inside : {q : ℕ} {r : Option Refusal} → Settled t w tab n (Some q) r → q < length t
  first_inside (Settled.read v es r) = rising_below r.rising r.least.0
  first_inside (Settled.broken es b f l) = rising_below b.rising l.0

  -- A name stands twice, before whatever else; or none does, and something else is wrong.
  named_twice : {q : ℕ} {r : Option Refusal} → Settled t w tab n (Some q) r → answer t ≡ Outcome.refused 8 (closing (suc q) (drop (suc q) t))
  named_twice {q} (Settled.read v es r) = r.told ∙ first_least t (Outcome.accepted v) (Some q) r.rising r.least
  named_twice {q} (Settled.broken {e = e} es b f l) = b.told ∙ first_least t (Outcome.refused (number_of e) (place_of e)) (Some q) b.rising l

  pub broken_is : {e : Refusal} → Settled t w tab n None (Some e) → answer t ≡ Outcome.refused (number_of e) (place_of e)
  broken_is {e} (Settled.broken es b f l) = b.told ∙ first_least t (Outcome.refused (number_of e) (place_of e)) None b.rising l

  module _ (h : length t ≤ max_text) (g : 4 * length t ≤ length w) where
    pub name_refused : {q : ℕ} {r : Option Refusal} (k p : ℕ) → Settled t w tab n (Some q) r → p ≡ closing (q + 1) (drop (q + 1) t)
        → Reading k t w (entry.Read.stop (entry.refusal 8 k p) (replicate (4 * length t) 0 ++ drop (4 * length t) tab))
    name_refused {q} k p s e = refused k t w tab h g (framed s) (named_twice s ∙ ap (λ x. Outcome.refused 8 x) (sym (e ∙ ap (λ x. closing x (drop x t)) (add-one q))))

    pub otherwise_refused : {e : Refusal} (k : ℕ) → Settled t w tab n None (Some e)
        → Reading k t w (entry.Read.stop (entry.refusal (number_of e) k (place_of e)) (replicate (4 * length t) 0 ++ drop (4 * length t) tab))
    otherwise_refused k s = refused k t w tab h g (framed s) (broken_is s)

    pub read_all : (k : Input) → Settled t w tab n None None → ReadAs k t w tab (Ok n)
    read_all k (Settled.read v es r) =
        let a : answer t ≡ Outcome.accepted v = r.told ∙ first_least t (Outcome.accepted v) None r.rising r.least in
        (v, r.count, subst⁻¹ (λ l. Reading (input_of k) t w (entry.Read.ready v l)) (r.filled ∙ records_over v w n r.count) (Reading.accepted h g (text_of (subst (Verdict house t) a (verdict t)))))

-- So the reader's entry is kept.
pub reader : {t w w' : Words} (r : Result ℕ Refused) → ReadAs Input.First t w w' r → Reader t w (told r) w'
reader {t} {w} {w'} (Ok n) (v, e, r) = subst⁻¹ (λ n. Reader t w (entry.success n) w') e (Reader.done r)
reader (Err e) r = Reader.stop r
