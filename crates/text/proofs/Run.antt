-- The machine's way through a text: the moves that ceilings let pass or refuse, the run, and what it says of the grammar.
use Prim.Native.Nat.{suc, ℕ}
use Rattle.text.proofs.Digits.{count_from}
use Rattle.text.proofs.Fitting.{Fits, Fitting, Sane, is_number}
use Rattle.text.proofs.Machine.{Move, Numeral, State, move}
use Rattle.text.proofs.Residual.{After, AfterFraction, AfterName, AfterWhole, Follows, Leads, NumeralRest, Then}
use Rattle.text.proofs.Step.{backward, forward}
use Rattle.text.specs.Bytes.{Bytes, Source, Units, from, value_from}
use Rattle.text.specs.Ceilings.{Ceilings, Gate, number_of}
use Rattle.text.specs.Decimal.{normal}
use Rattle.text.specs.Grammar.{End, Member, Named, Value}
use Rattle.text.specs.Node.{Members, Node}
use Rattle.text.specs.Numbers.{Digits, Fraction, Minus, Number, Power, Whole}
use Rattle.text.specs.Strings.{Word}
use Rattle.text.specs.Verdict.{Outcome}
use lib.Dec.{T, T_not}
use mathlib.Core.Bool.{Bool, false, not, true}
use mathlib.Core.List.{List, [], ◌∷◌}
use mathlib.Core.Path.{◌≡◌, ap, refl, subst⁻¹}
use Rattle.text.specs.Grammar as rule

-- A move that the ceilings let pass, and one that they or the grammar refuse with its number.
pub data Took (C : Ceilings) : Move → State → Type 0 where
  go : {s : State} → Took C (Move.go s) s
  ask : {g : Gate} {s : State} → T (C g) → Took C (Move.ask g s) s
  yes : {c : Bool} {x y : Move} {s : State} → T c → Took C x s → Took C (Move.when c x y) s
  no : {c : Bool} {x y : Move} {s : State} → T (not c) → Took C y s → Took C (Move.when c x y) s

pub data Fault (C : Ceilings) : Move → ℕ → Type 0 where
  bad : Fault C Move.bad 4
  ask : {g : Gate} {s : State} → T (not (C g)) → Fault C (Move.ask g s) (number_of g)
  yes : {c : Bool} {x y : Move} {n : ℕ} → T c → Fault C x n → Fault C (Move.when c x y) n
  no : {c : Bool} {x y : Move} {n : ℕ} → T (not c) → Fault C y n → Fault C (Move.when c x y) n

-- One move has one outcome.
pub fault_one : {C : Ceilings} {m : Move} {k l : ℕ} → Fault C m k → Fault C m l → k ≡ l
fault_one Fault.bad Fault.bad = refl
fault_one (Fault.ask p) (Fault.ask q) = refl
fault_one (Fault.yes p f) (Fault.yes q g) = fault_one f g
fault_one (Fault.yes {c = c} p f) (Fault.no q g) = absurd (T_not c q p)
fault_one (Fault.no {c = c} p f) (Fault.yes q g) = absurd (T_not c p q)
fault_one (Fault.no p f) (Fault.no q g) = fault_one f g

pub took_one : {C : Ceilings} {m : Move} {s s' : State} → Took C m s → Took C m s' → s ≡ s'
took_one Took.go Took.go = refl
took_one (Took.ask p) (Took.ask q) = refl
took_one (Took.yes p f) (Took.yes q g) = took_one f g
took_one (Took.yes {c = c} p f) (Took.no q g) = absurd (T_not c q p)
took_one (Took.no {c = c} p f) (Took.yes q g) = absurd (T_not c p q)
took_one (Took.no p f) (Took.no q g) = took_one f g

pub took_fault : {C : Ceilings} {m : Move} {s : State} {k : ℕ} → Took C m s → Fault C m k → ⊥
took_fault {C} (Took.ask {g = g} p) (Fault.ask q) = T_not (C g) q p
took_fault (Took.yes p f) (Fault.yes q g) = took_fault f g
took_fault (Took.yes {c = c} p f) (Fault.no q g) = T_not c q p
took_fault (Took.no {c = c} p f) (Fault.yes q g) = T_not c p q
took_fault (Took.no p f) (Fault.no q g) = took_fault f g
took_fault go x4 = elim x4 [ ]

pub data Judged (C : Ceilings) (m : Move) : Type 0 where
  took : (s : State) → Took C m s → Judged C m
  fault : (n : ℕ) → Fault C m n → Judged C m

-- Where a text may end, and with which value.
pub data Done : State → ℕ → Node → Type 0 where
  after : {i : ℕ} {v : Node} → Done (State.after [] v) i v
  zero : {i p : ℕ} {neg : Bool} → Done (State.number (Numeral.zero neg) p []) i (Node.number p i (normal neg 0 1 0 false 0))
  whole : {i p : ℕ} {neg : Bool} {c n : ℕ} → Done (State.number (Numeral.whole neg c n) p []) i (Node.number p i (normal neg c n 0 false 0))
  fraction : {i p : ℕ} {neg : Bool} {c n f : ℕ} → Done (State.number (Numeral.fraction neg c n f) p []) i (Node.number p i (normal neg c n f false 0))
  power : {i p : ℕ} {neg s : Bool} {c n f e k : ℕ} → Done (State.number (Numeral.power neg c n f s e k) p []) i (Node.number p i (normal neg c n f s e))

-- Some byte is left.
abbrev Some : Source → Type 0
Some (from n []) = ⊥
Some (from n (b ∷ i)) = Unit {0}

unfoldable pub is_done : State → Bool
is_done (State.number Numeral.minus p st) = false
is_done (State.number (Numeral.zero neg) p []) = true
is_done (State.number (Numeral.zero neg) p (f ∷ st)) = false
is_done (State.number (Numeral.whole neg c n) p []) = true
is_done (State.number (Numeral.whole neg c n) p (f ∷ st)) = false
is_done (State.number (Numeral.point neg c n) p st) = false
is_done (State.number (Numeral.fraction neg c n f) p []) = true
is_done (State.number (Numeral.fraction neg c n f) p (f' ∷ st)) = false
is_done (State.number (Numeral.mark neg c n f) p st) = false
is_done (State.number (Numeral.sign neg c n f s) p st) = false
is_done (State.number (Numeral.power neg c n f s e k) p []) = true
is_done (State.number (Numeral.power neg c n f s e k) p (f' ∷ st)) = false
is_done (State.value st) = false
is_done (State.array a st) = false
is_done (State.object a st) = false
is_done (State.after [] v) = true
is_done (State.after (f ∷ st) v) = false
is_done (State.literal k ks v a st) = false
is_done (State.chars u us) = false
is_done (State.escape u us) = false
is_done (State.hex l a u us) = false
is_done (State.member a ms st) = false
is_done (State.named q us a ms st) = false

pub done_is : {s : State} {n : ℕ} {v : Node} → Done s n v → T (is_done s)
unfolding is_done
done_is Done.after = tt
done_is Done.zero = tt
done_is Done.whole = tt
done_is Done.fraction = tt
done_is Done.power = tt

-- A state may end a text, or is not finished.
pub data Ended (s : State) (n : ℕ) : Type 0 where
  ends : (v : Node) → Done s n v → Ended s n
  unfinished : ((v : Node) → ¬ (Done s n v)) → Ended s n

ended : (s : State) (i : ℕ) → Ended s i
unfolding is_done
ended (State.number Numeral.minus p st) i = Ended.unfinished λ v d. done_is d
ended (State.number (Numeral.zero neg) p []) i = Ended.ends (Node.number p i (normal neg 0 1 0 false 0)) Done.zero
ended (State.number (Numeral.zero neg) p (f ∷ st)) i = Ended.unfinished λ v d. done_is d
ended (State.number (Numeral.whole neg c n) p []) i = Ended.ends (Node.number p i (normal neg c n 0 false 0)) Done.whole
ended (State.number (Numeral.whole neg c n) p (f ∷ st)) i = Ended.unfinished λ v d. done_is d
ended (State.number (Numeral.point neg c n) p st) i = Ended.unfinished λ v d. done_is d
ended (State.number (Numeral.fraction neg c n f) p []) i = Ended.ends (Node.number p i (normal neg c n f false 0)) Done.fraction
ended (State.number (Numeral.fraction neg c n f) p (f' ∷ st)) i = Ended.unfinished λ v d. done_is d
ended (State.number (Numeral.mark neg c n f) p st) i = Ended.unfinished λ v d. done_is d
ended (State.number (Numeral.sign neg c n f s) p st) i = Ended.unfinished λ v d. done_is d
ended (State.number (Numeral.power neg c n f s e k) p []) i = Ended.ends (Node.number p i (normal neg c n f s e)) Done.power
ended (State.number (Numeral.power neg c n f s e k) p (f' ∷ st)) i = Ended.unfinished λ v d. done_is d
ended (State.value st) i = Ended.unfinished λ v d. done_is d
ended (State.array a st) i = Ended.unfinished λ v d. done_is d
ended (State.object a st) i = Ended.unfinished λ v d. done_is d
ended (State.after [] v) i = Ended.ends v Done.after
ended (State.after (f ∷ st) v) i = Ended.unfinished λ v d. done_is d
ended (State.literal k ks v a st) i = Ended.unfinished λ v d. done_is d
ended (State.chars u us) i = Ended.unfinished λ v d. done_is d
ended (State.escape u us) i = Ended.unfinished λ v d. done_is d
ended (State.hex l a u us) i = Ended.unfinished λ v d. done_is d
ended (State.member a ms st) i = Ended.unfinished λ v d. done_is d
ended (State.named q us a ms st) i = Ended.unfinished λ v d. done_is d

-- The run from a state at an offset over the bytes to come.
pub data Run (C : Ceilings) : State → ℕ → Bytes → Outcome → Type 0 where
  ends : {s : State} {n : ℕ} {v : Node} → Done s n v → Run C s n [] (Outcome.accepted v)
  short : {s : State} {n : ℕ} → ((v : Node) → ¬ (Done s n v)) → Run C s n [] (Outcome.refused 3 n)
  on : {s s' : State} {n b : ℕ} {t : Bytes} {a : Outcome} → Took C (move s n b) s' → Run C s' (suc n) t a → Run C s n (b ∷ t) a
  off : {s : State} {n b k : ℕ} {t : Bytes} → Fault C (move s n b) k → Run C s n (b ∷ t) (Outcome.refused k n)

module _ (C : Ceilings) where
  judge_ask : (g : Gate) (s : State) (c : Bool) → C g ≡ c → Judged C (Move.ask g s)
  judge_ask g s true e = Judged.took s (Took.ask (subst⁻¹ T e tt))
  judge_ask g s false e = Judged.fault (number_of g) (Fault.ask (subst⁻¹ (λ c. T (not c)) e tt))

  judge_yes : (x y : Move) → Judged C x → Judged C (Move.when true x y)
  judge_yes x y (Judged.took s k) = Judged.took s (Took.yes tt k)
  judge_yes x y (Judged.fault n f) = Judged.fault n (Fault.yes tt f)

  judge_no : (x y : Move) → Judged C y → Judged C (Move.when false x y)
  judge_no x y (Judged.took s k) = Judged.took s (Took.no tt k)
  judge_no x y (Judged.fault n f) = Judged.fault n (Fault.no tt f)

  unfoldable pub judge : (m : Move) → Judged C m
  unfolding judge_ask judge_yes judge_no
  judge Move.bad = Judged.fault 4 Fault.bad
  judge (Move.go s) = Judged.took s Took.go
  judge (Move.ask g s) = judge_ask g s (C g) refl
  judge (Move.when true x y) = judge_yes x y (judge x)
  judge (Move.when false x y) = judge_no x y (judge y)

  -- What a move leads to, where it passes; one that leads on is not refused.
  pub leads_took : {F : State → Type 0} {m : Move} {s : State} → Leads C F m → Took C m s → F s
  leads_took (Leads.go h) Took.go = h
  leads_took (Leads.ask g h) (Took.ask _) = h
  leads_took (Leads.yes p n) (Took.yes _ k) = leads_took n k
  leads_took (Leads.yes {c = c} p n) (Took.no q k) = absurd (T_not c q p)
  leads_took (Leads.no {c = c} p n) (Took.yes q k) = absurd (T_not c p q)
  leads_took (Leads.no p n) (Took.no _ k) = leads_took n k

  pub took_then : {m : Move} {s : State} {w : Source} {r : Node} → Took C m s → Follows C s w r → Then C m w r
  took_then Took.go h = Leads.go h
  took_then (Took.ask g) h = Leads.ask g h
  took_then (Took.yes p k) h = Leads.yes p (took_then k h)
  took_then (Took.no p k) h = Leads.no p (took_then k h)

  pub leads_fault : {F : State → Type 0} {m : Move} {k : ℕ} → Leads C F m → Fault C m k → ⊥
  leads_fault (Leads.ask {g = g} p h) (Fault.ask q) = T_not (C g) q p
  leads_fault (Leads.yes p n) (Fault.yes _ f) = leads_fault n f
  leads_fault (Leads.yes {c = c} p n) (Fault.no q f) = T_not c q p
  leads_fault (Leads.no {c = c} p n) (Fault.yes q f) = T_not c p q
  leads_fault (Leads.no p n) (Fault.no _ f) = leads_fault n f
  leads_fault (Leads.go _) x4 = elim x4 [ ]

  -- One byte, both ways.
  pub follows_before : {s s' : State} {n b : ℕ} {w : Bytes} {r : Node} → Fitting C s → Took C (move s n b) s' → Follows C s' (from (suc n) w) r → Follows C s (from n (b ∷ w)) r
  follows_before {s} {n = n} {b = b} φ k h = backward C s n b φ (took_then k h)

  pub follows_behind : {s s' : State} {n b : ℕ} {w : Bytes} {r : Node} → Sane C → Took C (move s n b) s' → Follows C s (from n (b ∷ w)) r → Follows C s' (from (suc n) w) r
  follows_behind {s} {n = n} {b = b} sane k h = leads_took (forward C sane s n b h) k

  pub follows_fault : {s : State} {n b k : ℕ} {w : Bytes} {r : Node} → Sane C → Fault C (move s n b) k → Follows C s (from n (b ∷ w)) r → ⊥
  follows_fault {s} {n} {b} sane f h = leads_fault (forward C sane s n b h) f

  -- Nothing of the grammar is empty.
  value_some : {d : ℕ} {i o : Source} {v : Node} → Value C d i o v → Some i
  value_some (rule.value_space p t) = tt
  value_some (rule.null (Word.byte l)) = tt
  value_some (rule.true (Word.byte l)) = tt
  value_some (rule.false (Word.byte l)) = tt
  value_some (rule.string s) = tt
  value_some (rule.number (Number.number Minus.none Whole.zero f e l)) = tt
  value_some (rule.number (Number.number Minus.none (Whole.nonzero p d) f e l)) = tt
  value_some (rule.number (Number.number Minus.minus x f e l)) = tt
  value_some (rule.array g l) = tt
  value_some (rule.object g l) = tt

  member_some : {d : ℕ} {ns : List Units} {i o : Source} {l : Members} → Member C d ns i o l → Some i
  member_some (rule.member_space p k) = tt
  member_some (rule.member_name s g c) = tt

  named_some : {d : ℕ} {ns : List Units} {q : ℕ} {us : Units} {i o : Source} {l : Members} → Named C d ns q us i o l → Some i
  named_some (rule.named_space p k) = tt
  named_some (rule.named_colon v t) = tt

  -- What a state allows at the end of the text.
  pub done_follows : {s : State} {v : Node} → {n : ℕ} → Fitting C s → Done s n v → Follows C s (from n []) v
  unfolding value_from count_from is_number
  done_follows φ Done.after = Follows.after (After.top End.end)
  done_follows (Fitting.number (Fits.zero l)) Done.zero = Follows.number (NumeralRest.zero (AfterWhole.fraction Fraction.none (AfterFraction.power Power.none l))) (After.top End.end)
  done_follows (Fitting.number (Fits.whole _ l)) Done.whole = Follows.number (NumeralRest.whole Digits.none (AfterWhole.fraction Fraction.none (AfterFraction.power Power.none l))) (After.top End.end)
  done_follows (Fitting.number (Fits.fraction _ _ l)) Done.fraction = Follows.number (NumeralRest.fraction Digits.none (AfterFraction.power Power.none l)) (After.top End.end)
  done_follows (Fitting.number (Fits.power _ _ _ _ l)) Done.power = Follows.number (NumeralRest.power Digits.none l) (After.top End.end)
  done_follows (Fitting.other q) Done.zero = absurd q
  done_follows (Fitting.other q) Done.whole = absurd q
  done_follows (Fitting.other q) Done.fraction = absurd q
  done_follows (Fitting.other q) Done.power = absurd q

  follows_done : {s : State} {n : ℕ} {v : Node} → Follows C s (from n []) v → Done s n v
  unfolding value_from count_from
  follows_done (Follows.after (After.top End.end)) = Done.after
  follows_done (Follows.number (NumeralRest.zero (AfterWhole.fraction Fraction.none (AfterFraction.power Power.none l))) (After.top End.end)) = Done.zero
  follows_done (Follows.number (NumeralRest.whole Digits.none (AfterWhole.fraction Fraction.none (AfterFraction.power Power.none l))) (After.top End.end)) = Done.whole
  follows_done (Follows.number (NumeralRest.fraction Digits.none (AfterFraction.power Power.none l)) (After.top End.end)) = Done.fraction
  follows_done (Follows.number (NumeralRest.power Digits.none l) (After.top End.end)) = Done.power
  follows_done (Follows.value t a) = absurd (value_some t)
  follows_done (Follows.array (rule.array_first v t) a) = absurd (value_some v)
  follows_done (Follows.object (rule.object_first k) a) = absurd (member_some k)
  follows_done (Follows.named (AfterName.named c a)) = absurd (named_some c)
  follows_done (Follows.number (NumeralRest.minus x28 _) _) = elim x28 [ ]
  follows_done (Follows.number (NumeralRest.zero (AfterWhole.fraction Fraction.none (AfterFraction.power Power.none l))) (After.array x73 _)) = elim x73 [ ]
  follows_done (Follows.number (NumeralRest.zero (AfterWhole.fraction Fraction.none (AfterFraction.power Power.none l))) (After.object x74 _)) = elim x74 [ ]
  follows_done (Follows.number (NumeralRest.whole Digits.none (AfterWhole.fraction Fraction.none (AfterFraction.power Power.none l))) (After.array x87 _)) = elim x87 [ ]
  follows_done (Follows.number (NumeralRest.whole Digits.none (AfterWhole.fraction Fraction.none (AfterFraction.power Power.none l))) (After.object x88 _)) = elim x88 [ ]
  follows_done (Follows.number (NumeralRest.fraction Digits.none (AfterFraction.power Power.none l)) (After.array x65 _)) = elim x65 [ ]
  follows_done (Follows.number (NumeralRest.fraction Digits.none (AfterFraction.power Power.none l)) (After.object x66 _)) = elim x66 [ ]
  follows_done (Follows.number (NumeralRest.mark x36 _ _ _) _) = elim x36 [ ]
  follows_done (Follows.number (NumeralRest.power Digits.none l) (After.array x41 _)) = elim x41 [ ]
  follows_done (Follows.number (NumeralRest.power Digits.none l) (After.object x42 _)) = elim x42 [ ]
  follows_done (Follows.after (After.array x14 _)) = elim x14 [ ]
  follows_done (Follows.after (After.object x15 _)) = elim x15 [ ]
  follows_done (Follows.literal x9 _) = elim x9 [ ]
  follows_done (Follows.chars x10 _) = elim x10 [ ]
  follows_done (Follows.escape x _) = elim x [ ]
  follows_done (Follows.hex x _) = elim x [ ]
  follows_done (Follows.member x7 _) = elim x7 [ ]

  pub done_one : {s : State} {n : ℕ} {v v' : Node} → Done s n v → Done s n v' → v ≡ v'
  done_one Done.after Done.after = refl
  done_one Done.zero Done.zero = refl
  done_one Done.whole Done.whole = refl
  done_one Done.fraction Done.fraction = refl
  done_one Done.power Done.power = refl

  -- The machine, as a function.
  run_end : (s : State) (n : ℕ) → Ended s n → (a : Outcome) × Run C s n [] a
  run_end s n (Ended.ends v d) = (Outcome.accepted v, Run.ends d)
  run_end s n (Ended.unfinished f) = (Outcome.refused 3 n, Run.short f)

  run_on : (s : State) (n b : ℕ) (t : Bytes) → ((s' : State) → (a : Outcome) × Run C s' (suc n) t a) → Judged C (move s n b) → (a : Outcome) × Run C s n (b ∷ t) a
  run_on s n b t f (Judged.took s' k) = let (a, ρ) = f s' in (a, Run.on k ρ)
  run_on s n b t f (Judged.fault k e) = (Outcome.refused k n, Run.off e)

  unfoldable pub run : (s : State) (n : ℕ) (t : Bytes) → (a : Outcome) × Run C s n t a
  unfolding judge run_end run_on ended done_is
  run s n [] = run_end s n (ended s n)
  run s n (b ∷ t) = run_on s n b t (λ s'. run s' (suc n) t) (judge (move s n b))

  pub complete : Sane C → {s : State} {n : ℕ} {t : Bytes} {a : Outcome} {v : Node} → Run C s n t a → Follows C s (from n t) v → a ≡ Outcome.accepted v
  complete sane (Run.ends d) h = ap Outcome.accepted (done_one d (follows_done h))
  complete sane (Run.short f) h = absurd (f _ (follows_done h))
  complete sane (Run.on k ρ) h = complete sane ρ (follows_behind sane k h)
  complete sane (Run.off f) h = absurd (follows_fault sane f h)
