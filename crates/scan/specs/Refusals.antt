-- 01's number of each refusal, and its place. 01 "The answer and its numbers".
use Rattle.std.specs.Prelude.{ℕ}
use Rattle.scan.specs.declared.refusal.Refusal.{Refusal}

abbrev pub number_of : Refusal → ℕ
number_of Refusal.Long = 1
number_of Refusal.Narrow = 2
number_of (Refusal.Short p) = 3
number_of (Refusal.Wrong p) = 4
number_of (Refusal.Deep p) = 5
number_of (Refusal.Digits p) = 6
number_of (Refusal.Power p) = 7
number_of (Refusal.Repeated p) = 8
number_of (Refusal.High p) = 9
number_of (Refusal.Malformed p) = 10
number_of (Refusal.Lost p) = 11
number_of (Refusal.NarrowOutput p) = 12
number_of (Refusal.LongOutput p) = 13

abbrev pub place_of : Refusal → ℕ
place_of Refusal.Long = 0
place_of Refusal.Narrow = 0
place_of (Refusal.Short p) = p
place_of (Refusal.Wrong p) = p
place_of (Refusal.Deep p) = p
place_of (Refusal.Digits p) = p
place_of (Refusal.Power p) = p
place_of (Refusal.Repeated p) = p
place_of (Refusal.High p) = p
place_of (Refusal.Malformed p) = p
place_of (Refusal.Lost p) = p
place_of (Refusal.NarrowOutput p) = p
place_of (Refusal.LongOutput p) = p
