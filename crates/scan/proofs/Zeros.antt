-- A coefficient without the zeros that end it, and how many those are: one of them off, and no digit left.
use Prim.Native.Nat.{◌%◌, ◌+◌, ◌/◌, ℕ}
use Rattle.text.specs.Decimal.{strip, zeros}
use borrow.Author.Tests.{eq-eqb}
use mathlib.Core.Path.{◌≡◌}
use native.Mathlib.Numerals.{add-one}

module _ (n m c : ℕ) (h : n ≡ m + 1) (e : c % 10 ≡ 0) where
  pub strip_step : strip n c ≡ strip m (c / 10)
  unfolding strip
  strip_step = rw (h, add-one m, eq-eqb (c % 10) 0 e, strip)

  pub zeros_step : zeros n c ≡ zeros m (c / 10) + 1
  unfolding zeros
  zeros_step = rw (h, add-one m, add-one (zeros m (c / 10)), eq-eqb (c % 10) 0 e, zeros)

pub strip_nought : (n c : ℕ) → n ≡ 0 → strip n c ≡ c
unfolding strip
strip_nought n c h = rw h

pub zeros_nought : (n c : ℕ) → n ≡ 0 → zeros n c ≡ 0
unfolding zeros
zeros_nought n c h = rw h
