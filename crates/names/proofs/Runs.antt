-- Bytes that are equal and stand for themselves decide nothing.
use Prim.Native.Char.{code}
use Prim.Native.Nat.{ℕ, ◌+◌, ◌<◌}
use Rattle.names.proofs.Order.{order_same}
use Rattle.names.proofs.Reading.{units_plain}
use Rattle.names.specs.Steps.{Alike}
use Rattle.text.specs.Bytes.{Bytes}
use lib.ListN.{get_or, length}
use mathlib.Core.Path.{◌∙◌, ◌≡◌}

pub alike_one : (a b : Bytes) (i : ℕ) → i < length a → i < length b → get_or a i 0 ≡ get_or b i 0 → (get_or a i 0 ≡ code "\"" → ⊥) → (get_or a i 0 ≡ code "\\" → ⊥) → Alike a b i (i + 1)
alike_one a b i h k e q r = rw (units_plain a i h q r, units_plain b i k (λ d. q (e ∙ d)) (λ d. r (e ∙ d))) (order_same _ _ _ _ e)
