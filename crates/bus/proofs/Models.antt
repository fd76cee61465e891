-- When two models are equal, and what a write makes of one.
use Rattle.std.proofs.Common.{◌≡◌, ℕ, Some, None}
use Rattle.bus.specs.Model.{Model, written, after}
use Rattle.bus.specs.declared.Direction.TheVariants.{Write}

-- models are equal where their bytes and their wirings are
pub model_ext : (m n : Model) → ((f k : ℕ) → m.bytes f k ≡ n.bytes f k) → m.wiring ≡ n.wiring → m ≡ n
model_ext m n p q = λ i. record { bytes = λ f k. p f k i; wiring = q i }

pub after_served : (m : Model) (a w v : ℕ) → m.wiring.denial Write a w ≡ None → after m a w v ≡ written m a w v
after_served m a w v e = simp e

pub after_denied : (m : Model) (a w v c : ℕ) → m.wiring.denial Write a w ≡ Some c → after m a w v ≡ m
after_denied m a w v c e = simp e
