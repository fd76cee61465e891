-- What writing bytes one by one makes of a bus. Assumes nothing.
use Rattle.std.specs.Prelude.{◌≡◌, ℕ, ◌+◌, ◌<◌, List, [], ◌∷◌, length, Some, None, Ok, Err, Option, Result}
use Rattle.bus.specs.Model.{Model, written}
use Rattle.bus.specs.declared.Direction.TheVariants.{Write}
use Rattle.placing.specs.declared.Denied.{Denied}

-- an answer of the bus to an access at `a`
abbrev pub located : ℕ → Result Unit ℕ → Result Unit Denied
located a (Ok u) = Ok u
located a (Err c) = Err (record { address = a; code = c })

-- the answer, and the bus then
pub record Placed : Type 0 where
  pub answer : Result Unit Denied
  pub model : Model

-- a byte at `a`: where it is denied, the bus is as it was and no other byte is written; else the rest follows on it
abbrev pub onward : Option ℕ → Model → ℕ → Placed → Placed
onward None m a rest = rest
onward (Some c) m a rest = record { answer = Err (record { address = a; code = c }); model = m }

-- the bytes from the address `a` on
abbrev pub placed : Model → ℕ → List ℕ → Placed
placed m a [] = record { answer = Ok tt; model = m }
placed m a (b ∷ bs) = onward (m.wiring.denial Write a 1) m a (placed (written m a 1 b) (a + 1) bs)

-- the bus serves the writes of n bytes from the address `a` on
abbrev pub Served : Model → ℕ → ℕ → Type 0
Served m a n = (k : ℕ) → k < n → m.wiring.denial Write (a + k) 1 ≡ None

-- what an answer tells: every byte is served, or the first that is not is at the address told, and denied with the code told
abbrev pub Tells : Model → ℕ → List ℕ → Result Unit Denied → Type 0
Tells m a bs (Ok u) = Served m a (length bs)
Tells m a bs (Err d) = (k : ℕ) × (k < length bs) × Served m a k × (d.address ≡ a + k) × (m.wiring.denial Write (a + k) 1 ≡ Some d.code)
