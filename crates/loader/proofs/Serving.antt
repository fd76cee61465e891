-- The bytes that a bus takes, one after the other.
use Rattle.std.proofs.Common.{◌≡◌, ℕ, ◌+◌, Bool, not, ◌&&◌, List, [], ◌∷◌, length, is_some, refl, ap}
use Rattle.std.specs.List.{list_all, range_with_len}
use Rattle.bus.specs.Model.{Model}
use Rattle.bus.specs.declared.Direction.TheVariants.{Write}
use Rattle.loader.specs.Loading.{serves}

module _ (m : Model) where
  -- the write of a byte is served
  abbrev pub free : ℕ → Bool
  free a = not (is_some (m.wiring.denial Write a 1))

  pub each : (a : ℕ) (bs : List ℕ) → list_all free (range_with_len a (length bs)) ≡ serves m a bs
  each a [] = refl
  each a (b ∷ bs) = ap (λ r. free a && r) (each (a + 1) bs)
