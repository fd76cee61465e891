-- What the answer tells of the bus. Assumes nothing.
use Rattle.std.proofs.Common.{◌≡◌, ℕ, zero, suc, ◌+◌, List, [], ◌∷◌, length, Some, None, Ok, Err, Option, Result, sym, refl, subst, arith}
use Rattle.bus.specs.Model.{Model, written}
use Rattle.bus.specs.declared.Direction.TheVariants.{Write}
use Rattle.placing.specs.declared.Denied.{Denied}
use Rattle.placing.specs.Placing.{onward, placed, Served, Tells}

-- one more byte in front
served_front : (m : Model) (a n : ℕ) → m.wiring.denial Write a 1 ≡ None → Served m (a + 1) n → Served m a (suc n)
served_front m a n e s zero h = grind arith
served_front m a n e s (suc k) h = let t = s k (omega arith) in grind arith

tells_front : (m : Model) (a b : ℕ) (bs : List ℕ) (r : Result Unit Denied) → m.wiring.denial Write a 1 ≡ None → Tells (written m a 1 b) (a + 1) bs r → Tells m a (b ∷ bs) r
tells_front m a b bs (Ok u) e t = served_front m a (length bs) e t
tells_front m a b bs (Err d) e (k, lt, s, at, code) = (suc k, omega arith, served_front m a k e s, omega arith, grind arith)

tells : (bs : List ℕ) (m : Model) (a : ℕ) → Tells m a bs (placed m a bs).answer
tells [] m a = λ k h. absurd (omega arith)
tells (b ∷ bs) m a = by (tells bs (written m a 1 b) (a + 1)) (m.wiring.denial Write a 1) refl
  where
    by : Tells (written m a 1 b) (a + 1) bs (placed (written m a 1 b) (a + 1) bs).answer → (o : Option ℕ) → m.wiring.denial Write a 1 ≡ o → Tells m a (b ∷ bs) (onward o m a (placed (written m a 1 b) (a + 1) bs)).answer
    by t None e = tells_front m a b bs _ e t
    by t (Some c) e = (0, omega arith, λ k h. absurd (omega arith), omega arith, grind arith)

pub told : (m : Model) (a : ℕ) (bs : List ℕ) (r : Result Unit Denied) → r ≡ (placed m a bs).answer → Tells m a bs r
told m a bs r e = subst (Tells m a bs) (sym e) (tells bs m a)
