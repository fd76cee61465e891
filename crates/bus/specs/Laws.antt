-- Two buses that keep the bus rules keep them joined.
use Rattle.std.specs.Prelude.{◌≡◌, ℕ, ◌&&◌, Option}
use Rattle.std.proofs.Common.{arith}
use Rattle.std.proofs.lemmas.Bool.{cond_both}
use Rattle.bus.specs.Model.{Model, Wiring}
use Rattle.bus.specs.Rules.{Lawful, IsWiring, IsCode, is_absence}
use Rattle.bus.specs.Join.{or_else, joined, joined_wiring}
use Rattle.bus.specs.Frames.{either_frame}

-- of an `or_else`, both are absences
else_absence : (p q : Option ℕ) → is_absence (or_else p q) ≡ (is_absence p && is_absence q)
else_absence p q = Prim.grind arith

joined_wiring_lem : (l r : Wiring) → IsWiring l → IsWiring r → IsWiring (joined_wiring l r)
joined_wiring_lem l r x y = record {
  codes = λ d a w. cond_both _ _ _ IsCode (λ _. y.codes d a w) (λ _. x.codes d a w);
  malformed = λ d a w h. let p = x.malformed d a w h in let q = y.malformed d a w h in Prim.grind arith;
  absence = λ d a w h. let p = x.absence d a w h in let q = y.absence d a w h in Prim.grind arith;
  beyond = λ f h. let p = x.beyond f h in let q = y.beyond f h in Prim.grind arith;
  framed = λ f b o w v h j. either_frame (l.absent f) _ _ (y.framed f b o w v h j) (x.framed f b o w v h j);
}

pub joined_lawful : (l r : Model) → Lawful l → Lawful r → Lawful (joined l r)
joined_lawful l r x y = record {
  wiring = joined_wiring_lem l.wiring r.wiring x.wiring y.wiring;
  frames = λ f. either_frame (l.wiring.absent f) _ _ (y.frames f) (x.frames f);
  nothing = λ f k h. let p = x.nothing f k in let q = y.nothing f k in Prim.grind arith;
}
