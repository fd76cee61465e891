-- What a write to one side makes of the joined bus.
use Rattle.std.proofs.Common.{◌≡◌, ℕ, true, false, None, refl, arith}
use Rattle.std.proofs.lemmas.Bool.Decides.{eqb_tells}
use Rattle.bus.specs.declared.Direction.TheVariants.{Write}
use Rattle.bus.specs.Model.{Model, frame_of, written, after}
use Rattle.bus.specs.Rules.{Lawful, is_absence}
use Rattle.bus.specs.Join.{joined}
use Rattle.bus.proofs.Models.{model_ext}
use Rattle.bus.proofs.Keeping.{served_there}

module _ (l r : Model) (x : Lawful l) (a w v : ℕ) where
  -- the frame of a served write is that of the side that serves it
  left_written : l.wiring.absent (frame_of a) ≡ false → joined (written l a w v) r ≡ written (joined l r) a w v
  left_written h = model_ext _ _ (λ f k. let t = eqb_tells f (frame_of a) in grind arith) refl

  right_written : l.wiring.absent (frame_of a) ≡ true → joined l (written r a w v) ≡ written (joined l r) a w v
  right_written h = model_ext _ _ (λ f k. let t = eqb_tells f (frame_of a) in grind arith) refl

  -- a write that the left serves or denies with another code than 1
  pub joined_left : is_absence (l.wiring.denial Write a w) ≡ false → joined (after l a w v) r ≡ after (joined l r) a w v
  joined_left e =
      let q : l.wiring.denial Write a w ≡ None → joined (written l a w v) r ≡ written (joined l r) a w v = λ p. left_written (served_there l x a w p) in
      grind arith

  -- a write that goes to the right
  pub joined_right : is_absence (l.wiring.denial Write a w) ≡ true → joined (after l a w v) (after r a w v) ≡ after (joined l r) a w v
  joined_right e =
      let m = x.wiring.malformed Write a w in
      let n = x.wiring.absence Write a w in
      let h : l.wiring.absent (frame_of a) ≡ true = grind arith in
      let q = right_written h in
      grind arith
