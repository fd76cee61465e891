-- What a write keeps: the wiring, the other frames and the bus rules.
use Rattle.std.proofs.Common.{◌≡◌, ℕ, ◌+◌, ◌≤◌, true, false, eqb, Some, None, Option, sym, refl, subst, arith}
use mathlib.Core.Path.{fun_ext}
use Rattle.std.proofs.lemmas.Bool.Decides.{eqb_tells}
use Rattle.bus.specs.declared.Direction.TheVariants.{Write}
use Rattle.bus.specs.Model.{Model, frame_of, offset_of, well_formed, written, after}
use Rattle.bus.specs.Rules.{Lawful}
use Rattle.bus.proofs.Models.{after_served, after_denied}
use Rattle.bus.specs.Frames.{either_frame}

-- a well-formed access stays in its frame
pub room : (a w : ℕ) → well_formed a w ≡ true → offset_of a + w ≤ 1024
room a w h = grind arith

module _ (m : Model) (x : Lawful m) (a w : ℕ) (served : m.wiring.denial Write a w ≡ None) where
  pub served_formed : well_formed a w ≡ true
  served_formed = let e = x.wiring.malformed Write a w in grind arith

  pub served_there : m.wiring.absent (frame_of a) ≡ false
  served_there = let e = x.wiring.absence Write a w served_formed in grind arith

  written-lawful : (v : ℕ) → Lawful (written m a w v)
  written-lawful v = record {
    wiring = x.wiring;
    frames = λ f. either_frame (eqb f (frame_of a)) _ _
        (x.wiring.framed f (m.bytes f) (offset_of a) w v (x.frames f) (room a w served_formed)) (x.frames f);
    nothing = λ f k h. let e = x.nothing f k h in let d = eqb_tells f (frame_of a) in let s = served_there in grind arith;
  }

-- denials and write rules never change
pub after-wiring : (m : Model) (a w v : ℕ) → (after m a w v).wiring ≡ m.wiring
after-wiring m a w v = grind arith

-- a write alters no other frame than its own
pub after_others : (m : Model) (a w v f : ℕ) → (f ≡ frame_of a → ⊥) → (after m a w v).bytes f ≡ m.bytes f
after_others m a w v f n = fun_ext (λ k. let d = eqb_tells f (frame_of a) in grind arith)

pub after-lawful : (m : Model) → Lawful m → (a w v : ℕ) → Lawful (after m a w v)
after-lawful m x a w v = by (m.wiring.denial Write a w) refl
  where
    by : (o : Option ℕ) → m.wiring.denial Write a w ≡ o → Lawful (after m a w v)
    by None e = subst Lawful (sym (after_served m a w v e)) (written-lawful m x a w e v)
    by (Some c) e = subst Lawful (sym (after_denied m a w v c e)) x
