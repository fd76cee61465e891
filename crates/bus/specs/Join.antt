-- Two buses as one: what the left denies with 1 goes to the right.
use Rattle.std.specs.Prelude.{ℕ, cond, ◌&&◌, Option}
use Rattle.bus.specs.Model.{Model, Wiring}
use Rattle.bus.specs.Rules.{is_absence}
use Rattle.bus.specs.declared.Joined.{Joined}

abbrev pub or_else : Option ℕ → Option ℕ → Option ℕ
or_else l r = cond (is_absence l) r l

abbrev pub joined_wiring : Wiring → Wiring → Wiring
joined_wiring l r = record {
  absent = λ f. l.absent f && r.absent f;
  denial = λ d a w. or_else (l.denial d a w) (r.denial d a w);
  rule = λ f b o w v k. cond (l.absent f) (r.rule f b o w v k) (l.rule f b o w v k);
}

-- a frame is that of the right where the left has none
abbrev pub joined : Model → Model → Model
joined l r = record {
  bytes = λ f k. cond (l.wiring.absent f) (r.bytes f k) (l.bytes f k);
  wiring = joined_wiring l.wiring r.wiring;
}

-- the model of a `Joined`, from those of its two sides
abbrev pub model_of : {L R : Type 0} → (L → Model) → (R → Model) → Joined L R → Model
model_of l r j = joined (l j.left) (r j.right)
