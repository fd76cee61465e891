-- Bytes that are those of a frame: lemmas for the proof that a bus keeps the bus rules.
use Rattle.std.specs.Prelude.{ℕ, ◌+◌, ◌≤◌, Bool, cond, refl}
use Rattle.std.proofs.Common.{arith}
use Rattle.bus.specs.Model.{Bytes, put_at}
use Rattle.bus.specs.Rules.{IsFrame}

pub zero_frame : IsFrame (λ _. 0)
zero_frame = record { small = λ k. omega arith; inside = λ k h. refl }

-- the one or the other
pub either_frame : (t : Bool) (b c : Bytes) → IsFrame b → IsFrame c → IsFrame (λ k. cond t (b k) (c k))
either_frame t b c x y = record {
  small = λ k. let p = x.small k in let q = y.small k in Prim.grind arith;
  inside = λ k h. let p = x.inside k h in let q = y.inside k h in Prim.grind arith;
}

-- a value put inside a frame
pub put_frame : (b : Bytes) (o w v : ℕ) → IsFrame b → o + w ≤ 1024 → IsFrame (put_at b o w v)
put_frame b o w v x h = record {
  small = λ k. let p = x.small k in Prim.grind arith;
  inside = λ k j. let p = x.inside k j in Prim.grind arith;
}
