-- The bus rules.
use Rattle.std.specs.Prelude.{◌≡◌, ℕ, ◌+◌, ◌^◌, ◌<◌, ◌≤◌, Bool, true, false, Some, None, Option, ◌==◌}
use Rattle.bus.specs.declared.Direction.{Direction}
use Rattle.bus.specs.Model.{Model, Wiring, Bytes, frame_of, well_formed}

-- a denial has a code from 1 to 254
abbrev pub IsCode : Option ℕ → Type 0
IsCode None = Unit {0}
IsCode (Some c) = (1 ≤ c) × (c ≤ 254)

-- whether this is the denial of an absent frame
abbrev pub is_absence : Option ℕ → Bool
is_absence None = false
is_absence (Some c) = c == 1

-- The bytes of a frame: each is below 256, and past the 1,024 there are none.
pub record IsFrame (b : Bytes) : Type 0 where
  pub small : (k : ℕ) → b k < 256
  pub inside : (k : ℕ) → 1024 ≤ k → b k ≡ 0

-- What the wiring of every bus keeps.
pub record IsWiring (w : Wiring) : Type 0 where
  pub codes : (d : Direction) (a n : ℕ) → IsCode (w.denial d a n)
  -- 254 comes before any other code
  pub malformed : (d : Direction) (a n : ℕ) → well_formed a n ≡ false → w.denial d a n ≡ Some 254
  -- of the well-formed accesses of a frame all are denied with 1, or none is
  pub absence : (d : Direction) (a n : ℕ) → well_formed a n ≡ true → is_absence (w.denial d a n) ≡ w.absent (frame_of a)
  -- there are 2^26 frames
  pub beyond : (f : ℕ) → 2 ^ 26 ≤ f → w.absent f ≡ true
  -- a write rule makes a frame of a frame
  pub framed : (f : ℕ) (b : Bytes) (o n v : ℕ) → IsFrame b → o + n ≤ 1024 → IsFrame (w.rule f b o n v)

-- What every bus keeps.
pub record Lawful (m : Model) : Type 0 where
  pub wiring : IsWiring m.wiring
  pub frames : (f : ℕ) → IsFrame (m.bytes f)
  -- a byte of an absent frame counts as zero
  pub nothing : (f k : ℕ) → m.wiring.absent f ≡ true → m.bytes f k ≡ 0
