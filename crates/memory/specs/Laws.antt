-- Plain memory keeps the bus rules.
use Rattle.std.specs.Prelude.{ℕ, List, length}
use Rattle.std.proofs.Common.{arith}
use Rattle.bus.specs.Rules.{Lawful, IsWiring, IsFrame}
use Rattle.bus.specs.Frames.{put_frame}
use Rattle.memory.specs.Memory.{byte_of, windowed, window_wiring, memory}

window_wiring_lem : (first n : ℕ) → IsWiring (window_wiring first n)
window_wiring_lem first n = record {
  codes = λ d a w. Prim.grind arith;
  malformed = λ d a w h. Prim.grind arith;
  absence = λ d a w h. Prim.grind arith;
  beyond = λ f h. Prim.grind arith;
  framed = λ f b o w v h j. put_frame b o w v h j;
}

window_frame : (first n f : ℕ) (s : List ℕ) → IsFrame (windowed first n (byte_of s) f)
window_frame first n f s = record {
  small = λ k. Prim.grind arith;
  inside = λ k h. Prim.grind arith;
}

pub memory_lawful : (first : ℕ) (s : List ℕ) → Lawful (memory first s)
memory_lawful first s = record {
  wiring = window_wiring_lem first (length s);
  frames = λ f. window_frame first (length s) f s;
  nothing = λ f k h. Prim.grind arith;
}
