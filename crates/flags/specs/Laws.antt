-- The flag page keeps the bus rules.
use Rattle.std.specs.Prelude.{ℕ, ◌==◌}
use Rattle.std.proofs.Common.{arith}
use Rattle.bus.specs.Model.{put_at}
use Rattle.bus.specs.Rules.{Lawful, IsWiring, IsFrame}
use Rattle.bus.specs.Frames.{zero_frame, either_frame, put_frame}
use Rattle.flags.specs.Flags.{page, page_bytes, page_wiring, is_page}

page_frame : (flags enable : ℕ) → IsFrame (page_bytes flags enable)
page_frame flags enable =
    put_frame (put_at (λ _. 0) 0 4 flags) 4 4 enable (put_frame (λ _. 0) 0 4 flags zero_frame (omega arith)) (omega arith)

page_wiring_lem : (n : ℕ) → IsWiring (page_wiring n)
page_wiring_lem n = record {
  codes = λ d a w. Prim.grind arith;
  malformed = λ d a w h. Prim.grind arith;
  absence = λ d a w h. Prim.grind arith;
  beyond = λ f h. Prim.grind arith;
  framed = λ f b o w v h j. either_frame (o == 0) _ _ (put_frame b 0 4 _ h (omega arith)) (put_frame b 4 4 v h (omega arith));
}

pub page_lawful : (n flags enable : ℕ) → Lawful (page n flags enable)
page_lawful n flags enable = record {
  wiring = page_wiring_lem n;
  frames = λ f. either_frame (is_page n f) _ _ (page_frame flags enable) zero_frame;
  nothing = λ f k h. Prim.grind arith;
}
