-- What every core keeps of its working registers: the counter is a multiple of four, and XER's count has seven bits.
-- Assumes nothing.
use Rattle.std.specs.Prelude.{◌≡◌, ℕ, ◌%◌, ◌<◌}
use Rattle.cpu.specs.declared.registers.Working.{Working}
use Rattle.cpu.specs.Effects.{Effect, finish, load, store, probe, trap, call, illegal, privileged}

abbrev pub Kept : Working → Type 0
Kept w = (w.pc % 4 ≡ 0) × (w.xer.count < 128)

-- the registers that an effect leaves keep it
abbrev pub LeavesKept : Effect → Type 0
LeavesKept (finish w) = Kept w
LeavesKept (load a n k) = (x : ℕ) → Kept (k x)
LeavesKept (store a n x w) = Kept w
LeavesKept (probe a n w) = Kept w
LeavesKept trap = Unit {0}
LeavesKept call = Unit {0}
LeavesKept illegal = Unit {0}
LeavesKept (privileged d) = Unit {0}
