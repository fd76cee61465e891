-- A core with one of its registers set from outside. Assumes nothing.
use Rattle.std.specs.Prelude.{ℕ, Bool, Some, None, Ok, Err, Option, Result}
use Rattle.cpu.specs.declared.registers.Working.{Working}
use Rattle.cpu.specs.declared.special.NoSuchRegister.{NoSuchRegister}
use Rattle.cpu.specs.Specials.{with_special}
use Rattle.core465.specs.declared.special.Special.{Special}
use Rattle.core465.specs.Specials.{special_named}
use Rattle.core465.specs.Machine.{Machine}
use Rattle.core465.specs.Deeds.{with_working, with_shown, with_special_of}

-- the external line up or down
abbrev pub with_line : Machine → Bool → Machine
with_line m up = with_shown m (record { msr = m.shown.msr; sprg = m.shown.sprg; line = up })

-- a special purpose register by its number: one that both states may write, or one that only supervisor state knows
abbrev pub by_special : Result Special NoSuchRegister → ℕ → Machine → Option Machine
by_special (Ok s) v m = Some (with_special_of s v m)
by_special (Err e) v m = None

abbrev pub by_working : Option Working → Result Special NoSuchRegister → ℕ → Machine → Option Machine
by_working (Some w) s v m = Some (with_working m w)
by_working None s v m = by_special s v m

abbrev pub with_number : ℕ → (value : ℕ) → Machine → Option Machine
with_number n v m = by_working (with_special n v m.working) (special_named n) v m
