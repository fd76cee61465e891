-- The special purpose registers that both states know. Assumes nothing.
use Rattle.std.specs.Prelude.{ℕ, ◌-◌, ◌/◌, ◌%◌, Bool, cond, ◌&&◌, Some, None, Option, ◌==◌, nat_le, slice_index}
use Rattle.cpu.specs.declared.registers.Working.{Working}
use Rattle.cpu.specs.declared.registers.Shown.{Shown}
use Rattle.cpu.specs.Registers.{xer_word, xer_from, with_xer, with_lr, with_ctr, with_usprg0}

-- a number with bit 0x10 is privileged, whether there is such a register or not
abbrev pub privileged_number : ℕ → Bool
privileged_number n = n / 16 % 2 == 1

-- what can be read in both states: XER, LR, CTR, USPRG0, and SPRG4 to SPRG7
abbrev pub special_word : ℕ → Working → Shown → Option ℕ
special_word n w v =
    cond (n == 1) (Some (xer_word w.xer))
    (cond (n == 8) (Some w.lr)
    (cond (n == 9) (Some w.ctr)
    (cond (n == 256) (Some w.usprg0)
    (cond (nat_le 260 n && nat_le n 263) (Some (slice_index v.sprg (n - 260))) None))))

-- what can be written in both states: XER, LR, CTR, USPRG0
abbrev pub with_special : ℕ → ℕ → Working → Option Working
with_special n x w =
    cond (n == 1) (Some (with_xer w (xer_from x)))
    (cond (n == 8) (Some (with_lr w x))
    (cond (n == 9) (Some (with_ctr w x))
    (cond (n == 256) (Some (with_usprg0 w x)) None)))
