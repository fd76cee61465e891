-- Values known from the architecture, shown of the definitions. Assumes nothing.
use Rattle.std.specs.Prelude.{◌≡◌, true, false, Some}
use Rattle.std.specs.Int.Count.{count_leading_zeros}
use Rattle.word.specs.Shifts.{mask, shifted_algebraic}
use Rattle.word.specs.Conditions.{field_at}
use Rattle.isa.specs.declared.instruction.Arithmetic.{Arithmetic}
use Rattle.isa.specs.declared.instruction.ArithmeticOp.TheVariants.{Add}
use Rattle.isa.specs.declared.instruction.Instruction.TheVariants.{SystemCall}
use Rattle.isa.specs.Decoded.{decoded}
use Rattle.cpu.specs.declared.registers.Working.{Working}
use Rattle.cpu.specs.Registers.{gpr_of, with_gpr}
use Rattle.cpu.specs.Integer.{arithmetic}
use Rattle.pages.specs.Known.{KnownTranslation}
use Rattle.core465.specs.Machine.{new_machine}

-- addo. r5,r3,r4, with 0x7FFFFFFF in r3 and 1 in r4 of a new core
abbrev pub overflowing : Arithmetic
overflowing = record { op = Add; rt = 5; ra = 3; rb = 4; oe = true; rc = true }

abbrev pub overflowed : Working
overflowed = arithmetic overflowing (with_gpr (with_gpr new_machine.working 3 0x7FFFFFFF) 4 1)

pub record KnownValues : Type 0 where
  -- masks, plain and round the end
  pub plain_mask : mask 24 27 ≡ 0x000000F0
  pub wrapped_mask : mask 28 3 ≡ 0xF000000F
  -- cntlzw of zero
  pub no_bits : count_leading_zeros 32 0 ≡ 32
  -- addo. gives the word, OV and SO, and LT and SO in condition field 0
  pub sum : gpr_of overflowed 5 ≡ 0x80000000
  pub sum_overflows : overflowed.xer.ov ≡ true
  pub sum_sticks : overflowed.xer.so ≡ true
  pub sum_recorded : field_at overflowed.cr 0 ≡ 9
  -- srawi by 1 of 0x80000001 and of 0x80000000
  pub shift_carries : shifted_algebraic 0x80000001 1 ≡ record { value = 0xC0000000; carry = true; overflow = false }
  pub shift_keeps : shifted_algebraic 0x80000000 1 ≡ record { value = 0xC0000000; carry = false; overflow = false }
  -- 0x44000002 is sc
  pub system_call : decoded 0x44000002 ≡ Some SystemCall
  -- 0x001ABCDE is real 0x1003ABCDE by an entry with the words 0x00100250 and 0x00300001
  pub translation : KnownTranslation
