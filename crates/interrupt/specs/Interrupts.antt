-- The interrupts: numbers, and what each tells of its cause. Assumes nothing.
use Rattle.std.specs.Prelude.{ℕ, ◌+◌, ◌%◌, ◌^◌, Some, None, Option}
use Rattle.std.specs.Option.{unwrap_or}
use Rattle.interrupt.specs.declared.Interrupt.{Interrupt}
use Rattle.interrupt.specs.declared.Interrupt.TheVariants as told
use Rattle.interrupt.specs.declared.ProgramFault.{ProgramFault}
use Rattle.interrupt.specs.declared.ProgramFault.TheVariants.{Illegal, Privileged, Trap}
use Rattle.interrupt.specs.declared.DataKind.{DataKind}
use Rattle.interrupt.specs.declared.DataKind.TheVariants.{Load, Store}
use Rattle.interrupt.specs.declared.Cause.{Cause}
use Rattle.interrupt.specs.declared.Cause.TheVariants.{ExternalInput, InstructionTlbError, InstructionStorage, Program, SystemCall, DataTlbError, DataStorage, Alignment}
use Rattle.interrupt.specs.declared.Taken.{Taken}

-- the number of each interrupt
abbrev pub number_of : Interrupt → ℕ
number_of told.DataStorage = 2
number_of told.InstructionStorage = 3
number_of told.ExternalInput = 4
number_of told.Alignment = 5
number_of told.Program = 6
number_of told.SystemCall = 8
number_of told.DataTlbError = 13
number_of told.InstructionTlbError = 14

-- the interrupt that a cause brings about
abbrev pub interrupt_of : Cause → Interrupt
interrupt_of ExternalInput = told.ExternalInput
interrupt_of InstructionTlbError = told.InstructionTlbError
interrupt_of InstructionStorage = told.InstructionStorage
interrupt_of (Program f) = told.Program
interrupt_of SystemCall = told.SystemCall
interrupt_of (DataTlbError a) = told.DataTlbError
interrupt_of (DataStorage a) = told.DataStorage
interrupt_of (Alignment a) = told.Alignment

-- the bits of ESR: PIL, PPR and PTR of a Program interrupt, ST of a store
abbrev pub fault_bit : ProgramFault → ℕ
fault_bit Illegal = 0x08000000
fault_bit Privileged = 0x04000000
fault_bit Trap = 0x02000000

abbrev pub store_bit : DataKind → ℕ
store_bit Load = 0
store_bit Store = 0x00800000

-- what ESR is set to, and what DEAR, where they are
abbrev pub esr_of : Cause → Option ℕ
esr_of ExternalInput = None
esr_of InstructionTlbError = None
esr_of InstructionStorage = Some 0
esr_of (Program f) = Some (fault_bit f)
esr_of SystemCall = None
esr_of (DataTlbError a) = Some (store_bit a.kind)
esr_of (DataStorage a) = Some (store_bit a.kind)
esr_of (Alignment a) = Some (store_bit a.kind)

abbrev pub dear_of : Cause → Option ℕ
dear_of ExternalInput = None
dear_of InstructionTlbError = None
dear_of InstructionStorage = None
dear_of (Program f) = None
dear_of SystemCall = None
dear_of (DataTlbError a) = Some a.effective
dear_of (DataStorage a) = Some a.effective
dear_of (Alignment a) = Some a.effective

-- the return address: a system call returns behind itself, any other interrupt to the counter at the step's start
abbrev pub return_to : Interrupt → ℕ → ℕ
return_to told.DataStorage counter = counter
return_to told.InstructionStorage counter = counter
return_to told.ExternalInput counter = counter
return_to told.Alignment counter = counter
return_to told.Program counter = counter
return_to told.SystemCall counter = (counter + 4) % 2 ^ 32
return_to told.DataTlbError counter = counter
return_to told.InstructionTlbError counter = counter

-- what an interrupt tells: which it is, SRR0, and ESR and DEAR, 0 where it does not set them
abbrev pub taken : Cause → (counter : ℕ) → Taken
taken c counter = record {
  interrupt = interrupt_of c;
  srr0 = return_to (interrupt_of c) counter;
  esr = unwrap_or (esr_of c) 0;
  dear = unwrap_or (dear_of c) 0;
}
