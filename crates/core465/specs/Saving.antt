-- What an interrupt saves, and where it goes on. Assumes nothing.
use Rattle.std.specs.Prelude.{ℕ, ◌+◌, slice_index}
use Rattle.std.specs.Option.{unwrap_or}
use Rattle.interrupt.specs.declared.Cause.{Cause}
use Rattle.interrupt.specs.declared.Interrupt.{Interrupt}
use Rattle.interrupt.specs.Interrupts.{number_of, interrupt_of, esr_of, dear_of, return_to}
use Rattle.cpu.specs.declared.registers.Msr.{Msr}
use Rattle.core465.specs.declared.hidden.Hidden.{Hidden}
use Rattle.core465.specs.declared.hidden.Saved.{Saved}
use Rattle.core465.specs.Hidden.{ivpr_bits, ivor_bits}

-- SRR0 gets the return address, SRR1 the old MSR; ESR and DEAR stay where the cause does not set them
abbrev pub saved_by : Cause → (counter : ℕ) → Msr → Saved → Saved
saved_by c counter m s = record {
  srr0 = return_to (interrupt_of c) counter;
  srr1 = m;
  esr = unwrap_or (esr_of c) s.esr;
  dear = unwrap_or (dear_of c) s.dear;
}

-- the vector of an interrupt: bits 0:15 of IVPR, bits 16:27 of its IVOR, four zeros
abbrev pub vector_of : Hidden → Interrupt → ℕ
vector_of h i = ivpr_bits h.ivpr + ivor_bits (slice_index h.ivor (number_of i))
