-- What an interrupt does to a core. Assumes nothing.
use Rattle.std.specs.Prelude.{false}
use Rattle.interrupt.specs.declared.Cause.{Cause}
use Rattle.interrupt.specs.Interrupts.{interrupt_of}
use Rattle.cpu.specs.declared.registers.Msr.{Msr}
use Rattle.cpu.specs.Registers.{with_pc}
use Rattle.core465.specs.Saving.{saved_by, vector_of}
use Rattle.core465.specs.Specials.{with_saved}
use Rattle.core465.specs.Machine.{Machine}

-- of the MSR an interrupt keeps CE, ME and DE
abbrev pub entering : Msr → Msr
entering m = record { ce = m.ce; ee = false; pr = false; me = m.me; de = m.de; is = false; ds = false }

-- the core that goes on at the vector
unfoldable pub interrupted : Cause → Machine → Machine
interrupted c m = record {
  working = with_pc m.working (vector_of m.hidden (interrupt_of c));
  shown = record { msr = entering m.shown.msr; sprg = m.shown.sprg; line = m.shown.line };
  hidden = with_saved m.hidden (saved_by c m.working.pc m.shown.msr m.hidden.saved);
  entries = m.entries;
}
