-- A core without its bus, as the state that the specification speaks of. Assumes nothing.
use Rattle.std.specs.Prelude.{◌≡◌, false, List, length, replicate}
use Rattle.cpu.specs.declared.registers.Working.{Working}
use Rattle.cpu.specs.declared.registers.Shown.{Shown}
use Rattle.cpu.specs.declared.registers.Msr.{Msr}
use Rattle.cpu.specs.Kept.{Kept}
use Rattle.pages.specs.declared.entry.Entry.{Entry}
use Rattle.pages.specs.Entries.{blank, AllKept}
use Rattle.core465.specs.declared.hidden.Hidden.{Hidden}
use Rattle.core465.specs.Hidden.{SavedKept, TaskKept, VectorsKept}

pub record Machine : Type 0 where
  pub working : Working
  pub shown : Shown
  pub hidden : Hidden
  pub entries : List Entry

-- what every core keeps: registers and entries hold only the bits that they keep, the counter is a multiple of four, and there are
-- 64 entries
pub record MachineKept (m : Machine) : Type 0 where
  pub working : Kept m.working
  pub saved : SavedKept m.hidden
  pub task : TaskKept m.hidden
  pub vectors : VectorsKept m.hidden
  pub entries : AllKept m.entries
  pub count : length m.entries ≡ 64

abbrev pub no_msr : Msr
no_msr = record { ce = false; ee = false; pr = false; me = false; de = false; is = false; ds = false }

-- a new core: zero everywhere, and the line down
unfoldable pub new_machine : Machine
new_machine = record {
  working = record {
    gpr = replicate 32 0;
    cr = 0;
    xer = record { so = false; ov = false; ca = false; count = 0 };
    lr = 0;
    ctr = 0;
    usprg0 = 0;
    pc = 0;
    reserved = false;
  };
  shown = record { msr = no_msr; sprg = replicate 4 0; line = false };
  hidden = record {
    saved = record { srr0 = 0; srr1 = no_msr; esr = 0; dear = 0 };
    pid = 0;
    mmucr = record { sts = false; stid = 0 };
    ivpr = 0;
    ivor = replicate 16 0;
    sprg = replicate 4 0;
  };
  entries = replicate 64 blank;
}
