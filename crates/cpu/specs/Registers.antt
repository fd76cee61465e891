-- The working registers with one of them changed. Assumes nothing.
use Rattle.std.specs.Prelude.{ℕ, ◌+◌, ◌*◌, ◌/◌, ◌%◌, Bool, cond, ◌==◌, slice_index, slice_set}
use Rattle.word.specs.Words.{wrap, bit}
use Rattle.cpu.specs.declared.registers.Working.{Working}
use Rattle.cpu.specs.declared.registers.Xer.{Xer}
use Rattle.cpu.specs.declared.registers.Msr.{Msr}

-- a register by the low five bits of its number
abbrev pub gpr_of : Working → ℕ → ℕ
gpr_of w k = slice_index w.gpr (k % 32)

-- a base register: register 0 stands for zero
abbrev pub base_of : Working → ℕ → ℕ
base_of w ra = cond (ra == 0) 0 (gpr_of w ra)

abbrev pub with_gpr : Working → ℕ → ℕ → Working
with_gpr w k v = record { gpr = slice_set w.gpr (k % 32) v; cr = w.cr; xer = w.xer; lr = w.lr; ctr = w.ctr; usprg0 = w.usprg0; pc = w.pc; reserved = w.reserved }

abbrev pub with_cr : Working → ℕ → Working
with_cr w v = record { gpr = w.gpr; cr = v; xer = w.xer; lr = w.lr; ctr = w.ctr; usprg0 = w.usprg0; pc = w.pc; reserved = w.reserved }

abbrev pub with_xer : Working → Xer → Working
with_xer w v = record { gpr = w.gpr; cr = w.cr; xer = v; lr = w.lr; ctr = w.ctr; usprg0 = w.usprg0; pc = w.pc; reserved = w.reserved }

abbrev pub with_lr : Working → ℕ → Working
with_lr w v = record { gpr = w.gpr; cr = w.cr; xer = w.xer; lr = v; ctr = w.ctr; usprg0 = w.usprg0; pc = w.pc; reserved = w.reserved }

abbrev pub with_ctr : Working → ℕ → Working
with_ctr w v = record { gpr = w.gpr; cr = w.cr; xer = w.xer; lr = w.lr; ctr = v; usprg0 = w.usprg0; pc = w.pc; reserved = w.reserved }

abbrev pub with_usprg0 : Working → ℕ → Working
with_usprg0 w v = record { gpr = w.gpr; cr = w.cr; xer = w.xer; lr = w.lr; ctr = w.ctr; usprg0 = v; pc = w.pc; reserved = w.reserved }

abbrev pub with_pc : Working → ℕ → Working
with_pc w v = record { gpr = w.gpr; cr = w.cr; xer = w.xer; lr = w.lr; ctr = w.ctr; usprg0 = w.usprg0; pc = v; reserved = w.reserved }

abbrev pub with_reserved : Working → Bool → Working
with_reserved w v = record { gpr = w.gpr; cr = w.cr; xer = w.xer; lr = w.lr; ctr = w.ctr; usprg0 = w.usprg0; pc = w.pc; reserved = v }

-- the next instruction's address, which wraps
abbrev pub after : Working → ℕ
after w = wrap (w.pc + 4)

abbrev pub next : Working → Working
next w = with_pc w (after w)

-- XER as a word: SO, OV and CA are its three leftmost bits, the count its seven rightmost
abbrev pub xer_word : Xer → ℕ
xer_word x = bit x.so * 0x80000000 + bit x.ov * 0x40000000 + bit x.ca * 0x20000000 + x.count % 128

abbrev pub xer_from : ℕ → Xer
xer_from v = record { so = (v / 0x80000000 % 2 == 1); ov = (v / 0x40000000 % 2 == 1); ca = (v / 0x20000000 % 2 == 1); count = v % 128 }

-- MSR as a word, each bit in its place
abbrev pub msr_word : Msr → ℕ
msr_word m =
    bit m.ce * 0x20000 + bit m.ee * 0x8000 + bit m.pr * 0x4000 + bit m.me * 0x1000 + bit m.de * 0x200 + bit m.is * 0x20 + bit m.ds * 0x10

abbrev pub msr_from : ℕ → Msr
msr_from v = record {
  ce = (v / 0x20000 % 2 == 1);
  ee = (v / 0x8000 % 2 == 1);
  pr = (v / 0x4000 % 2 == 1);
  me = (v / 0x1000 % 2 == 1);
  de = (v / 0x200 % 2 == 1);
  is = (v / 0x20 % 2 == 1);
  ds = (v / 0x10 % 2 == 1);
}
