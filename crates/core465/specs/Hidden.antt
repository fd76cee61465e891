-- The registers that user state does not see: the bits that they keep. Assumes nothing.
use Rattle.std.specs.Prelude.{◌≡◌, ℕ, ◌+◌, ◌*◌, ◌/◌, ◌%◌, ◌==◌, bit_and, All}
use Rattle.word.specs.Words.{bit}
use Rattle.core465.specs.declared.hidden.Hidden.{Hidden}
use Rattle.core465.specs.declared.hidden.Mmucr.{Mmucr}

-- what each register keeps of a word
abbrev pub srr0_bits : ℕ → ℕ
srr0_bits v = v / 4 * 4

abbrev pub esr_bits : ℕ → ℕ
esr_bits v = bit_and v 0x0E800000

abbrev pub pid_bits : ℕ → ℕ
pid_bits v = v % 256

abbrev pub ivpr_bits : ℕ → ℕ
ivpr_bits v = v / 0x10000 * 0x10000

abbrev pub ivor_bits : ℕ → ℕ
ivor_bits v = v / 16 % 4096 * 16

-- MMUCR as a word: STS and STID
abbrev pub mmucr_word : Mmucr → ℕ
mmucr_word m = bit m.sts * 0x10000 + m.stid % 256

abbrev pub mmucr_from : ℕ → Mmucr
mmucr_from v = record { sts = (v / 0x10000 % 2 == 1); stid = v % 256 }

-- every register holds only what it keeps: those that an interrupt saves, the task's, and the vectors
abbrev pub SavedKept : Hidden → Type 0
SavedKept h = (srr0_bits h.saved.srr0 ≡ h.saved.srr0) × (esr_bits h.saved.esr ≡ h.saved.esr)

abbrev pub TaskKept : Hidden → Type 0
TaskKept h = (pid_bits h.pid ≡ h.pid) × (pid_bits h.mmucr.stid ≡ h.mmucr.stid)

-- each IVOR
abbrev pub VectorKept : ℕ → Type 0
VectorKept v = ivor_bits v ≡ v

abbrev pub VectorsKept : Hidden → Type 0
VectorsKept h = (ivpr_bits h.ivpr ≡ h.ivpr) × All VectorKept h.ivor

abbrev pub HiddenKept : Hidden → Type 0
HiddenKept h = SavedKept h × TaskKept h × VectorsKept h
