-- Registers and page entries, put from outside. Assumes nothing.
use Rattle.std.specs.Prelude.{ℕ, ◌%◌, Bool, cond, ◌&&◌, ◌||◌, Some, None, Ok, Err, Option, Result, ◌==◌, bit_and, nat_le, nat_lt}
use Rattle.cpu.specs.Registers.{msr_from, with_gpr, with_pc}
use Rattle.pages.specs.declared.entry.Entry.{Entry as PageEntry}
use Rattle.pages.specs.Tables.{with_entry}
use Rattle.core465.specs.Machine.{Machine}
use Rattle.core465.specs.Deeds.{with_working, with_entries, with_msr}
use Rattle.core465.specs.Setting.{with_number}
use Rattle.service.specs.declared.putting.Put.{Put}
use Rattle.service.specs.declared.putting.Put.TheVariants.{Gpr, Special, Msr, Counter, Entry}
use Rattle.service.specs.declared.putting.PutRefusal.{PutRefusal}
use Rattle.service.specs.declared.putting.PutRefusal.TheVariants.{Unfit}

abbrev pub put_number : PutRefusal → ℕ
put_number Unfit = 8

-- no other bits than those of a mask
abbrev pub fits : (mask word : ℕ) → Bool
fits mask word = bit_and word mask == word

-- by number, the bits that each special purpose register keeps that supervisor state may write: XER; SRR0; SRR1; PID; ESR;
-- IVPR; IVOR0 to IVOR15; MMUCR; and LR, CTR, DEAR, USPRG0 and SPRG0 to SPRG7, which keep all
abbrev pub mask_of : ℕ → Option ℕ
mask_of n =
    cond (n == 1) (Some 0xE000007F)
    (cond (n == 26) (Some 0xFFFFFFFC)
    (cond (n == 27) (Some 0x0002D230)
    (cond (n == 48) (Some 0x000000FF)
    (cond (n == 62) (Some 0x0E800000)
    (cond (n == 63) (Some 0xFFFF0000)
    (cond (nat_le 400 n && nat_le n 415) (Some 0x0000FFF0)
    (cond (n == 946) (Some 0x000100FF)
    (cond (n == 8 || (n == 9 || (n == 61 || (n == 256 || (nat_le 272 n && nat_le n 279))))) (Some 0xFFFFFFFF) None))))))))

abbrev pub entry_fits : PageEntry → Bool
entry_fits e = fits 0xFF e.tid && (fits 0xFFFFFFF0 e.word0 && (fits 0xFFFFFC0F e.word1 && fits 0xFFBF e.word2))

-- what is put, or none where there is no such register or entry, or the value does not fit it
abbrev pub masked : Option ℕ → (number value : ℕ) → Machine → Option Machine
masked None n v m = None
masked (Some mask) n v m = cond (fits mask v) (with_number n v m) None

abbrev pub put_special : (number value : ℕ) → Machine → Option Machine
put_special n v m = masked (mask_of n) n v m

abbrev pub put_machine : Put → Machine → Option Machine
put_machine (Gpr n v) m = cond (nat_lt n 32) (Some (with_working m (with_gpr m.working n v))) None
put_machine (Special n v) m = put_special n v m
put_machine (Msr v) m = cond (fits 0x0002D230 v) (Some (with_msr m (msr_from v))) None
put_machine (Counter v) m = cond (v % 4 == 0) (Some (with_working m (with_pc m.working v))) None
put_machine (Entry n e) m = cond (nat_lt n 64 && entry_fits e) (Some (with_entries m (with_entry m.entries n e))) None

abbrev pub put_answer : Option Machine → Result Unit PutRefusal
put_answer (Some m) = Ok tt
put_answer None = Err Unfit
