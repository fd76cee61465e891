-- The special purpose registers that only supervisor state knows. Assumes nothing.
use Rattle.std.specs.Prelude.{ℕ, ◌-◌, ◌%◌, cond, ◌&&◌, Ok, Err, Result, ◌==◌, nat_le, slice_index, slice_set}
use Rattle.cpu.specs.Registers.{msr_word, msr_from}
use Rattle.cpu.specs.declared.special.NoSuchRegister.{NoSuchRegister}
use Rattle.core465.specs.declared.hidden.Hidden.{Hidden}
use Rattle.core465.specs.declared.hidden.Saved.{Saved}
use Rattle.core465.specs.declared.special.Special.{Special}
use Rattle.core465.specs.declared.special.Special.TheVariants.{Srr0, Srr1, Pid, Dear, Esr, Ivpr, Mmucr, Sprg, Ivor}
use Rattle.core465.specs.Hidden.{srr0_bits, esr_bits, pid_bits, ivpr_bits, ivor_bits, mmucr_word, mmucr_from}

abbrev pub special_named : ℕ → Result Special NoSuchRegister
special_named n =
    cond (n == 26) (Ok Srr0)
    (cond (n == 27) (Ok Srr1)
    (cond (n == 48) (Ok Pid)
    (cond (n == 61) (Ok Dear)
    (cond (n == 62) (Ok Esr)
    (cond (n == 63) (Ok Ivpr)
    (cond (nat_le 272 n && nat_le n 279) (Ok (Sprg (n - 272)))
    (cond (nat_le 400 n && nat_le n 415) (Ok (Ivor (n - 400)))
    (cond (n == 946) (Ok Mmucr) (Err (record {}))))))))))

-- what a register reads as
abbrev pub hidden_word : Special → Hidden → ℕ
hidden_word Srr0 h = h.saved.srr0
hidden_word Srr1 h = msr_word h.saved.srr1
hidden_word Pid h = h.pid
hidden_word Dear h = h.saved.dear
hidden_word Esr h = h.saved.esr
hidden_word Ivpr h = h.ivpr
hidden_word Mmucr h = mmucr_word h.mmucr
hidden_word (Sprg k) h = slice_index h.sprg (k % 4)
hidden_word (Ivor k) h = slice_index h.ivor (k % 16)

abbrev pub with_saved : Hidden → Saved → Hidden
with_saved h s = record { saved = s; pid = h.pid; mmucr = h.mmucr; ivpr = h.ivpr; ivor = h.ivor; sprg = h.sprg }

-- the registers with a word written to one of them, which keeps what it keeps
abbrev pub with_hidden : Special → ℕ → Hidden → Hidden
with_hidden Srr0 v h = with_saved h (record { srr0 = srr0_bits v; srr1 = h.saved.srr1; esr = h.saved.esr; dear = h.saved.dear })
with_hidden Srr1 v h = with_saved h (record { srr0 = h.saved.srr0; srr1 = msr_from v; esr = h.saved.esr; dear = h.saved.dear })
with_hidden Pid v h = record { saved = h.saved; pid = pid_bits v; mmucr = h.mmucr; ivpr = h.ivpr; ivor = h.ivor; sprg = h.sprg }
with_hidden Dear v h = with_saved h (record { srr0 = h.saved.srr0; srr1 = h.saved.srr1; esr = h.saved.esr; dear = v })
with_hidden Esr v h = with_saved h (record { srr0 = h.saved.srr0; srr1 = h.saved.srr1; esr = esr_bits v; dear = h.saved.dear })
with_hidden Ivpr v h = record { saved = h.saved; pid = h.pid; mmucr = h.mmucr; ivpr = ivpr_bits v; ivor = h.ivor; sprg = h.sprg }
with_hidden Mmucr v h = record { saved = h.saved; pid = h.pid; mmucr = mmucr_from v; ivpr = h.ivpr; ivor = h.ivor; sprg = h.sprg }
with_hidden (Sprg k) v h = record { saved = h.saved; pid = h.pid; mmucr = h.mmucr; ivpr = h.ivpr; ivor = h.ivor; sprg = slice_set h.sprg (k % 4) v }
with_hidden (Ivor k) v h = record { saved = h.saved; pid = h.pid; mmucr = h.mmucr; ivpr = h.ivpr; ivor = slice_set h.ivor (k % 16) (ivor_bits v); sprg = h.sprg }
