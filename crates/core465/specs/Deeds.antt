-- What supervisor state does with a privileged deed; none where it names a register that there is not. Assumes nothing.
use Rattle.std.specs.Prelude.{ℕ, ◌%◌, Bool, true, false, cond, List, Some, None, Ok, Err, Option, Result, nat_lt, slice_index, slice_set}
use Rattle.cpu.specs.declared.registers.Working.{Working}
use Rattle.cpu.specs.declared.registers.Shown.{Shown}
use Rattle.cpu.specs.declared.registers.Msr.{Msr}
use Rattle.cpu.specs.declared.special.NoSuchRegister.{NoSuchRegister}
use Rattle.cpu.specs.declared.deed.Privileged.{Privileged}
use Rattle.cpu.specs.declared.deed.Privileged.TheVariants.{ReadMsr, WriteMsr, WriteExternalEnable, Return, ReadSpecial, WriteSpecial, ReadEntry, WriteEntry, SearchEntries, Synchronize}
use Rattle.cpu.specs.Registers.{next, with_gpr, with_pc, msr_word, msr_from}
use Rattle.cpu.specs.Integer.{with_answer}
use Rattle.pages.specs.declared.entry.Entry.{Entry}
use Rattle.pages.specs.declared.entry.NoSuchWord.{NoSuchWord}
use Rattle.pages.specs.declared.entry.Word.{Word}
use Rattle.pages.specs.declared.entry.Word.TheVariants.{PageId, Xlat, Attrib}
use Rattle.pages.specs.Entries.{word_of}
use Rattle.pages.specs.Words.{word_numbered}
use Rattle.pages.specs.Tables.{selected, written}
use Rattle.pages.specs.Matching.{found}
use Rattle.core465.specs.declared.hidden.Hidden.{Hidden}
use Rattle.core465.specs.declared.special.Special.{Special}
use Rattle.core465.specs.declared.special.Special.TheVariants.{Srr0, Srr1, Pid, Dear, Esr, Ivpr, Mmucr, Sprg, Ivor}
use Rattle.core465.specs.Hidden.{pid_bits}
use Rattle.core465.specs.Specials.{special_named, hidden_word, with_hidden}
use Rattle.core465.specs.Machine.{Machine}

-- a machine with other working registers, another MSR, other hidden registers, other entries
abbrev pub with_working : Machine → Working → Machine
with_working m w = record { working = w; shown = m.shown; hidden = m.hidden; entries = m.entries }

abbrev pub with_shown : Machine → Shown → Machine
with_shown m v = record { working = m.working; shown = v; hidden = m.hidden; entries = m.entries }

abbrev pub with_hidden_of : Machine → Hidden → Machine
with_hidden_of m h = record { working = m.working; shown = m.shown; hidden = h; entries = m.entries }

abbrev pub with_entries : Machine → List Entry → Machine
with_entries m es = record { working = m.working; shown = m.shown; hidden = m.hidden; entries = es }

abbrev pub with_msr : Machine → Msr → Machine
with_msr m x = with_shown m (record { msr = x; sprg = m.shown.sprg; line = m.shown.line })

abbrev pub advanced : Machine → Machine
advanced m = with_working m (next m.working)

-- a word to a general register, and on
abbrev pub giving : ℕ → ℕ → Machine → Machine
giving rt x m = with_working m (next (with_gpr m.working rt x))

-- MSR with EE set or clear
abbrev pub with_ee : Msr → Bool → Msr
with_ee m e = record { ce = m.ce; ee = e; pr = m.pr; me = m.me; de = m.de; is = m.is; ds = m.ds }

-- SPRG4 to SPRG7 stand where user state sees them
abbrev pub special_of : Special → Machine → ℕ
special_of (Sprg k) m = cond (nat_lt k 4) (hidden_word (Sprg k) m.hidden) (slice_index m.shown.sprg (k % 4))
special_of Srr0 m = hidden_word Srr0 m.hidden
special_of Srr1 m = hidden_word Srr1 m.hidden
special_of Pid m = hidden_word Pid m.hidden
special_of Dear m = hidden_word Dear m.hidden
special_of Esr m = hidden_word Esr m.hidden
special_of Ivpr m = hidden_word Ivpr m.hidden
special_of Mmucr m = hidden_word Mmucr m.hidden
special_of (Ivor k) m = hidden_word (Ivor k) m.hidden

abbrev pub with_special_of : Special → ℕ → Machine → Machine
with_special_of (Sprg k) v m =
    cond (nat_lt k 4) (with_hidden_of m (with_hidden (Sprg k) v m.hidden))
    (with_shown m (record { msr = m.shown.msr; sprg = slice_set m.shown.sprg (k % 4) v; line = m.shown.line }))
with_special_of Srr0 v m = with_hidden_of m (with_hidden Srr0 v m.hidden)
with_special_of Srr1 v m = with_hidden_of m (with_hidden Srr1 v m.hidden)
with_special_of Pid v m = with_hidden_of m (with_hidden Pid v m.hidden)
with_special_of Dear v m = with_hidden_of m (with_hidden Dear v m.hidden)
with_special_of Esr v m = with_hidden_of m (with_hidden Esr v m.hidden)
with_special_of Ivpr v m = with_hidden_of m (with_hidden Ivpr v m.hidden)
with_special_of Mmucr v m = with_hidden_of m (with_hidden Mmucr v m.hidden)
with_special_of (Ivor k) v m = with_hidden_of m (with_hidden (Ivor k) v m.hidden)

abbrev pub read_special : ℕ → Result Special NoSuchRegister → Machine → Option Machine
read_special rt (Err e) m = None
read_special rt (Ok s) m = Some (giving rt (special_of s m) m)

abbrev pub write_special : Result Special NoSuchRegister → ℕ → Machine → Option Machine
write_special (Err e) v m = None
write_special (Ok s) v m = Some (advanced (with_special_of s v m))

-- rfi: on at SRR0, with SRR1 as the MSR
abbrev pub returned : Machine → Machine
returned m = with_msr (with_working m (with_pc m.working m.hidden.saved.srr0)) m.hidden.saved.srr1

-- tlbre: a word to a register, and with WS 0 the TID to STID
abbrev pub with_stid : Hidden → ℕ → Hidden
with_stid h t = record { saved = h.saved; pid = h.pid; mmucr = record { sts = h.mmucr.sts; stid = pid_bits t }; ivpr = h.ivpr; ivor = h.ivor; sprg = h.sprg }

abbrev pub stid_from : Word → ℕ → Machine → Machine
stid_from PageId t m = with_hidden_of m (with_stid m.hidden t)
stid_from Xlat t m = m
stid_from Attrib t m = m

abbrev pub read_entry : ℕ → ℕ → Result Word NoSuchWord → Machine → Option Machine
read_entry rt n (Err e) m = None
read_entry rt n (Ok k) m = Some (giving rt (word_of (selected m.entries n) k) (stid_from k (selected m.entries n).tid m))

-- tlbwe: one word of one entry, and with WS 0 its TID from STID
abbrev pub write_entry : ℕ → Result Word NoSuchWord → ℕ → Machine → Option Machine
write_entry n (Err e) v m = None
write_entry n (Ok k) v m = Some (advanced (with_entries m (written m.entries n k v m.hidden.mmucr.stid)))

-- tlbsx: the first match with STS and STID to a register, or nothing; tlbsx. tells in condition field 0 whether there is one
abbrev pub reported : Bool → Bool → Working → Working
reported rc hit w = cond rc (with_answer w hit) w

abbrev pub searched : ℕ → Bool → Option ℕ → Machine → Machine
searched rt rc None m = with_working m (next (reported rc false m.working))
searched rt rc (Some n) m = with_working m (next (reported rc true (with_gpr m.working rt n)))

-- a deed, carried out
abbrev pub carried_out : Privileged → Machine → Option Machine
carried_out (ReadMsr rt) m = Some (giving rt (msr_word m.shown.msr) m)
carried_out (WriteMsr v) m = Some (advanced (with_msr m (msr_from v)))
carried_out (WriteExternalEnable e) m = Some (advanced (with_msr m (with_ee m.shown.msr e)))
carried_out Return m = Some (returned m)
carried_out (ReadSpecial rt n) m = read_special rt (special_named n) m
carried_out (WriteSpecial n v) m = write_special (special_named n) v m
carried_out (ReadEntry rt n k) m = read_entry rt n (word_numbered k) m
carried_out (WriteEntry n k v) m = write_entry n (word_numbered k) v m
carried_out (SearchEntries rt a rc) m =
    Some (searched rt rc (found m.entries (record { space = m.hidden.mmucr.sts; pid = m.hidden.mmucr.stid; effective = a })) m)
carried_out Synchronize m = Some (advanced m)
