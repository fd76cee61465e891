-- Registers that are all zero, and what a new machine keeps.
use Rattle.std.proofs.Common.{◌≡◌, ℕ, ◌<◌, List, false, replicate, refl, sym, ◌∙◌, rules, arith}
use Rattle.std.proofs.lemmas.List.{ext_get_or, get_or-replicate, length-replicate}
use Rattle.std.proofs.lemmas.List.Elements.{All-replicate}
use Rattle.std.proofs.lemmas.Grind.{common_steps}
use Rattle.std.specs.Array.{AllOfLen}
use Rattle.cpu.specs.declared.registers.Working.{Working}
use Rattle.cpu.specs.declared.registers.Shown.{Shown}
use Rattle.cpu.specs.declared.registers.Msr.{Msr}
use Rattle.cpu.specs.declared.registers.Xer.{Xer}
use Rattle.pages.specs.Entries.{blank, Kept}
use Rattle.core465.specs.declared.hidden.Hidden.{Hidden}
use Rattle.core465.specs.declared.hidden.Saved.{Saved}
use Rattle.core465.specs.Hidden.{VectorKept}
use Rattle.core465.specs.Machine.{MachineKept, new_machine}

abbrev Zeros : List ℕ → ℕ → Type 0
Zeros = AllOfLen (λ x. x ≡ 0)

abbrev ZeroXer : Xer → Type 0
ZeroXer x = (x.so ≡ false) × ((x.ov ≡ false) × ((x.ca ≡ false) × ((x.count ≡ 0))))

abbrev ZeroMsr : Msr → Type 0
ZeroMsr m = (m.ce ≡ false) × ((m.ee ≡ false) × ((m.pr ≡ false) × ((m.me ≡ false) × ((m.de ≡ false) × ((m.is ≡ false) × ((m.ds ≡ false)))))))

abbrev ZeroSaved : Saved → Type 0
ZeroSaved s = (s.srr0 ≡ 0) × (ZeroMsr s.srr1 × ((s.esr ≡ 0) × ((s.dear ≡ 0))))

zeros : (xs : List ℕ) (n : ℕ) → Zeros xs n → xs ≡ replicate n 0
zeros xs n z =
    ext_get_or 0 xs (replicate n 0) (z.long ∙ sym (length-replicate n 0))
    (λ i h. let e = z.long in let l : i < n = omega arith in z.at i 0 l ∙ sym (get_or-replicate n i 0 0 l))

pub zero_working : (w : Working) → Zeros w.gpr 32 × ((w.cr ≡ 0) × (ZeroXer w.xer × ((w.lr ≡ 0) × ((w.ctr ≡ 0) × ((w.usprg0 ≡ 0) × ((w.pc ≡ 0) × ((w.reserved ≡ false)))))))) → w ≡ new_machine.working
unfolding new_machine
zero_working w z = let e = zeros w.gpr 32 z.0 in grind (arith, common_steps)

pub zero_shown : (v : Shown) → ZeroMsr v.msr × (Zeros v.sprg 4 × ((v.line ≡ false))) → v ≡ new_machine.shown
unfolding new_machine
zero_shown v z = let e = zeros v.sprg 4 z.1.0 in grind (arith, common_steps)

pub zero_hidden : (h : Hidden) → ZeroSaved h.saved × ((h.pid ≡ 0) × (((h.mmucr.sts ≡ false) × (h.mmucr.stid ≡ 0)) × ((h.ivpr ≡ 0) × (Zeros h.ivor 16 × (Zeros h.sprg 4))))) → h ≡ new_machine.hidden
unfolding new_machine
zero_hidden h z =
    let e = zeros h.ivor 16 z.1.1.1.1.0 in
    let f = zeros h.sprg 4 z.1.1.1.1.1 in
    grind (arith, common_steps)

pub new_kept : MachineKept new_machine
unfolding new_machine
new_kept = record {
  working = search rules;
  saved = (refl, refl);
  task = (refl, refl);
  vectors = (refl, All-replicate VectorKept 16 0 refl);
  entries = All-replicate Kept 64 blank refl;
  count = length-replicate 64 blank;
}
