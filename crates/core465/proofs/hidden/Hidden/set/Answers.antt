use Rattle.std.proofs.Common.{◌≡◌, ℕ, ◌%◌, bit_and, ap, ◌∙◌, arith, rules}
use Rattle.std.proofs.lemmas.Nat.{and_assoc}
use Rattle.std.specs.Int.Bits.{and_self}
use Rattle.core465.specs.Hidden.{ivor_bits, VectorKept}
use Rattle.std.proofs.lemmas.List.Elements.{All-set}
use Rattle.core465.proofs.hidden.Hidden.set.Goals as goal

pub returns-in-Esr : goal.returns-in-Esr
returns-in-Esr c =
    let v = c.args.value in
    let m : ℕ = 0x0E80_0000 in
    record { after = search rules; kept = λ h. ((h.0.0, and_assoc m v m ∙ ap (bit_and v) (and_self m)), h.1, h.2) }

pub returns-in-Ivor : goal.returns-in-Ivor
returns-in-Ivor c =
    let e : ivor_bits (ivor_bits c.args.value) ≡ ivor_bits c.args.value = omega arith in
    record {
      after = search rules;
      kept = λ h. (h.0, h.1, (h.2.0, All-set VectorKept c.args.self.now.ivor (c.in-Ivor.k % 16) (ivor_bits c.args.value) e h.2.1));
    }
