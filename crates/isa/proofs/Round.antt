-- Nothing is lost, and what a word reads as is in range. Assumes nothing.
use Rattle.std.proofs.Common.{◌≡◌, ℕ, ◌^◌, ◌<◌, Some, None, Option}
use Rattle.isa.specs.declared.instruction.Instruction.{Instruction}
use Rattle.isa.specs.Decoded.{decoded}
use Rattle.isa.specs.Lossless.{Lossless}
use Rattle.isa.specs.Ranges.{DecodedInRange}
use Rattle.isa.proofs.Reading.{reading}
use Rattle.isa.proofs.Writing.{written}

pub lossless : Lossless
lossless w fits i = (reading w fits i, λ h. (written i w h).0)

pub in_range : (w : ℕ) → w < 2 ^ 32 → (o : Option Instruction) → o ≡ decoded w → DecodedInRange o
in_range w fits None e = tt
in_range w fits (Some i) e = (written i w (reading w fits i (cc))).1
