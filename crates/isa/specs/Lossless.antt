-- Nothing is lost between words and instructions: a word reads as an instruction exactly where the instruction is
-- written as that word. Assumes nothing.
use Rattle.std.specs.Prelude.{◌≡◌, ℕ, ◌^◌, ◌<◌, Some}
use Rattle.isa.specs.declared.instruction.Instruction.{Instruction}
use Rattle.isa.specs.Decoded.{decoded}
use Rattle.isa.specs.Encoded.{encoded}

-- for every word of 32 bits and every instruction
abbrev pub Lossless : Type 0
Lossless = (w : ℕ) → w < 2 ^ 32 → (i : Instruction) → (decoded w ≡ Some i → encoded i ≡ Some w) × (encoded i ≡ Some w → decoded w ≡ Some i)
