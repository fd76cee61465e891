-- What an integer operation gives, from its operands: a word, the carry that stands after it, and whether it overflowed.
-- Assumes nothing.
use Rattle.std.specs.Prelude.{ℕ, ◌+◌, ◌*◌, ◌%◌, Bool, true, false, Some, None, Option, bit_and, bit_or, bit_xor}
use Rattle.std.specs.Int.Count.{count_leading_zeros}
use Rattle.isa.specs.declared.instruction.ImmediateOp.{ImmediateOp}
use Rattle.isa.specs.declared.instruction.ImmediateOp.TheVariants.{Addi, Addis, Addic, AddicRecord, Subfic, Mulli}
use Rattle.isa.specs.declared.instruction.LogicalImmediateOp.{LogicalImmediateOp}
use Rattle.isa.specs.declared.instruction.LogicalImmediateOp.TheVariants.{AndiRecord, AndisRecord, Ori, Oris, Xori, Xoris}
use Rattle.isa.specs.declared.instruction.ArithmeticOp.{ArithmeticOp}
use Rattle.isa.specs.declared.instruction.ArithmeticOp.TheVariants.{Add, Addc, Adde, Subf, Subfc, Subfe, Mullw, Divw, Divwu}
use Rattle.isa.specs.declared.instruction.ArithmeticUnaryOp.{ArithmeticUnaryOp}
use Rattle.isa.specs.declared.instruction.ArithmeticUnaryOp.TheVariants.{Addme, Addze, Subfme, Subfze, Neg}
use Rattle.isa.specs.declared.instruction.MultiplyHighOp.{MultiplyHighOp}
use Rattle.isa.specs.declared.instruction.MultiplyHighOp.TheVariants.{Mulhw, Mulhwu}
use Rattle.isa.specs.declared.instruction.LogicalOp.{LogicalOp}
use Rattle.isa.specs.declared.instruction.LogicalOp.TheVariants.{And, Andc, Nand, Or, Orc, Nor, Xor, Eqv, Slw, Srw, Sraw}
use Rattle.isa.specs.declared.instruction.LogicalUnaryOp.{LogicalUnaryOp}
use Rattle.isa.specs.declared.instruction.LogicalUnaryOp.TheVariants.{Extsb, Extsh, Cntlzw}
use Rattle.isa.specs.declared.instruction.RotateOp.{RotateOp}
use Rattle.isa.specs.declared.instruction.RotateOp.TheVariants.{Rlwimi, Rlwinm, Rlwnm}
use Rattle.word.specs.declared.arithmetic.Outcome.{Outcome}
use Rattle.word.specs.Words.{wrap, inverted, extended}
use Rattle.word.specs.Sums.{added}
use Rattle.word.specs.Products.{product_low, product_high, product_high_signed, product_overflows, quotient, quotient_signed}
use Rattle.word.specs.Shifts.{shifted_left, shifted_right, shifted_algebraic}
use Rattle.word.specs.Conditions.{merged}

-- an outcome that leaves the carry; a word alone
abbrev pub keeping : Outcome → Bool → Outcome
keeping o ca = record { value = o.value; carry = ca; overflow = o.overflow }

abbrev pub plain : ℕ → Bool → Outcome
plain v ca = record { value = v; carry = ca; overflow = false }

-- an undefined quotient is zero, and overflows
abbrev pub of_quotient : Option ℕ → Bool → Outcome
of_quotient (Some q) ca = plain q ca
of_quotient None ca = record { value = 0; carry = ca; overflow = true }

-- an immediate is extended by its sign; addis shifts it into the upper half
abbrev pub immediate_outcome : ImmediateOp → ℕ → ℕ → Bool → Outcome
immediate_outcome Addi a i ca = plain (wrap (a + extended 16 (i % 0x10000))) ca
immediate_outcome Addis a i ca = plain (wrap (a + i % 0x10000 * 0x10000)) ca
immediate_outcome Addic a i ca = added a (extended 16 (i % 0x10000)) false
immediate_outcome AddicRecord a i ca = added a (extended 16 (i % 0x10000)) false
immediate_outcome Subfic a i ca = added (inverted a) (extended 16 (i % 0x10000)) true
immediate_outcome Mulli a i ca = plain (product_low a (extended 16 (i % 0x10000))) ca

-- a difference b - a is b and the inverse of a and one more
abbrev pub arithmetic_outcome : ArithmeticOp → ℕ → ℕ → Bool → Outcome
arithmetic_outcome Add a b ca = keeping (added a b false) ca
arithmetic_outcome Addc a b ca = added a b false
arithmetic_outcome Adde a b ca = added a b ca
arithmetic_outcome Subf a b ca = keeping (added (inverted a) b true) ca
arithmetic_outcome Subfc a b ca = added (inverted a) b true
arithmetic_outcome Subfe a b ca = added (inverted a) b ca
arithmetic_outcome Mullw a b ca = record { value = product_low a b; carry = ca; overflow = product_overflows a b }
arithmetic_outcome Divw a b ca = of_quotient (quotient_signed a b) ca
arithmetic_outcome Divwu a b ca = of_quotient (quotient a b) ca

abbrev pub arithmetic_unary_outcome : ArithmeticUnaryOp → ℕ → Bool → Outcome
arithmetic_unary_outcome Addme a ca = added a 0xFFFFFFFF ca
arithmetic_unary_outcome Addze a ca = added a 0 ca
arithmetic_unary_outcome Subfme a ca = added (inverted a) 0xFFFFFFFF ca
arithmetic_unary_outcome Subfze a ca = added (inverted a) 0 ca
arithmetic_unary_outcome Neg a ca = keeping (added (inverted a) 0 true) ca

abbrev pub multiply_high_value : MultiplyHighOp → ℕ → ℕ → ℕ
multiply_high_value Mulhw a b = product_high_signed a b
multiply_high_value Mulhwu a b = product_high a b

abbrev pub logical_outcome : LogicalOp → ℕ → ℕ → Bool → Outcome
logical_outcome And s b ca = plain (bit_and s b) ca
logical_outcome Andc s b ca = plain (bit_and s (inverted b)) ca
logical_outcome Nand s b ca = plain (inverted (bit_and s b)) ca
logical_outcome Or s b ca = plain (bit_or s b) ca
logical_outcome Orc s b ca = plain (bit_or s (inverted b)) ca
logical_outcome Nor s b ca = plain (inverted (bit_or s b)) ca
logical_outcome Xor s b ca = plain (bit_xor s b) ca
logical_outcome Eqv s b ca = plain (inverted (bit_xor s b)) ca
logical_outcome Slw s b ca = plain (shifted_left s b) ca
logical_outcome Srw s b ca = plain (shifted_right s b) ca
logical_outcome Sraw s b ca = shifted_algebraic s b

abbrev pub logical_unary_value : LogicalUnaryOp → ℕ → ℕ
logical_unary_value Extsb s = extended 8 (s % 0x100)
logical_unary_value Extsh s = extended 16 (s % 0x10000)
logical_unary_value Cntlzw s = count_leading_zeros 32 s

-- the immediate is the low half, or with an s the upper half
abbrev pub logical_immediate_value : LogicalImmediateOp → ℕ → ℕ → ℕ
logical_immediate_value AndiRecord s i = bit_and s (i % 0x10000)
logical_immediate_value AndisRecord s i = bit_and s (i % 0x10000 * 0x10000)
logical_immediate_value Ori s i = bit_or s (i % 0x10000)
logical_immediate_value Oris s i = bit_or s (i % 0x10000 * 0x10000)
logical_immediate_value Xori s i = bit_xor s (i % 0x10000)
logical_immediate_value Xoris s i = bit_xor s (i % 0x10000 * 0x10000)

-- a rotated word under a mask; rlwimi keeps the old word outside it
abbrev pub rotate_value : RotateOp → ℕ → ℕ → ℕ → ℕ
rotate_value Rlwimi old r m = merged old r m
rotate_value Rlwinm old r m = bit_and r m
rotate_value Rlwnm old r m = bit_and r m
