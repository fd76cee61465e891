-- The listed instructions, and what each opcode stands for, if anything. Assumes nothing.
use Rattle.std.specs.Prelude.{ℕ, ◌+◌, ◌%◌, Bool, true, false, Some, None, Option, List, [], ◌∷◌, ◌++◌, ◌==◌}
use Rattle.isa.specs.Opcodes.{immediate_opcode, logical_immediate_opcode, compare_immediate_opcode, rotate_opcode, load_opcode, store_opcode, branch_extended, condition_extended, bare_extended, arithmetic_extended, arithmetic_unary_extended, multiply_high_extended, logical_extended, logical_unary_extended, compare_extended, load_extended, store_extended, load_indexed_extended, store_indexed_extended, move_extended, special_extended, tlb_word_extended}
use Rattle.isa.specs.declared.instruction.ImmediateOp.TheVariants.{Addi, Addis, Addic, AddicRecord, Subfic, Mulli}
use Rattle.isa.specs.declared.instruction.LogicalImmediateOp.TheVariants.{AndiRecord, AndisRecord, Ori, Oris, Xori, Xoris}
use Rattle.isa.specs.declared.instruction.ArithmeticOp.TheVariants.{Add, Addc, Adde, Subf, Subfc, Subfe, Mullw, Divw, Divwu}
use Rattle.isa.specs.declared.instruction.ArithmeticUnaryOp.TheVariants.{Addme, Addze, Subfme, Subfze, Neg}
use Rattle.isa.specs.declared.instruction.MultiplyHighOp.TheVariants.{Mulhw, Mulhwu}
use Rattle.isa.specs.declared.instruction.LogicalOp.TheVariants.{And, Andc, Nand, Or, Orc, Nor, Xor, Eqv, Slw, Srw, Sraw}
use Rattle.isa.specs.declared.instruction.LogicalUnaryOp.TheVariants.{Extsb, Extsh, Cntlzw}
use Rattle.isa.specs.declared.instruction.RotateOp.TheVariants.{Rlwimi, Rlwinm, Rlwnm}
use Rattle.isa.specs.declared.instruction.Comparison.TheVariants.{Signed, Unsigned}
use Rattle.isa.specs.declared.instruction.LoadOp.TheVariants.{Lbz, Lhz, Lha, Lwz}
use Rattle.isa.specs.declared.instruction.StoreOp.TheVariants.{Stb, Sth, Stw}
use Rattle.isa.specs.declared.instruction.LoadIndexedOp.TheVariants.{Lhbrx, Lwbrx, Lwarx}
use Rattle.isa.specs.declared.instruction.StoreIndexedOp.TheVariants.{Sthbrx, Stwbrx}
use Rattle.isa.specs.declared.instruction.BranchTarget.TheVariants.{Link, Count}
use Rattle.isa.specs.declared.instruction.ConditionOp.TheVariants.{Crand, Crandc, Creqv, Crnand, Crnor, Cror, Crorc, Crxor}
use Rattle.isa.specs.declared.instruction.MoveOp.TheVariants.{Mfcr, Mfmsr, Mtmsr, Wrtee}
use Rattle.isa.specs.declared.instruction.SpecialOp.TheVariants.{Mfspr, Mtspr}
use Rattle.isa.specs.declared.instruction.TlbWordOp.TheVariants.{Tlbre, Tlbwe}
use Rattle.isa.specs.declared.instruction.BareOp.TheVariants.{Rfi, Isync, Msync, Tlbsync}
use Rattle.isa.specs.declared.table.Primary.{Primary}
use Rattle.isa.specs.declared.table.Primary.TheVariants as primary
use Rattle.isa.specs.declared.table.Nineteen.{Nineteen}
use Rattle.isa.specs.declared.table.Nineteen.TheVariants as nineteen
use Rattle.isa.specs.declared.table.Extended.{Extended}
use Rattle.isa.specs.declared.table.Extended.TheVariants as extended

-- what stands at a number in a list of forms, each with its number, if anything does
abbrev pub find : {X : Type 0} → ℕ → List (ℕ × X) → Option X
find k [] = None
find k (row ∷ rest) = elim (k == row.0) [ true ↦ Some row.1 | false ↦ find k rest ]

-- the rows of operations: one each, or two, without a flag and, some numbers on, with it
abbrev pub plain : {O X : Type 0} → (O → X) → (O → ℕ) → List O → List (ℕ × X)
plain e n [] = []
plain e n (op ∷ ops) = (n op, e op) ∷ plain e n ops

abbrev pub twins : {O X : Type 0} → ℕ → (O → Bool → X) → (O → ℕ) → List O → List (ℕ × X)
twins more e n [] = []
twins more e n (op ∷ ops) = (n op, e op false) ∷ (n op + more, e op true) ∷ twins more e n ops

-- the primary opcodes; a load or a store with update is the next one
abbrev pub listed_primary : List (ℕ × Primary)
listed_primary =
    plain primary.Immediate immediate_opcode (Addi ∷ Addis ∷ Addic ∷ AddicRecord ∷ Subfic ∷ Mulli ∷ [])
    ++ plain primary.LogicalImmediate logical_immediate_opcode (AndiRecord ∷ AndisRecord ∷ Ori ∷ Oris ∷ Xori ∷ Xoris ∷ [])
    ++ plain primary.CompareImmediate compare_immediate_opcode (Signed ∷ Unsigned ∷ [])
    ++ plain primary.Rotate rotate_opcode (Rlwimi ∷ Rlwinm ∷ Rlwnm ∷ [])
    ++ twins 1 primary.Load load_opcode (Lbz ∷ Lhz ∷ Lha ∷ Lwz ∷ [])
    ++ twins 1 primary.Store store_opcode (Stb ∷ Sth ∷ Stw ∷ [])
    ++ (3, primary.TrapImmediate) ∷ (16, primary.BranchConditional) ∷ (17, primary.SystemCall) ∷ (18, primary.Branch)
    ∷ (19, primary.Nineteen) ∷ (31, primary.Extended) ∷ []

unfoldable pub primary_at : ℕ → Option Primary
primary_at k = find k listed_primary

-- the extended opcodes under the primary opcode 19
abbrev pub listed_nineteen : List (ℕ × Nineteen)
listed_nineteen =
    plain nineteen.Branch branch_extended (Link ∷ Count ∷ [])
    ++ plain nineteen.ConditionLogical condition_extended (Crand ∷ Crandc ∷ Creqv ∷ Crnand ∷ Crnor ∷ Cror ∷ Crorc ∷ Crxor ∷ [])
    ++ plain nineteen.Bare bare_extended (Rfi ∷ Isync ∷ [])
    ++ (0, nineteen.MoveConditionField) ∷ []

abbrev pub nineteen_at : ℕ → Option Nineteen
nineteen_at k = find k listed_nineteen

-- the extended opcodes under the primary opcode 31: with OE an arithmetic one is 512 more, with update a load or a store is 32 more
abbrev pub listed_extended : List (ℕ × Extended)
listed_extended =
    twins 512 extended.Arithmetic arithmetic_extended (Add ∷ Addc ∷ Adde ∷ Subf ∷ Subfc ∷ Subfe ∷ Mullw ∷ Divw ∷ Divwu ∷ [])
    ++ twins 512 extended.ArithmeticUnary arithmetic_unary_extended (Addme ∷ Addze ∷ Subfme ∷ Subfze ∷ Neg ∷ [])
    ++ plain extended.MultiplyHigh multiply_high_extended (Mulhw ∷ Mulhwu ∷ [])
    ++ plain extended.Logical logical_extended (And ∷ Andc ∷ Nand ∷ Or ∷ Orc ∷ Nor ∷ Xor ∷ Eqv ∷ Slw ∷ Srw ∷ Sraw ∷ [])
    ++ plain extended.LogicalUnary logical_unary_extended (Extsb ∷ Extsh ∷ Cntlzw ∷ [])
    ++ plain extended.Compare compare_extended (Signed ∷ Unsigned ∷ [])
    ++ twins 32 extended.Load load_extended (Lbz ∷ Lhz ∷ Lha ∷ Lwz ∷ [])
    ++ twins 32 extended.Store store_extended (Stb ∷ Sth ∷ Stw ∷ [])
    ++ plain extended.LoadIndexed load_indexed_extended (Lhbrx ∷ Lwbrx ∷ Lwarx ∷ [])
    ++ plain extended.StoreIndexed store_indexed_extended (Sthbrx ∷ Stwbrx ∷ [])
    ++ plain extended.Move move_extended (Mfcr ∷ Mfmsr ∷ Mtmsr ∷ Wrtee ∷ [])
    ++ plain extended.MoveSpecial special_extended (Mfspr ∷ Mtspr ∷ [])
    ++ plain extended.TlbWord tlb_word_extended (Tlbre ∷ Tlbwe ∷ [])
    ++ plain extended.Bare bare_extended (Msync ∷ Tlbsync ∷ [])
    ++ (4, extended.Trap) ∷ (144, extended.MoveToConditionFields) ∷ (150, extended.StoreConditional)
    ∷ (163, extended.WriteExternalEnable) ∷ (512, extended.MoveFromXer) ∷ (824, extended.ShiftRightImmediate)
    ∷ (854, extended.Barrier) ∷ (914, extended.TlbSearch) ∷ []

-- isel has each number whose low five bits are 15: the five bits above them are the condition bit
unfoldable pub extended_at : ℕ → Option Extended
extended_at k = elim (k % 32 == 15) [ true ↦ Some extended.Select | false ↦ find k listed_extended ]
