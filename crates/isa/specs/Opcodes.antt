-- The opcode of each operation: the primary opcode, or the extended opcode under the primary opcode 19 or 31. Assumes nothing.
use Rattle.std.specs.Prelude.{ℕ}
use Rattle.isa.specs.declared.instruction.ImmediateOp.{ImmediateOp}
use Rattle.isa.specs.declared.instruction.ImmediateOp.TheVariants.{Addi, Addis, Addic, AddicRecord, Subfic, Mulli}
use Rattle.isa.specs.declared.instruction.LogicalImmediateOp.{LogicalImmediateOp}
use Rattle.isa.specs.declared.instruction.LogicalImmediateOp.TheVariants.{AndiRecord, AndisRecord, Ori, Oris, Xori, Xoris}
use Rattle.isa.specs.declared.instruction.ArithmeticOp.{ArithmeticOp}
use Rattle.isa.specs.declared.instruction.ArithmeticOp.TheVariants.{Add, Addc, Adde, Subf, Subfc, Subfe, Mullw, Divw, Divwu}
use Rattle.isa.specs.declared.instruction.ArithmeticUnaryOp.{ArithmeticUnaryOp}
use Rattle.isa.specs.declared.instruction.ArithmeticUnaryOp.TheVariants.{Addme, Addze, Subfme, Subfze, Neg}
use Rattle.isa.specs.declared.instruction.MultiplyHighOp.{MultiplyHighOp}
use Rattle.isa.specs.declared.instruction.MultiplyHighOp.TheVariants.{Mulhw, Mulhwu}
use Rattle.isa.specs.declared.instruction.LogicalOp.{LogicalOp}
use Rattle.isa.specs.declared.instruction.LogicalOp.TheVariants.{And, Andc, Nand, Or, Orc, Nor, Xor, Eqv, Slw, Srw, Sraw}
use Rattle.isa.specs.declared.instruction.LogicalUnaryOp.{LogicalUnaryOp}
use Rattle.isa.specs.declared.instruction.LogicalUnaryOp.TheVariants.{Extsb, Extsh, Cntlzw}
use Rattle.isa.specs.declared.instruction.RotateOp.{RotateOp}
use Rattle.isa.specs.declared.instruction.RotateOp.TheVariants.{Rlwimi, Rlwinm, Rlwnm}
use Rattle.isa.specs.declared.instruction.Comparison.{Comparison}
use Rattle.isa.specs.declared.instruction.Comparison.TheVariants.{Signed, Unsigned}
use Rattle.isa.specs.declared.instruction.LoadOp.{LoadOp}
use Rattle.isa.specs.declared.instruction.LoadOp.TheVariants.{Lbz, Lhz, Lha, Lwz}
use Rattle.isa.specs.declared.instruction.StoreOp.{StoreOp}
use Rattle.isa.specs.declared.instruction.StoreOp.TheVariants.{Stb, Sth, Stw}
use Rattle.isa.specs.declared.instruction.LoadIndexedOp.{LoadIndexedOp}
use Rattle.isa.specs.declared.instruction.LoadIndexedOp.TheVariants.{Lhbrx, Lwbrx, Lwarx}
use Rattle.isa.specs.declared.instruction.StoreIndexedOp.{StoreIndexedOp}
use Rattle.isa.specs.declared.instruction.StoreIndexedOp.TheVariants.{Sthbrx, Stwbrx}
use Rattle.isa.specs.declared.instruction.BranchTarget.{BranchTarget}
use Rattle.isa.specs.declared.instruction.BranchTarget.TheVariants.{Link, Count}
use Rattle.isa.specs.declared.instruction.ConditionOp.{ConditionOp}
use Rattle.isa.specs.declared.instruction.ConditionOp.TheVariants.{Crand, Crandc, Creqv, Crnand, Crnor, Cror, Crorc, Crxor}
use Rattle.isa.specs.declared.instruction.MoveOp.{MoveOp}
use Rattle.isa.specs.declared.instruction.MoveOp.TheVariants.{Mfcr, Mfmsr, Mtmsr, Wrtee}
use Rattle.isa.specs.declared.instruction.SpecialOp.{SpecialOp}
use Rattle.isa.specs.declared.instruction.SpecialOp.TheVariants.{Mfspr, Mtspr}
use Rattle.isa.specs.declared.instruction.TlbWordOp.{TlbWordOp}
use Rattle.isa.specs.declared.instruction.TlbWordOp.TheVariants.{Tlbre, Tlbwe}
use Rattle.isa.specs.declared.instruction.BareOp.{BareOp}
use Rattle.isa.specs.declared.instruction.BareOp.TheVariants.{Rfi, Isync, Msync, Tlbsync}

-- primary opcodes

abbrev pub immediate_opcode : ImmediateOp → ℕ
immediate_opcode Mulli = 7
immediate_opcode Subfic = 8
immediate_opcode Addic = 12
immediate_opcode AddicRecord = 13
immediate_opcode Addi = 14
immediate_opcode Addis = 15

abbrev pub logical_immediate_opcode : LogicalImmediateOp → ℕ
logical_immediate_opcode Ori = 24
logical_immediate_opcode Oris = 25
logical_immediate_opcode Xori = 26
logical_immediate_opcode Xoris = 27
logical_immediate_opcode AndiRecord = 28
logical_immediate_opcode AndisRecord = 29

abbrev pub compare_immediate_opcode : Comparison → ℕ
compare_immediate_opcode Unsigned = 10
compare_immediate_opcode Signed = 11

abbrev pub rotate_opcode : RotateOp → ℕ
rotate_opcode Rlwimi = 20
rotate_opcode Rlwinm = 21
rotate_opcode Rlwnm = 23

-- of a load or a store without its update: one more with it
abbrev pub load_opcode : LoadOp → ℕ
load_opcode Lwz = 32
load_opcode Lbz = 34
load_opcode Lhz = 40
load_opcode Lha = 42

abbrev pub store_opcode : StoreOp → ℕ
store_opcode Stw = 36
store_opcode Stb = 38
store_opcode Sth = 44

-- extended opcodes under the primary opcode 19

abbrev pub branch_extended : BranchTarget → ℕ
branch_extended Link = 16
branch_extended Count = 528

abbrev pub condition_extended : ConditionOp → ℕ
condition_extended Crnor = 33
condition_extended Crandc = 129
condition_extended Crxor = 193
condition_extended Crnand = 225
condition_extended Crand = 257
condition_extended Creqv = 289
condition_extended Crorc = 417
condition_extended Cror = 449

-- the primary opcode of an instruction without operands, and its extended opcode
abbrev pub bare_opcode : BareOp → ℕ
bare_opcode Rfi = 19
bare_opcode Isync = 19
bare_opcode Msync = 31
bare_opcode Tlbsync = 31

abbrev pub bare_extended : BareOp → ℕ
bare_extended Rfi = 50
bare_extended Isync = 150
bare_extended Tlbsync = 566
bare_extended Msync = 598

-- extended opcodes under the primary opcode 31

-- of arithmetic without OE: 512 more with it
abbrev pub arithmetic_extended : ArithmeticOp → ℕ
arithmetic_extended Subfc = 8
arithmetic_extended Addc = 10
arithmetic_extended Subf = 40
arithmetic_extended Subfe = 136
arithmetic_extended Adde = 138
arithmetic_extended Mullw = 235
arithmetic_extended Add = 266
arithmetic_extended Divwu = 459
arithmetic_extended Divw = 491

abbrev pub arithmetic_unary_extended : ArithmeticUnaryOp → ℕ
arithmetic_unary_extended Neg = 104
arithmetic_unary_extended Subfze = 200
arithmetic_unary_extended Addze = 202
arithmetic_unary_extended Subfme = 232
arithmetic_unary_extended Addme = 234

abbrev pub multiply_high_extended : MultiplyHighOp → ℕ
multiply_high_extended Mulhwu = 11
multiply_high_extended Mulhw = 75

abbrev pub logical_extended : LogicalOp → ℕ
logical_extended Slw = 24
logical_extended And = 28
logical_extended Andc = 60
logical_extended Nor = 124
logical_extended Eqv = 284
logical_extended Xor = 316
logical_extended Orc = 412
logical_extended Or = 444
logical_extended Nand = 476
logical_extended Srw = 536
logical_extended Sraw = 792

abbrev pub logical_unary_extended : LogicalUnaryOp → ℕ
logical_unary_extended Cntlzw = 26
logical_unary_extended Extsh = 922
logical_unary_extended Extsb = 954

abbrev pub compare_extended : Comparison → ℕ
compare_extended Signed = 0
compare_extended Unsigned = 32

-- of a load or a store without its update: 32 more with it
abbrev pub load_extended : LoadOp → ℕ
load_extended Lwz = 23
load_extended Lbz = 87
load_extended Lhz = 279
load_extended Lha = 343

abbrev pub store_extended : StoreOp → ℕ
store_extended Stw = 151
store_extended Stb = 215
store_extended Sth = 407

abbrev pub load_indexed_extended : LoadIndexedOp → ℕ
load_indexed_extended Lwarx = 20
load_indexed_extended Lwbrx = 534
load_indexed_extended Lhbrx = 790

abbrev pub store_indexed_extended : StoreIndexedOp → ℕ
store_indexed_extended Stwbrx = 662
store_indexed_extended Sthbrx = 918

abbrev pub move_extended : MoveOp → ℕ
move_extended Mfcr = 19
move_extended Mfmsr = 83
move_extended Wrtee = 131
move_extended Mtmsr = 146

abbrev pub special_extended : SpecialOp → ℕ
special_extended Mfspr = 339
special_extended Mtspr = 467

abbrev pub tlb_word_extended : TlbWordOp → ℕ
tlb_word_extended Tlbre = 946
tlb_word_extended Tlbwe = 978
