-- The word of an instruction, or none where no word stands for it. Assumes nothing.
use Rattle.std.specs.Prelude.{ℕ, ◌+◌, ◌*◌, ◌/◌, ◌%◌, Bool, true, false, ◌&&◌, Some, Option, nat_lt}
use Rattle.isa.specs.Fields.{bit, given, half_form, extended_form}
use Rattle.isa.specs.Valid.{load_valid, store_valid, options_valid, branch_valid}
use Rattle.isa.specs.Opcodes.{immediate_opcode, logical_immediate_opcode, compare_immediate_opcode, rotate_opcode, load_opcode, store_opcode, branch_extended, condition_extended, bare_opcode, bare_extended, arithmetic_extended, arithmetic_unary_extended, multiply_high_extended, logical_extended, logical_unary_extended, compare_extended, load_extended, store_extended, load_indexed_extended, store_indexed_extended, move_extended, special_extended, tlb_word_extended}
use Rattle.isa.specs.declared.instruction.Offset.{Offset}
use Rattle.isa.specs.declared.instruction.Offset.TheVariants.{Displacement, Index}
use Rattle.isa.specs.declared.instruction.Instruction.{Instruction}
use Rattle.isa.specs.declared.instruction.Instruction.TheVariants.{Immediate, LogicalImmediate, CompareImmediate, TrapImmediate, Load, Store, Branch, BranchConditional, BranchRegister, SystemCall, Rotate, ConditionLogical, MoveConditionField, Bare, Arithmetic, ArithmeticUnary, MultiplyHigh, Logical, LogicalUnary, ShiftRightImmediate, Select, Compare, Trap, LoadIndexed, StoreIndexed, StoreConditional, MoveFromXer, Move, WriteExternalEnable, MoveToConditionFields, MoveSpecial, TlbWord, TlbSearch, Barrier}

-- the word of a load or a store by its offset: of its opcodes without update, the register that it moves and its base
abbrev pub access_word : ℕ → ℕ → ℕ → ℕ → Offset → Bool → Option ℕ
access_word p x register ra (Displacement d) update = half_form (p + bit update) register ra d
access_word p x register ra (Index rb) update = extended_form 31 register ra rb (x + 32 * bit update) false

-- the forms check registers and opcodes; what a field is made of is checked here
abbrev pub encoded : Instruction → Option ℕ
encoded (Immediate i) = half_form (immediate_opcode i.op) i.rt i.ra i.immediate
encoded (LogicalImmediate i) = half_form (logical_immediate_opcode i.op) i.rs i.ra i.immediate
encoded (CompareImmediate i) =
    given (nat_lt i.field 8) (half_form (compare_immediate_opcode i.comparison) (i.field * 4) i.ra i.immediate)
encoded (TrapImmediate i) = half_form 3 i.conditions i.ra i.immediate
encoded (Load i) = given (load_valid i.update i.rt i.ra) (access_word (load_opcode i.op) (load_extended i.op) i.rt i.ra i.offset i.update)
encoded (Store i) = given (store_valid i.update i.ra) (access_word (store_opcode i.op) (store_extended i.op) i.rs i.ra i.offset i.update)
encoded (Branch i) =
    given (nat_lt i.displacement 0x1000000) (Some (0x48000000 + i.displacement * 4 + bit i.absolute * 2 + bit i.link))
encoded (BranchConditional i) =
    given (options_valid i.options && nat_lt i.displacement 0x4000) (half_form 16 i.options i.bit (i.displacement * 4 + bit i.absolute * 2 + bit i.link))
encoded (BranchRegister i) =
    given (branch_valid i.target i.options) (extended_form 19 i.options i.bit 0 (branch_extended i.target) i.link)
encoded SystemCall = Some 0x44000002
encoded (Rotate i) =
    given (nat_lt i.begin 32 && nat_lt i.end 32) (extended_form (rotate_opcode i.op) i.rs i.ra i.amount (i.begin * 32 + i.end) i.rc)
encoded (ConditionLogical i) = extended_form 19 i.target i.first i.second (condition_extended i.op) false
encoded (MoveConditionField i) =
    given (nat_lt i.to 8 && nat_lt i.from 8) (extended_form 19 (i.to * 4) (i.from * 4) 0 0 false)
encoded (Bare op) = extended_form (bare_opcode op) 0 0 0 (bare_extended op) false
encoded (Arithmetic i) = extended_form 31 i.rt i.ra i.rb (arithmetic_extended i.op + 512 * bit i.oe) i.rc
encoded (ArithmeticUnary i) = extended_form 31 i.rt i.ra 0 (arithmetic_unary_extended i.op + 512 * bit i.oe) i.rc
encoded (MultiplyHigh i) = extended_form 31 i.rt i.ra i.rb (multiply_high_extended i.op) i.rc
encoded (Logical i) = extended_form 31 i.rs i.ra i.rb (logical_extended i.op) i.rc
encoded (LogicalUnary i) = extended_form 31 i.rs i.ra 0 (logical_unary_extended i.op) i.rc
encoded (ShiftRightImmediate i) = extended_form 31 i.rs i.ra i.amount 824 i.rc
encoded (Select i) = given (nat_lt i.bit 32) (extended_form 31 i.rt i.ra i.rb (i.bit * 32 + 15) false)
encoded (Compare i) =
    given (nat_lt i.field 8) (extended_form 31 (i.field * 4) i.ra i.rb (compare_extended i.comparison) false)
encoded (Trap i) = extended_form 31 i.conditions i.ra i.rb 4 false
encoded (LoadIndexed i) = extended_form 31 i.rt i.ra i.rb (load_indexed_extended i.op) false
encoded (StoreIndexed i) = extended_form 31 i.rs i.ra i.rb (store_indexed_extended i.op) false
encoded (StoreConditional i) = extended_form 31 i.rs i.ra i.rb 150 true
encoded (MoveFromXer field) = given (nat_lt field 8) (extended_form 31 (field * 4) 0 0 512 false)
encoded (Move i) = extended_form 31 i.register 0 0 (move_extended i.op) false
encoded (WriteExternalEnable enable) = extended_form 31 0 0 (bit enable * 16) 163 false
encoded (MoveToConditionFields i) =
    given (nat_lt i.mask 256) (extended_form 31 i.rs (i.mask / 16) (i.mask % 16 * 2) 144 false)
encoded (MoveSpecial i) =
    given (nat_lt i.number 1024) (extended_form 31 i.register (i.number % 32) (i.number / 32) (special_extended i.op) false)
encoded (TlbWord i) =
    given (nat_lt i.word 3) (extended_form 31 i.register i.ra i.word (tlb_word_extended i.op) false)
encoded (TlbSearch i) = extended_form 31 i.rt i.ra i.rb 914 i.rc
encoded (Barrier ordering) = extended_form 31 ordering 0 0 854 false
