-- The ranges of the fields of an instruction. Assumes nothing.
use Rattle.std.specs.Prelude.{ℕ, ◌<◌, Some, None, Option}
use Rattle.isa.specs.declared.instruction.Offset.{Offset}
use Rattle.isa.specs.declared.instruction.Offset.TheVariants.{Displacement, Index}
use Rattle.isa.specs.declared.instruction.Instruction.{Instruction}
use Rattle.isa.specs.declared.instruction.Instruction.TheVariants.{Immediate, LogicalImmediate, CompareImmediate, TrapImmediate, Load, Store, Branch, BranchConditional, BranchRegister, SystemCall, Rotate, ConditionLogical, MoveConditionField, Bare, Arithmetic, ArithmeticUnary, MultiplyHigh, Logical, LogicalUnary, ShiftRightImmediate, Select, Compare, Trap, LoadIndexed, StoreIndexed, StoreConditional, MoveFromXer, Move, WriteExternalEnable, MoveToConditionFields, MoveSpecial, TlbWord, TlbSearch, Barrier}

-- one, two or three fields of five bits: registers, bits of the condition register, amounts
abbrev pub Fives : ℕ → ℕ → ℕ → Type 0
Fives a b c = (a < 32) × (b < 32) × (c < 32)

abbrev pub OffsetInRange : Offset → Type 0
OffsetInRange (Displacement d) = d < 0x10000
OffsetInRange (Index rb) = rb < 32

abbrev pub InRange : Instruction → Type 0
InRange (Immediate i) = (i.rt < 32) × (i.ra < 32) × (i.immediate < 0x10000)
InRange (LogicalImmediate i) = (i.ra < 32) × (i.rs < 32) × (i.immediate < 0x10000)
InRange (CompareImmediate i) = (i.field < 8) × (i.ra < 32) × (i.immediate < 0x10000)
InRange (TrapImmediate i) = (i.conditions < 32) × (i.ra < 32) × (i.immediate < 0x10000)
InRange (Load i) = (i.rt < 32) × (i.ra < 32) × OffsetInRange i.offset
InRange (Store i) = (i.rs < 32) × (i.ra < 32) × OffsetInRange i.offset
InRange (Branch i) = i.displacement < 0x1000000
InRange (BranchConditional i) = (i.options < 32) × (i.bit < 32) × (i.displacement < 0x4000)
InRange (BranchRegister i) = (i.options < 32) × (i.bit < 32)
InRange SystemCall = Unit {0}
InRange (Rotate i) = (i.ra < 32) × (i.rs < 32) × (i.amount < 32) × (i.begin < 32) × (i.end < 32)
InRange (ConditionLogical i) = Fives i.target i.first i.second
InRange (MoveConditionField i) = (i.to < 8) × (i.from < 8)
InRange (Bare op) = Unit {0}
InRange (Arithmetic i) = Fives i.rt i.ra i.rb
InRange (ArithmeticUnary i) = (i.rt < 32) × (i.ra < 32)
InRange (MultiplyHigh i) = Fives i.rt i.ra i.rb
InRange (Logical i) = Fives i.ra i.rs i.rb
InRange (LogicalUnary i) = (i.ra < 32) × (i.rs < 32)
InRange (ShiftRightImmediate i) = Fives i.ra i.rs i.amount
InRange (Select i) = (i.rt < 32) × (i.ra < 32) × (i.rb < 32) × (i.bit < 32)
InRange (Compare i) = (i.field < 8) × (i.ra < 32) × (i.rb < 32)
InRange (Trap i) = Fives i.conditions i.ra i.rb
InRange (LoadIndexed i) = Fives i.rt i.ra i.rb
InRange (StoreIndexed i) = Fives i.rs i.ra i.rb
InRange (StoreConditional i) = Fives i.rs i.ra i.rb
InRange (MoveFromXer field) = field < 8
InRange (Move i) = i.register < 32
InRange (WriteExternalEnable enable) = Unit {0}
InRange (MoveToConditionFields i) = (i.mask < 256) × (i.rs < 32)
InRange (MoveSpecial i) = (i.register < 32) × (i.number < 1024)
InRange (TlbWord i) = (i.register < 32) × (i.ra < 32) × (i.word < 3)
InRange (TlbSearch i) = Fives i.rt i.ra i.rb
InRange (Barrier ordering) = ordering < 32

-- a decoded instruction, where there is one, has its fields in range
abbrev pub DecodedInRange : Option Instruction → Type 0
DecodedInRange None = Unit {0}
DecodedInRange (Some i) = InRange i
