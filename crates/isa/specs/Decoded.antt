-- The instruction that a word stands for, or none where the word is illegal. Assumes nothing.
use Rattle.std.specs.Prelude.{ℕ, ◌+◌, ◌*◌, ◌/◌, ◌%◌, Bool, not, ◌&&◌, Some, Option, option_and_then, ◌==◌, nat_lt}
use Rattle.std.specs.Bool.{then_some}
use Rattle.isa.specs.declared.fields.Fields.{Fields}
use Rattle.isa.specs.Fields.{primary_of, fields_of, given}
use Rattle.isa.specs.Listed.{primary_at, nineteen_at, extended_at}
use Rattle.isa.specs.Valid.{load_valid, store_valid, options_valid, branch_valid}
use Rattle.isa.specs.declared.table.Primary.{Primary}
use Rattle.isa.specs.declared.table.Primary.TheVariants as primary
use Rattle.isa.specs.declared.table.Nineteen.{Nineteen}
use Rattle.isa.specs.declared.table.Nineteen.TheVariants as nineteen
use Rattle.isa.specs.declared.table.Extended.{Extended}
use Rattle.isa.specs.declared.table.Extended.TheVariants as extended
use Rattle.isa.specs.declared.instruction.LoadOp.{LoadOp}
use Rattle.isa.specs.declared.instruction.StoreOp.{StoreOp}
use Rattle.isa.specs.declared.instruction.Offset.{Offset}
use Rattle.isa.specs.declared.instruction.Offset.TheVariants.{Displacement, Index}
use Rattle.isa.specs.declared.instruction.Instruction.{Instruction}
use Rattle.isa.specs.declared.instruction.Instruction.TheVariants.{Immediate, LogicalImmediate, CompareImmediate, TrapImmediate, Load, Store, Branch, BranchConditional, BranchRegister, SystemCall, Rotate, ConditionLogical, MoveConditionField, Bare, Arithmetic, ArithmeticUnary, MultiplyHigh, Logical, LogicalUnary, ShiftRightImmediate, Select, Compare, Trap, LoadIndexed, StoreIndexed, StoreConditional, MoveFromXer, Move, WriteExternalEnable, MoveToConditionFields, MoveSpecial, TlbWord, TlbSearch, Barrier}

-- each condition below says that the reserved bits are zero and the form is valid

-- no operands: bits 6 to 20 and 31 are reserved
abbrev pub bare : Fields → Bool
bare f = f.first == 0 && (f.second == 0 && (f.third == 0 && not f.last))

-- a load and a store of an operation, with update or without, and of an offset
abbrev pub load_of : LoadOp → Bool → Offset → Fields → Option Instruction
load_of op update offset f = then_some (load_valid update f.first f.second) (Load (record { op = op; rt = f.first; ra = f.second; offset = offset; update = update }))

abbrev pub store_of : StoreOp → Bool → Offset → Fields → Option Instruction
store_of op update offset f = then_some (store_valid update f.second) (Store (record { op = op; rs = f.first; ra = f.second; offset = offset; update = update }))

-- under the primary opcode 19
abbrev pub by_nineteen : Nineteen → Fields → Option Instruction
by_nineteen (nineteen.Branch target) f =
    then_some (f.third == 0 && branch_valid target f.first) (BranchRegister (record { target = target; options = f.first; bit = f.second; link = f.last }))
by_nineteen (nineteen.ConditionLogical op) f =
    then_some (not f.last) (ConditionLogical (record { op = op; target = f.first; first = f.second; second = f.third }))
by_nineteen (nineteen.Bare op) f = then_some (bare f) (Bare op)
by_nineteen nineteen.MoveConditionField f =
    then_some (f.first % 4 == 0 && (f.second % 4 == 0 && (f.third == 0 && not f.last)))
    (MoveConditionField (record { to = f.first / 4; from = f.second / 4 }))

-- under the primary opcode 31
abbrev pub by_extended : Extended → Fields → Option Instruction
by_extended (extended.Arithmetic op oe) f = Some (Arithmetic (record { op = op; rt = f.first; ra = f.second; rb = f.third; oe = oe; rc = f.last }))
by_extended (extended.ArithmeticUnary op oe) f =
    then_some (f.third == 0) (ArithmeticUnary (record { op = op; rt = f.first; ra = f.second; oe = oe; rc = f.last }))
by_extended (extended.MultiplyHigh op) f = Some (MultiplyHigh (record { op = op; rt = f.first; ra = f.second; rb = f.third; rc = f.last }))
by_extended (extended.Logical op) f = Some (Logical (record { op = op; ra = f.second; rs = f.first; rb = f.third; rc = f.last }))
by_extended (extended.LogicalUnary op) f = then_some (f.third == 0) (LogicalUnary (record { op = op; ra = f.second; rs = f.first; rc = f.last }))
by_extended extended.ShiftRightImmediate f = Some (ShiftRightImmediate (record { ra = f.second; rs = f.first; amount = f.third; rc = f.last }))
by_extended extended.Select f = then_some (not f.last) (Select (record { rt = f.first; ra = f.second; rb = f.third; bit = f.extended / 32 }))
by_extended (extended.Compare comparison) f =
    then_some (f.first % 4 == 0 && not f.last) (Compare (record { comparison = comparison; field = f.first / 4; ra = f.second; rb = f.third }))
by_extended extended.Trap f = then_some (not f.last) (Trap (record { conditions = f.first; ra = f.second; rb = f.third }))
by_extended (extended.Load op update) f = given (not f.last) (load_of op update (Index f.third) f)
by_extended (extended.Store op update) f = given (not f.last) (store_of op update (Index f.third) f)
by_extended (extended.LoadIndexed op) f = then_some (not f.last) (LoadIndexed (record { op = op; rt = f.first; ra = f.second; rb = f.third }))
by_extended (extended.StoreIndexed op) f = then_some (not f.last) (StoreIndexed (record { op = op; rs = f.first; ra = f.second; rb = f.third }))
by_extended extended.StoreConditional f = then_some f.last (StoreConditional (record { rs = f.first; ra = f.second; rb = f.third }))
by_extended extended.MoveFromXer f =
    then_some (f.first % 4 == 0 && (f.second == 0 && (f.third == 0 && not f.last))) (MoveFromXer (f.first / 4))
by_extended (extended.Move op) f =
    then_some (f.second == 0 && (f.third == 0 && not f.last)) (Move (record { op = op; register = f.first }))
by_extended extended.WriteExternalEnable f =
    then_some (f.first == 0 && (f.second == 0 && (f.third % 16 == 0 && not f.last)))
    (WriteExternalEnable (f.third / 16 == 1))
by_extended extended.MoveToConditionFields f =
    then_some (nat_lt f.second 16 && (f.third % 2 == 0 && not f.last))
    (MoveToConditionFields (record { mask = f.second * 16 + f.third / 2; rs = f.first }))
by_extended (extended.MoveSpecial op) f = then_some (not f.last) (MoveSpecial (record { op = op; register = f.first; number = f.third * 32 + f.second }))
by_extended (extended.TlbWord op) f =
    then_some (nat_lt f.third 3 && not f.last) (TlbWord (record { op = op; register = f.first; ra = f.second; word = f.third }))
by_extended extended.TlbSearch f = Some (TlbSearch (record { rt = f.first; ra = f.second; rb = f.third; rc = f.last }))
by_extended extended.Barrier f = then_some (f.second == 0 && (f.third == 0 && not f.last)) (Barrier f.first)
by_extended (extended.Bare op) f = then_some (bare f) (Bare op)

-- by the primary opcode, of a word and its fields
abbrev pub by_primary : Primary → ℕ → Fields → Option Instruction
by_primary (primary.Immediate op) w f = Some (Immediate (record { op = op; rt = f.first; ra = f.second; immediate = f.low }))
by_primary (primary.LogicalImmediate op) w f = Some (LogicalImmediate (record { op = op; ra = f.second; rs = f.first; immediate = f.low }))
by_primary (primary.CompareImmediate comparison) w f =
    then_some (f.first % 4 == 0) (CompareImmediate (record { comparison = comparison; field = f.first / 4; ra = f.second; immediate = f.low }))
by_primary primary.TrapImmediate w f = Some (TrapImmediate (record { conditions = f.first; ra = f.second; immediate = f.low }))
by_primary (primary.Rotate op) w f =
    Some (Rotate (record { op = op; ra = f.second; rs = f.first; amount = f.third; begin = f.extended / 32; end = f.extended % 32; rc = f.last }))
by_primary (primary.Load op update) w f = load_of op update (Displacement f.low) f
by_primary (primary.Store op update) w f = store_of op update (Displacement f.low) f
by_primary primary.BranchConditional w f =
    then_some (options_valid f.first) (BranchConditional (record { options = f.first; bit = f.second; displacement = f.low / 4; absolute = (f.low / 2 % 2 == 1); link = f.last }))
by_primary primary.SystemCall w f = then_some (w == 0x44000002) SystemCall
by_primary primary.Branch w f = Some (Branch (record { displacement = w / 4 % 0x1000000; absolute = (w / 2 % 2 == 1); link = f.last }))
by_primary primary.Nineteen w f = option_and_then (λ form. by_nineteen form f) (nineteen_at f.extended)
by_primary primary.Extended w f = option_and_then (λ form. by_extended form f) (extended_at f.extended)

-- the instruction of a word
unfoldable pub decoded : ℕ → Option Instruction
decoded w = option_and_then (λ form. by_primary form w (fields_of w)) (primary_at (primary_of w))
