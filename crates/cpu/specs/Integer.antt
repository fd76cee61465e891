-- What an integer instruction leaves in the working registers, but for the counter. Assumes nothing.
use Rattle.std.specs.Prelude.{ℕ, ◌+◌, ◌*◌, ◌%◌, Bool, true, false, cond, ◌||◌}
use Rattle.isa.specs.declared.instruction.ImmediateOp.{ImmediateOp}
use Rattle.isa.specs.declared.instruction.ImmediateOp.TheVariants.{Addi, Addis, Addic, AddicRecord, Subfic, Mulli}
use Rattle.isa.specs.declared.instruction.LogicalImmediateOp.{LogicalImmediateOp}
use Rattle.isa.specs.declared.instruction.LogicalImmediateOp.TheVariants.{AndiRecord, AndisRecord, Ori, Oris, Xori, Xoris}
use Rattle.isa.specs.declared.instruction.RotateOp.{RotateOp}
use Rattle.isa.specs.declared.instruction.RotateOp.TheVariants.{Rlwimi, Rlwinm, Rlwnm}
use Rattle.isa.specs.declared.instruction.Comparison.{Comparison}
use Rattle.isa.specs.declared.instruction.Comparison.TheVariants.{Signed, Unsigned}
use Rattle.isa.specs.declared.instruction.Immediate.{Immediate}
use Rattle.isa.specs.declared.instruction.LogicalImmediate.{LogicalImmediate}
use Rattle.isa.specs.declared.instruction.Arithmetic.{Arithmetic}
use Rattle.isa.specs.declared.instruction.ArithmeticUnary.{ArithmeticUnary}
use Rattle.isa.specs.declared.instruction.MultiplyHigh.{MultiplyHigh}
use Rattle.isa.specs.declared.instruction.Logical.{Logical}
use Rattle.isa.specs.declared.instruction.LogicalUnary.{LogicalUnary}
use Rattle.isa.specs.declared.instruction.ShiftRightImmediate.{ShiftRightImmediate}
use Rattle.isa.specs.declared.instruction.Rotate.{Rotate}
use Rattle.isa.specs.declared.instruction.Select.{Select}
use Rattle.isa.specs.declared.instruction.Compare.{Compare}
use Rattle.isa.specs.declared.instruction.CompareImmediate.{CompareImmediate}
use Rattle.word.specs.declared.arithmetic.Outcome.{Outcome}
use Rattle.word.specs.Words.{bit, extended}
use Rattle.word.specs.Shifts.{rotated, mask, shifted_algebraic}
use Rattle.word.specs.Conditions.{relation, relation_signed, with_field, bit_at}
use Rattle.cpu.specs.declared.registers.Working.{Working}
use Rattle.cpu.specs.declared.registers.Xer.{Xer}
use Rattle.cpu.specs.Operations.{plain, immediate_outcome, arithmetic_outcome, arithmetic_unary_outcome, multiply_high_value, logical_outcome, logical_unary_value, logical_immediate_value, rotate_value}
use Rattle.cpu.specs.Registers.{gpr_of, base_of, with_gpr, with_cr, with_xer}

-- XER after an outcome: the carry always, the overflow bits where OE asks for them, and SO stays once it is set
abbrev pub xer_after : Bool → Outcome → Xer → Xer
xer_after oe o x = record { so = x.so || (cond oe o.overflow false); ov = cond oe o.overflow x.ov; ca = o.carry; count = x.count }

-- condition field 0 after a result: how it compares with zero, and SO
abbrev pub with_cr0 : Working → ℕ → Working
with_cr0 w v = with_cr w (with_field w.cr 0 (relation_signed v 0 + bit w.xer.so))

-- condition field 0 after an answer: 0, 0, whether it is yes, and SO
abbrev pub with_answer : Working → Bool → Working
with_answer w answer = with_cr w (with_field w.cr 0 (bit answer * 2 + bit w.xer.so))

-- the end of every integer instruction: the word to its register, XER, and with Rc condition field 0
unfoldable pub completed : ℕ → Outcome → Bool → Bool → Working → Working
completed target o oe rc w =
    cond rc (with_cr0 (with_gpr (with_xer w (xer_after oe o w.xer)) target o.value) o.value)
    (with_gpr (with_xer w (xer_after oe o w.xer)) target o.value)

-- addi and addis take register 0 for zero; the record form is a case of its own
abbrev pub immediate_operand : ImmediateOp → Working → ℕ → ℕ
immediate_operand Addi w ra = base_of w ra
immediate_operand Addis w ra = base_of w ra
immediate_operand Addic w ra = gpr_of w ra
immediate_operand AddicRecord w ra = gpr_of w ra
immediate_operand Subfic w ra = gpr_of w ra
immediate_operand Mulli w ra = gpr_of w ra

abbrev pub immediate_records : ImmediateOp → Bool
immediate_records Addi = false
immediate_records Addis = false
immediate_records Addic = false
immediate_records AddicRecord = true
immediate_records Subfic = false
immediate_records Mulli = false

abbrev pub logical_immediate_records : LogicalImmediateOp → Bool
logical_immediate_records AndiRecord = true
logical_immediate_records AndisRecord = true
logical_immediate_records Ori = false
logical_immediate_records Oris = false
logical_immediate_records Xori = false
logical_immediate_records Xoris = false

-- rlwnm takes its amount from a register
abbrev pub rotate_amount : RotateOp → Working → ℕ → ℕ
rotate_amount Rlwimi w n = n
rotate_amount Rlwinm w n = n
rotate_amount Rlwnm w n = gpr_of w n

abbrev pub immediate : Immediate → Working → Working
immediate i w =
    completed i.rt (immediate_outcome i.op (immediate_operand i.op w i.ra) i.immediate w.xer.ca) false (immediate_records i.op) w

abbrev pub logical_immediate : LogicalImmediate → Working → Working
logical_immediate i w =
    completed i.ra (plain (logical_immediate_value i.op (gpr_of w i.rs) i.immediate) w.xer.ca) false (logical_immediate_records i.op) w

abbrev pub arithmetic : Arithmetic → Working → Working
arithmetic i w =
    completed i.rt (arithmetic_outcome i.op (gpr_of w i.ra) (gpr_of w i.rb) w.xer.ca) i.oe i.rc w

abbrev pub arithmetic_unary : ArithmeticUnary → Working → Working
arithmetic_unary i w =
    completed i.rt (arithmetic_unary_outcome i.op (gpr_of w i.ra) w.xer.ca) i.oe i.rc w

abbrev pub multiply_high : MultiplyHigh → Working → Working
multiply_high i w =
    completed i.rt (plain (multiply_high_value i.op (gpr_of w i.ra) (gpr_of w i.rb)) w.xer.ca) false i.rc w

abbrev pub logical : Logical → Working → Working
logical i w = completed i.ra (logical_outcome i.op (gpr_of w i.rs) (gpr_of w i.rb) w.xer.ca) false i.rc w

abbrev pub logical_unary : LogicalUnary → Working → Working
logical_unary i w = completed i.ra (plain (logical_unary_value i.op (gpr_of w i.rs)) w.xer.ca) false i.rc w

abbrev pub shift_right_immediate : ShiftRightImmediate → Working → Working
shift_right_immediate i w = completed i.ra (shifted_algebraic (gpr_of w i.rs) i.amount) false i.rc w

abbrev pub rotate : Rotate → Working → Working
rotate i w =
    completed i.ra
    (plain (rotate_value i.op (gpr_of w i.ra) (rotated (gpr_of w i.rs) (rotate_amount i.op w i.amount)) (mask i.begin i.end)) w.xer.ca)
    false i.rc w

-- isel: register 0 stands for zero where the bit is set
abbrev pub select : Select → Working → Working
select i w = with_gpr w i.rt (cond (bit_at w.cr i.bit) (base_of w i.ra) (gpr_of w i.rb))

-- a comparison's field: how two words compare, and SO
abbrev pub compared : Comparison → ℕ → ℕ → ℕ
compared Signed a b = relation_signed a b
compared Unsigned a b = relation a b

abbrev pub with_comparison : Working → Comparison → ℕ → ℕ → ℕ → Working
with_comparison w c field a b = with_cr w (with_field w.cr field (compared c a b + bit w.xer.so))

abbrev pub compare : Compare → Working → Working
compare i w = with_comparison w i.comparison i.field (gpr_of w i.ra) (gpr_of w i.rb)

-- an immediate is extended by its sign for a signed comparison
abbrev pub comparand : Comparison → ℕ → ℕ
comparand Signed i = extended 16 (i % 0x10000)
comparand Unsigned i = i % 0x10000

abbrev pub compare_immediate : CompareImmediate → Working → Working
compare_immediate i w = with_comparison w i.comparison i.field (gpr_of w i.ra) (comparand i.comparison i.immediate)
