-- What an instruction on the condition register leaves in the working registers, but for the counter. Assumes nothing.
use Rattle.std.specs.Prelude.{ℕ, ◌+◌, ◌*◌, Bool, false, not, ◌&&◌, ◌||◌}
use Rattle.isa.specs.declared.instruction.ConditionOp.{ConditionOp}
use Rattle.isa.specs.declared.instruction.ConditionOp.TheVariants.{Crand, Crandc, Creqv, Crnand, Crnor, Cror, Crorc, Crxor}
use Rattle.isa.specs.declared.instruction.ConditionLogical.{ConditionLogical}
use Rattle.isa.specs.declared.instruction.MoveConditionField.{MoveConditionField}
use Rattle.isa.specs.declared.instruction.MoveToConditionFields.{MoveToConditionFields}
use Rattle.word.specs.Words.{bit}
use Rattle.word.specs.Conditions.{field_at, with_field, bit_at, with_bit, field_mask, merged}
use Rattle.cpu.specs.declared.registers.Working.{Working}
use Rattle.cpu.specs.declared.registers.Xer.{Xer}
use Rattle.cpu.specs.Branches.{same}
use Rattle.cpu.specs.Registers.{gpr_of, with_gpr, with_cr, with_xer}

abbrev pub condition_value : ConditionOp → Bool → Bool → Bool
condition_value Crand a b = a && b
condition_value Crandc a b = a && not b
condition_value Creqv a b = same a b
condition_value Crnand a b = not (a && b)
condition_value Crnor a b = not (a || b)
condition_value Cror a b = a || b
condition_value Crorc a b = a || not b
condition_value Crxor a b = not (same a b)

abbrev pub condition_logical : ConditionLogical → Working → Working
condition_logical i w =
    with_cr w (with_bit w.cr i.target (condition_value i.op (bit_at w.cr i.first) (bit_at w.cr i.second)))

abbrev pub move_condition_field : MoveConditionField → Working → Working
move_condition_field i w = with_cr w (with_field w.cr i.to (field_at w.cr i.from))

-- mcrxr: SO, OV, CA and 0 to the field, and the three of XER cleared
abbrev pub xer_field : Xer → ℕ
xer_field x = bit x.so * 8 + bit x.ov * 4 + bit x.ca * 2

abbrev pub move_from_xer : ℕ → Working → Working
move_from_xer field w =
    with_xer (with_cr w (with_field w.cr field (xer_field w.xer))) (record { so = false; ov = false; ca = false; count = w.xer.count })

abbrev pub move_to_condition_fields : MoveToConditionFields → Working → Working
move_to_condition_fields i w = with_cr w (merged w.cr (gpr_of w i.rs) (field_mask i.mask))

abbrev pub move_from_condition : ℕ → Working → Working
move_from_condition rt w = with_gpr w rt w.cr
