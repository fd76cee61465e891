-- What a branch leaves in the working registers. Assumes nothing.
use Rattle.std.specs.Prelude.{ℕ, ◌+◌, ◌*◌, ◌/◌, ◌%◌, ◌^◌, Bool, true, false, cond, not, ◌&&◌, ◌||◌, ◌==◌}
use Rattle.isa.specs.Valid.{ignores_condition, wants_condition, keeps_count, wants_zero}
use Rattle.isa.specs.declared.instruction.Branch.{Branch}
use Rattle.isa.specs.declared.instruction.BranchConditional.{BranchConditional}
use Rattle.isa.specs.declared.instruction.BranchRegister.{BranchRegister}
use Rattle.isa.specs.declared.instruction.BranchTarget.{BranchTarget}
use Rattle.isa.specs.declared.instruction.BranchTarget.TheVariants.{Link, Count}
use Rattle.word.specs.Words.{wrap, extended}
use Rattle.word.specs.Conditions.{bit_at}
use Rattle.cpu.specs.declared.registers.Working.{Working}
use Rattle.cpu.specs.Registers.{after, with_lr, with_ctr, with_pc}

abbrev pub same : Bool → Bool → Bool
same true b = b
same false b = not b

-- LK puts the next instruction's address into LR, whether the branch is taken or not
abbrev pub linked : Bool → Working → Working
linked lk w = cond lk (with_lr w (after w)) w

-- AA makes a displacement the address itself
abbrev pub aimed : Bool → ℕ → Working → ℕ
aimed aa d w = cond aa d (wrap (w.pc + d))

abbrev pub branch : Branch → Working → Working
branch i w = with_pc (linked i.link w) (aimed i.absolute (extended 26 (i.displacement * 4 % 2 ^ 26)) w)

-- CTR, less one where BO asks for it
abbrev pub count_after : ℕ → Working → ℕ
count_after bo w = cond (keeps_count bo) w.ctr (wrap (w.ctr + 0xFFFFFFFF))

-- both the count, after it is decremented, and the condition bit are as BO wants them, or BO ignores them
abbrev pub taken : ℕ → ℕ → Working → Bool
taken bo bi w =
    (keeps_count bo || same (count_after bo w == 0) (wants_zero bo))
    && (ignores_condition bo || same (bit_at w.cr bi) (wants_condition bo))

abbrev pub resolved : ℕ → ℕ → Bool → ℕ → Working → Working
resolved bo bi lk target w = with_pc (with_ctr (linked lk w) (count_after bo w)) (cond (taken bo bi w) target (after w))

abbrev pub branch_conditional : BranchConditional → Working → Working
branch_conditional i w =
    resolved i.options i.bit i.link (aimed i.absolute (extended 16 (i.displacement * 4 % 2 ^ 16)) w) w

-- a target in a register is a multiple of four, without its last two bits
abbrev pub register_target : BranchTarget → Working → ℕ
register_target Link w = w.lr / 4 * 4
register_target Count w = w.ctr / 4 * 4

abbrev pub branch_register : BranchRegister → Working → Working
branch_register i w = resolved i.options i.bit i.link (register_target i.target w) w
