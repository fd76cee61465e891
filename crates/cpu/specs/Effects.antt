-- What an instruction comes down to, from what user state sees of the registers. Assumes nothing.
use Rattle.std.specs.Prelude.{◌≡◌, ℕ, ◌/◌, ◌%◌, Bool, false, cond, Some, None, Option, ◌==◌}
use Rattle.isa.specs.declared.instruction.Offset.TheVariants.{Index}
use Rattle.isa.specs.declared.instruction.BareOp.{BareOp}
use Rattle.isa.specs.declared.instruction.BareOp.TheVariants.{Rfi, Isync, Msync, Tlbsync}
use Rattle.isa.specs.declared.instruction.MoveOp.{MoveOp}
use Rattle.isa.specs.declared.instruction.MoveOp.TheVariants.{Mfcr, Mfmsr, Mtmsr, Wrtee}
use Rattle.isa.specs.declared.instruction.SpecialOp.{SpecialOp}
use Rattle.isa.specs.declared.instruction.SpecialOp.TheVariants.{Mfspr, Mtspr}
use Rattle.isa.specs.declared.instruction.TlbWordOp.{TlbWordOp}
use Rattle.isa.specs.declared.instruction.TlbWordOp.TheVariants.{Tlbre, Tlbwe}
use Rattle.isa.specs.declared.instruction.StoreConditional.{StoreConditional as StoreConditionalFormat}
use Rattle.isa.specs.declared.instruction.TlbSearch.{TlbSearch as TlbSearchFormat}
use Rattle.isa.specs.declared.instruction.Instruction.{Instruction}
use Rattle.isa.specs.declared.instruction.Instruction.TheVariants.{Immediate, LogicalImmediate, CompareImmediate, TrapImmediate, Load, Store, Branch, BranchConditional, BranchRegister, SystemCall, Rotate, ConditionLogical, MoveConditionField, Bare, Arithmetic, ArithmeticUnary, MultiplyHigh, Logical, LogicalUnary, ShiftRightImmediate, Select, Compare, Trap, LoadIndexed, StoreIndexed, StoreConditional, MoveFromXer, Move, WriteExternalEnable, MoveToConditionFields, MoveSpecial, TlbWord, TlbSearch, Barrier}
use Rattle.word.specs.Words.{extended}
use Rattle.word.specs.Conditions.{traps}
use Rattle.cpu.specs.declared.registers.Working.{Working}
use Rattle.cpu.specs.declared.registers.Shown.{Shown}
use Rattle.cpu.specs.declared.deed.Loading.{Loading}
use Rattle.cpu.specs.declared.deed.Storing.{Storing}
use Rattle.cpu.specs.declared.deed.Privileged.{Privileged as PrivilegedDeed}
use Rattle.cpu.specs.declared.deed.Privileged.TheVariants as deed
use Rattle.cpu.specs.declared.deed.Deed.{Deed}
use Rattle.cpu.specs.declared.deed.Deed.TheVariants as left
use Rattle.cpu.specs.Registers.{gpr_of, next, with_gpr}
use Rattle.cpu.specs.Integer.{immediate, logical_immediate, arithmetic, arithmetic_unary, multiply_high, logical, logical_unary, shift_right_immediate, rotate, select, compare, compare_immediate}
use Rattle.cpu.specs.Branches.{branch, branch_conditional, branch_register}
use Rattle.cpu.specs.Fields.{condition_logical, move_condition_field, move_from_xer, move_to_condition_fields, move_from_condition}
use Rattle.cpu.specs.Memory.{address_of, loading, loading_indexed, received, storing, storing_indexed, storing_conditional, settled, stored}
use Rattle.cpu.specs.Specials.{privileged_number, special_word, with_special}

-- what user state sees of the registers
pub record Seen : Type 0 where
  pub working : Working
  pub shown : Shown

abbrev pub seen_of : Working → Shown → Seen
seen_of w v = record { working = w; shown = v }

-- an instruction's effect: new registers; an access and the registers after it; or what the core has to turn into an
-- interrupt or to carry out
pub data Effect : Type 0 where
  finish : Working → Effect
  load : (address width : ℕ) → (ℕ → Working) → Effect
  store : (address width value : ℕ) → Working → Effect
  -- a store's translation and alignment, and no bus
  probe : (address width : ℕ) → Working → Effect
  trap : Effect
  call : Effect
  illegal : Effect
  -- all that user state may not do
  privileged : PrivilegedDeed → Effect

-- a load and a store, with the registers after them
abbrev pub loads : Loading → Working → Effect
loads l w = load l.address l.width (λ x. received l x w)

abbrev pub stores : Storing → Working → Effect
stores s w = store s.address s.width s.value (stored s w)

-- stwcx. stores where the reservation is set, and otherwise only tries
abbrev pub store_conditional : StoreConditionalFormat → Working → Effect
store_conditional i w =
    cond w.reserved (stores (storing_conditional i w) w) (probe (address_of w i.ra (Index i.rb)) 4 (settled false w))

abbrev pub trapping : Bool → Working → Effect
trapping b w = cond b trap (finish (next w))

-- isync and msync do nothing but go on; rfi and tlbsync are privileged
abbrev pub bare : BareOp → Working → Effect
bare Rfi w = privileged deed.Return
bare Isync w = finish (next w)
bare Msync w = finish (next w)
bare Tlbsync w = privileged deed.Synchronize

-- mfcr is for all; the others are privileged. wrtee takes EE from its place in a register
abbrev pub move : MoveOp → ℕ → Working → Effect
move Mfcr r w = finish (next (move_from_condition r w))
move Mfmsr r w = privileged (deed.ReadMsr r)
move Mtmsr r w = privileged (deed.WriteMsr (gpr_of w r))
move Wrtee r w = privileged (deed.WriteExternalEnable (gpr_of w r / 0x8000 % 2 == 1))

-- a special purpose register: privileged by its number, or known to both states, or illegal
abbrev pub taken_from : ℕ → Option ℕ → Working → Effect
taken_from rt (Some x) w = finish (next (with_gpr w rt x))
taken_from rt None w = illegal

abbrev pub given_to : Option Working → Effect
given_to (Some w) = finish (next w)
given_to None = illegal

abbrev pub move_special : SpecialOp → ℕ → ℕ → Working → Shown → Effect
move_special Mfspr r n w v = cond (privileged_number n) (privileged (deed.ReadSpecial r n)) (taken_from r (special_word n w v) w)
move_special Mtspr r n w v = cond (privileged_number n) (privileged (deed.WriteSpecial n (gpr_of w r))) (given_to (with_special n (gpr_of w r) w))

-- the entry is named by the low six bits of a register
abbrev pub tlb_word : TlbWordOp → ℕ → ℕ → ℕ → Working → PrivilegedDeed
tlb_word Tlbre r ra k w = deed.ReadEntry r (gpr_of w ra % 64) k
tlb_word Tlbwe r ra k w = deed.WriteEntry (gpr_of w ra % 64) k (gpr_of w r)

abbrev pub tlb_search : TlbSearchFormat → Working → PrivilegedDeed
tlb_search i w = deed.SearchEntries i.rt (address_of w i.ra (Index i.rb)) i.rc

-- the effect of each instruction
abbrev pub effected : Instruction → Working → Shown → Effect
effected (Immediate i) w v = finish (next (immediate i w))
effected (LogicalImmediate i) w v = finish (next (logical_immediate i w))
effected (CompareImmediate i) w v = finish (next (compare_immediate i w))
effected (TrapImmediate i) w v = trapping (traps i.conditions (gpr_of w i.ra) (extended 16 (i.immediate % 0x10000))) w
effected (Load i) w v = loads (loading i w) w
effected (Store i) w v = stores (storing i w) w
effected (Branch i) w v = finish (branch i w)
effected (BranchConditional i) w v = finish (branch_conditional i w)
effected (BranchRegister i) w v = finish (branch_register i w)
effected SystemCall w v = call
effected (Rotate i) w v = finish (next (rotate i w))
effected (ConditionLogical i) w v = finish (next (condition_logical i w))
effected (MoveConditionField i) w v = finish (next (move_condition_field i w))
effected (Bare op) w v = bare op w
effected (Arithmetic i) w v = finish (next (arithmetic i w))
effected (ArithmeticUnary i) w v = finish (next (arithmetic_unary i w))
effected (MultiplyHigh i) w v = finish (next (multiply_high i w))
effected (Logical i) w v = finish (next (logical i w))
effected (LogicalUnary i) w v = finish (next (logical_unary i w))
effected (ShiftRightImmediate i) w v = finish (next (shift_right_immediate i w))
effected (Select i) w v = finish (next (select i w))
effected (Compare i) w v = finish (next (compare i w))
effected (Trap i) w v = trapping (traps i.conditions (gpr_of w i.ra) (gpr_of w i.rb)) w
effected (LoadIndexed i) w v = loads (loading_indexed i w) w
effected (StoreIndexed i) w v = stores (storing_indexed i w) w
effected (StoreConditional i) w v = store_conditional i w
effected (MoveFromXer field) w v = finish (next (move_from_xer field w))
effected (Move i) w v = move i.op i.register w
effected (WriteExternalEnable e) w v = privileged (deed.WriteExternalEnable e)
effected (MoveToConditionFields i) w v = finish (next (move_to_condition_fields i w))
effected (MoveSpecial i) w v = move_special i.op i.register i.number w v
effected (TlbWord i) w v = privileged (tlb_word i.op i.register i.ra i.word w)
effected (TlbSearch i) w v = privileged (tlb_search i w)
effected (Barrier o) w v = finish (next w)

unfoldable pub effect : Instruction → Seen → Effect
effect i s = effected i s.working s.shown

-- what is left to do, over registers that had their part, as an effect
abbrev pub effect_of : Deed → Working → Effect
effect_of left.Finished w = finish w
effect_of (left.Load l) w = loads l w
effect_of (left.Store s) w = stores s w
effect_of (left.Probe a) w = probe a 4 (settled false w)
effect_of left.Trap w = trap
effect_of left.Call w = call
effect_of left.Illegal w = illegal
effect_of (left.Privileged d) w = privileged d

-- where something is left to do no register is altered yet
abbrev pub Waits : Deed → Working → Working → Type 0
Waits left.Finished u w = Unit {0}
Waits (left.Load l) u w = w ≡ u
Waits (left.Store s) u w = w ≡ u
Waits (left.Probe a) u w = w ≡ u
Waits left.Trap u w = w ≡ u
Waits left.Call u w = w ≡ u
Waits left.Illegal u w = w ≡ u
Waits (left.Privileged d) u w = w ≡ u

-- a deed over registers that had their part, as an effect, with none altered where something is left to do
abbrev pub Leaves : Deed → (before after : Working) → Effect → Type 0
Leaves d u w e = (effect_of d w ≡ e) × Waits d u w
