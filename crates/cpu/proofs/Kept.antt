-- Every instruction keeps what every core keeps of its working registers. Assumes nothing.
use Rattle.std.proofs.Common.{◌≡◌, ℕ, ◌*◌, ◌%◌, ◌^◌, Bool, true, false, cond, eqb, Some, None, Option, sym, refl, subst, arith}
use Rattle.std.proofs.lemmas.Bool.Decides.{nat_tests}
use Rattle.isa.specs.declared.instruction.Branch.{Branch as BranchFormat}
use Rattle.isa.specs.declared.instruction.BranchTarget.{BranchTarget}
use Rattle.isa.specs.declared.instruction.BranchTarget.TheVariants.{Link, Count}
use Rattle.isa.specs.declared.instruction.BareOp.TheVariants.{Rfi, Isync, Msync, Tlbsync}
use Rattle.isa.specs.declared.instruction.MoveOp.{MoveOp}
use Rattle.isa.specs.declared.instruction.MoveOp.TheVariants.{Mfcr, Mfmsr, Mtmsr, Wrtee}
use Rattle.isa.specs.declared.instruction.SpecialOp.{SpecialOp}
use Rattle.isa.specs.declared.instruction.SpecialOp.TheVariants.{Mfspr, Mtspr}
use Rattle.isa.specs.declared.instruction.Instruction.{Instruction}
use Rattle.isa.specs.declared.instruction.Instruction.TheVariants.{Immediate, LogicalImmediate, CompareImmediate, TrapImmediate, Load, Store, Branch, BranchConditional, BranchRegister, SystemCall, Rotate, ConditionLogical, MoveConditionField, Bare, Arithmetic, ArithmeticUnary, MultiplyHigh, Logical, LogicalUnary, ShiftRightImmediate, Select, Compare, Trap, LoadIndexed, StoreIndexed, StoreConditional, MoveFromXer, Move, WriteExternalEnable, MoveToConditionFields, MoveSpecial, TlbWord, TlbSearch, Barrier}
use Rattle.word.specs.Words.{extended}
use Rattle.word.specs.Conditions.{traps}
use Rattle.word.specs.declared.arithmetic.Outcome.{Outcome}
use Rattle.cpu.specs.declared.registers.Working.{Working}
use Rattle.cpu.specs.declared.registers.Shown.{Shown}
use Rattle.cpu.specs.declared.deed.Loading.{Loading}
use Rattle.cpu.specs.declared.deed.Storing.{Storing}
use Rattle.cpu.specs.declared.deed.Deed.{Deed}
use Rattle.cpu.specs.declared.deed.Deed.TheVariants as left
use Rattle.cpu.specs.Kept.{Kept, LeavesKept}
use Rattle.cpu.specs.Registers.{gpr_of, after, next}
use Rattle.cpu.specs.Integer.{completed}
use Rattle.cpu.specs.Branches.{linked, aimed, branch, taken, resolved, register_target}
use Rattle.cpu.specs.Memory.{updated, received, settled, stored}
use Rattle.cpu.specs.Specials.{privileged_number, special_word, with_special}
use Rattle.cpu.specs.Effects.{Effect, effected, effect_of, Waits, trapping, move, taken_from, given_to, move_special}

-- to the next instruction, from registers with the same counter and the same count
pub next_kept : (w u : Working) → u.pc ≡ w.pc → u.xer.count ≡ w.xer.count → Kept w → Kept (next u)
next_kept w u e f h = (omega arith, omega arith)

completed_pc : (t : ℕ) (o : Outcome) (oe rc : Bool) (w : Working) → ((completed t o oe rc w).pc ≡ w.pc) × ((completed t o oe rc w).xer.count ≡ w.xer.count)
unfolding completed
completed_pc t o oe true w = (refl, refl)
completed_pc t o oe false w = (refl, refl)

completes : (t : ℕ) (o : Outcome) (oe rc : Bool) (w : Working) → Kept w → Kept (next (completed t o oe rc w))
completes t o oe rc w h = let e = completed_pc t o oe rc w in next_kept w (completed t o oe rc w) e.0 e.1 h

-- a target is aligned: a displacement counts words, a register's last two bits are dropped
aimed-aligned : (aa : Bool) (d : ℕ) (w : Working) → d % 4 ≡ 0 → Kept w → aimed aa d w % 4 ≡ 0
aimed-aligned true d w e h = e
aimed-aligned false d w e h = omega arith

extended_26 : (n : ℕ) → extended 26 (n * 4 % 2 ^ 26) % 4 ≡ 0
extended_26 n = grind (arith, nat_tests)

extended_16 : (n : ℕ) → extended 16 (n * 4 % 2 ^ 16) % 4 ≡ 0
extended_16 n = grind (arith, nat_tests)

after-aligned : (w : Working) → Kept w → after w % 4 ≡ 0
after-aligned w h = omega arith

register_aligned : (t : BranchTarget) (w : Working) → register_target t w % 4 ≡ 0
register_aligned Link w = omega arith
register_aligned Count w = omega arith

-- branches
linked_count : (lk : Bool) (w : Working) → (linked lk w).xer.count ≡ w.xer.count
linked_count true w = refl
linked_count false w = refl

resolved_kept : (bo bi : ℕ) (lk : Bool) (target : ℕ) (w : Working) → target % 4 ≡ 0 → Kept w → Kept (resolved bo bi lk target w)
resolved_kept bo bi lk target w e h = (either (taken bo bi w), let c = linked_count lk w in omega arith)
  where
    either : (b : Bool) → cond b target (after w) % 4 ≡ 0
    either true = e
    either false = after-aligned w h

branched_kept : (i : BranchFormat) (w : Working) → Kept w → Kept (branch i w)
branched_kept i w h =
    (aimed-aligned i.absolute (extended 26 (i.displacement * 4 % 2 ^ 26)) w (extended_26 i.displacement) h, let c = linked_count i.link w in omega arith)

-- the ends of loads and stores
updated-same : (o : Option ℕ) (a : ℕ) (w : Working) → ((updated o a w).pc ≡ w.pc) × ((updated o a w).xer.count ≡ w.xer.count)
updated-same None a w = (refl, refl)
updated-same (Some ra) a w = (refl, refl)

pub received_kept : (l : Loading) (x : ℕ) (w : Working) → Kept w → Kept (received l x w)
unfolding received
received_kept l x w h = let e = updated-same l.update l.address w in (omega arith, omega arith)

pub settled_kept : (s : Bool) (w : Working) → Kept w → Kept (settled s w)
unfolding settled
settled_kept s w h = (omega arith, h.1)

stored_cases : (c : Bool) (s : Storing) (w : Working) → Kept w → Kept (cond c (settled true w) (next (updated s.update s.address w)))
stored_cases true s w h = settled_kept true w h
stored_cases false s w h =
    let e = updated-same s.update s.address w in next_kept w (updated s.update s.address w) e.0 e.1 h

pub stored_kept : (s : Storing) (w : Working) → Kept w → Kept (stored s w)
unfolding stored
stored_kept s w h = stored_cases s.conditional s w h

-- the effects that are chosen by a test
cond_leaves : (b : Bool) (x y : Effect) → LeavesKept x → LeavesKept y → LeavesKept (cond b x y)
cond_leaves true x y e f = e
cond_leaves false x y e f = f

trapping-leaves : (b : Bool) (w : Working) → Kept w → LeavesKept (trapping b w)
trapping-leaves true w h = tt
trapping-leaves false w h = next_kept w w refl refl h

taken-leaves : (rt : ℕ) (o : Option ℕ) (w : Working) → Kept w → LeavesKept (taken_from rt o w)
taken-leaves rt (Some x) w h = (after-aligned w h, h.1)
taken-leaves rt None w h = tt

given_cond : (b : Bool) (u : Working) (o : Option Working) → Kept (next u) → LeavesKept (given_to o) → LeavesKept (given_to (cond b (Some u) o))
given_cond true u o e f = e
given_cond false u o e f = f

given-leaves : (n x : ℕ) (w : Working) → Kept w → LeavesKept (given_to (with_special n x w))
given-leaves n x w h =
    let a = after-aligned w h in
    given_cond (eqb n 1) _ _ (a, omega arith)
    (given_cond (eqb n 8) _ _ (a, h.1) (given_cond (eqb n 9) _ _ (a, h.1) (given_cond (eqb n 256) _ _ (a, h.1) tt)))

move-leaves : (op : MoveOp) (r : ℕ) (w : Working) → Kept w → LeavesKept (move op r w)
move-leaves Mfcr r w h = (after-aligned w h, h.1)
move-leaves Mfmsr r w h = tt
move-leaves Mtmsr r w h = tt
move-leaves Wrtee r w h = tt

special_leaves : (op : SpecialOp) (r n : ℕ) (w : Working) (v : Shown) → Kept w → LeavesKept (move_special op r n w v)
special_leaves Mfspr r n w v h = cond_leaves (privileged_number n) _ _ tt (taken-leaves r (special_word n w v) w h)
special_leaves Mtspr r n w v h = cond_leaves (privileged_number n) _ _ tt (given-leaves n _ w h)

pub kept : (i : Instruction) (w : Working) (v : Shown) → Kept w → LeavesKept (effected i w v)
kept (Immediate i) w v h = completes _ _ _ _ w h
kept (LogicalImmediate i) w v h = completes _ _ _ _ w h
kept (CompareImmediate i) w v h = (after-aligned w h, h.1)
kept (TrapImmediate i) w v h = trapping-leaves (traps i.conditions (gpr_of w i.ra) (extended 16 (i.immediate % 0x10000))) w h
kept (Load i) w v h = λ x. received_kept _ x w h
kept (Store i) w v h = stored_kept _ w h
kept (Branch i) w v h = branched_kept i w h
kept (BranchConditional i) w v h =
    resolved_kept i.options i.bit i.link _ w (aimed-aligned i.absolute _ w (extended_16 i.displacement) h) h
kept (BranchRegister i) w v h = resolved_kept i.options i.bit i.link _ w (register_aligned i.target w) h
kept SystemCall w v h = tt
kept (Rotate i) w v h = completes _ _ _ _ w h
kept (ConditionLogical i) w v h = (after-aligned w h, h.1)
kept (MoveConditionField i) w v h = (after-aligned w h, h.1)
kept (Bare Rfi) w v h = tt
kept (Bare Isync) w v h = (after-aligned w h, h.1)
kept (Bare Msync) w v h = (after-aligned w h, h.1)
kept (Bare Tlbsync) w v h = tt
kept (Arithmetic i) w v h = completes _ _ _ _ w h
kept (ArithmeticUnary i) w v h = completes _ _ _ _ w h
kept (MultiplyHigh i) w v h = completes _ _ _ _ w h
kept (Logical i) w v h = completes _ _ _ _ w h
kept (LogicalUnary i) w v h = completes _ _ _ _ w h
kept (ShiftRightImmediate i) w v h = completes _ _ _ _ w h
kept (Select i) w v h = (after-aligned w h, h.1)
kept (Compare i) w v h = (after-aligned w h, h.1)
kept (Trap i) w v h = trapping-leaves (traps i.conditions (gpr_of w i.ra) (gpr_of w i.rb)) w h
kept (LoadIndexed i) w v h = λ x. received_kept _ x w h
kept (StoreIndexed i) w v h = stored_kept _ w h
kept (StoreConditional i) w v h = cond_leaves w.reserved _ _ (stored_kept _ w h) (settled_kept false w h)
kept (MoveFromXer field) w v h = (after-aligned w h, h.1)
kept (Move i) w v h = move-leaves i.op i.register w h
kept (WriteExternalEnable e) w v h = tt
kept (MoveToConditionFields i) w v h = (after-aligned w h, h.1)
kept (MoveSpecial i) w v h = special_leaves i.op i.register i.number w v h
kept (TlbWord i) w v h = tt
kept (TlbSearch i) w v h = tt
kept (Barrier o) w v h = (after-aligned w h, h.1)

-- and so does its register part, whatever is left to do
pub deed_kept : (d : Deed) (u w : Working) (e : Effect) → effect_of d w ≡ e → Waits d u w → LeavesKept e → Kept u → Kept w
deed_kept left.Finished u w e q k a h = subst LeavesKept (sym q) a
deed_kept (left.Load l) u w e q k a h = subst Kept (sym k) h
deed_kept (left.Store s) u w e q k a h = subst Kept (sym k) h
deed_kept (left.Probe x) u w e q k a h = subst Kept (sym k) h
deed_kept left.Trap u w e q k a h = subst Kept (sym k) h
deed_kept left.Call u w e q k a h = subst Kept (sym k) h
deed_kept left.Illegal u w e q k a h = subst Kept (sym k) h
deed_kept (left.Privileged d) u w e q k a h = subst Kept (sym k) h
