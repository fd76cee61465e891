-- What an instruction is written as reads as that instruction, and its fields are in range. Assumes nothing.
use Rattle.std.proofs.Common.{◌≡◌, ℕ, ◌+◌, ◌*◌, ◌/◌, ◌%◌, Bool, true, false, ◌&&◌, eqb, ltb, Some, Option, option_and_then, refl, ap, ◌∙◌, subst, arith}
use Rattle.std.proofs.lemmas.Bool.{and_parts, eq-eqb, ne_eqb, lt-ltb, ltb-true}
use Rattle.std.specs.Bool.{then_some}
use Rattle.isa.specs.Fields.{primary_of, low_of, third_of, extended_of, last_of, fields_of, bit, half_form, extended_form}
use Rattle.isa.specs.Listed.{find, listed_extended, primary_at, nineteen_at, extended_at}
use Rattle.isa.specs.Valid.{load_valid, store_valid, options_valid, branch_valid}
use Rattle.isa.specs.Decoded.{by_nineteen, by_extended, by_primary, decoded}
use Rattle.isa.specs.Encoded.{encoded, access_word}
use Rattle.isa.specs.Ranges.{InRange, Fives}
use Rattle.isa.specs.Opcodes.{immediate_opcode, logical_immediate_opcode, compare_immediate_opcode, rotate_opcode, load_opcode, store_opcode, branch_extended, condition_extended, arithmetic_extended, arithmetic_unary_extended, multiply_high_extended, logical_extended, logical_unary_extended, compare_extended, load_extended, store_extended, load_indexed_extended, store_indexed_extended, move_extended, special_extended, tlb_word_extended}
use Rattle.isa.specs.declared.instruction.BareOp.{BareOp}
use Rattle.isa.specs.declared.instruction.BareOp.TheVariants.{Rfi, Isync, Msync, Tlbsync}
use Rattle.isa.specs.declared.instruction.Offset.TheVariants.{Displacement, Index}
use Rattle.isa.specs.declared.instruction.Instruction.{Instruction}
use Rattle.isa.specs.declared.instruction.Instruction.TheVariants.{Immediate, LogicalImmediate, CompareImmediate, TrapImmediate, Load, Store, Branch, BranchConditional, BranchRegister, SystemCall, Rotate, ConditionLogical, MoveConditionField, Bare, Arithmetic, ArithmeticUnary, MultiplyHigh, Logical, LogicalUnary, ShiftRightImmediate, Select, Compare, Trap, LoadIndexed, StoreIndexed, StoreConditional, MoveFromXer, Move, WriteExternalEnable, MoveToConditionFields, MoveSpecial, TlbWord, TlbSearch, Barrier}
use Rattle.isa.specs.declared.fields.Fields.{Fields}
use Rattle.isa.specs.declared.instruction.Load.{Load as LoadFormat}
use Rattle.isa.specs.declared.instruction.Store.{Store as StoreFormat}
use Rattle.isa.specs.declared.instruction.Offset.{Offset}
use Rattle.isa.specs.declared.table.Primary.{Primary}
use Rattle.isa.specs.declared.table.Primary.TheVariants as primary
use Rattle.isa.specs.declared.table.Nineteen.{Nineteen}
use Rattle.isa.specs.declared.table.Nineteen.TheVariants as nineteen
use Rattle.isa.specs.declared.table.Extended.{Extended}
use Rattle.isa.specs.declared.table.Extended.TheVariants as extended
use Rattle.isa.proofs.Forms.{Half, Whole, given_some, half_reads, extended_reads}
use Rattle.isa.proofs.Places.{immediate_at, logical_immediate_at, compare_immediate_at, rotate_at, load_displaced_at, store_displaced_at, branch_at, condition_at, arithmetic_at, arithmetic_unary_at, multiply_high_at, logical_at, logical_unary_at, compare_at, load_at, store_at, load_indexed_at, store_indexed_at, move_at, special_at, tlb_word_at}

-- the fields of a word of a half form, and of one of an extended form
abbrev half_fields : ℕ → ℕ → ℕ → Fields
half_fields a b low = record { first = a; second = b; low = low; third = third_of low; extended = extended_of low; last = last_of low }

abbrev whole_fields : ℕ → ℕ → ℕ → ℕ → ℕ → Bool → Fields
whole_fields low a b c x last = record { first = a; second = b; low = low; third = c; extended = x; last = last }

-- how a word reads, by what its opcodes stand for and by its fields
by_number : (w n : ℕ) (e : Primary) → primary_of w ≡ n → primary_at n ≡ Some e → decoded w ≡ by_primary e w (fields_of w)
unfolding decoded
by_number w n e p q =
    let by : Primary → Option Instruction = λ form. by_primary form w (fields_of w) in
    ap (λ x. option_and_then by (primary_at x)) p ∙ ap (option_and_then by) q

reads_half : (p a b low w : ℕ) (e : Primary) → primary_at p ≡ Some e → half_form p a b low ≡ Some w → (decoded w ≡ by_primary e w (half_fields a b low)) × Half w p a b low
reads_half p a b low w e q h =
    let r = half_reads p a b low w h in
    let f : fields_of w ≡ half_fields a b low = simp (r.is_first, r.is_second, r.is_low) in
    (by_number w p e r.is_primary q ∙ ap (by_primary e w) f, r)

reads_whole : (p a b c x : ℕ) (last : Bool) (w : ℕ) (e : Primary) → primary_at p ≡ Some e → extended_form p a b c x last ≡ Some w → (decoded w ≡ by_primary e w (whole_fields (low_of w) a b c x last)) × Whole w p a b c x last
reads_whole p a b c x last w e q h =
    let r = extended_reads p a b c x last w h in
    let f : fields_of w ≡ whole_fields (low_of w) a b c x last = simp (r.is_first, r.is_second, r.is_third, r.is_extended, r.is_last) in
    (by_number w p e r.is_primary q ∙ ap (by_primary e w) f, r)

reads_31 : (a b c x : ℕ) (last : Bool) (w : ℕ) (e : Extended) → extended_at x ≡ Some e → extended_form 31 a b c x last ≡ Some w → (decoded w ≡ by_extended e (whole_fields (low_of w) a b c x last)) × Whole w 31 a b c x last
unfolding primary_at
reads_31 a b c x last w e q h =
    let r = reads_whole 31 a b c x last w primary.Extended refl h in
    (r.0 ∙ ap (option_and_then (λ form. by_extended form (whole_fields (low_of w) a b c x last))) q, r.1)

reads_19 : (a b c x : ℕ) (last : Bool) (w : ℕ) (e : Nineteen) → nineteen_at x ≡ Some e → extended_form 19 a b c x last ≡ Some w → (decoded w ≡ by_nineteen e (whole_fields (low_of w) a b c x last)) × Whole w 19 a b c x last
unfolding primary_at
reads_19 a b c x last w e q h =
    let r = reads_whole 19 a b c x last w primary.Nineteen refl h in
    (r.0 ∙ ap (option_and_then (λ form. by_nineteen form (whole_fields (low_of w) a b c x last))) q, r.1)

fives : {w p a b c x : ℕ} {last : Bool} → Whole w p a b c x last → Fives a b c
fives r = (omega arith, omega arith, omega arith)

select_at : (n : ℕ) → extended_at (n * 32 + 15) ≡ Some extended.Select
unfolding extended_at
select_at n =
    ap (λ b. elim b [ true ↦ Some extended.Select | false ↦ find (n * 32 + 15) listed_extended ])
    (eq-eqb ((n * 32 + 15) % 32) 15 (omega arith))

-- an instruction under a condition that holds
only_true : (b : Bool) (i j : Instruction) → b ≡ true → i ≡ j → then_some b i ≡ Some j
only_true true i j h e = ap Some e
only_true false i j h e = cc

-- a condition field in a field of five bits
field_of : (n : ℕ) → (n * 4 / 4 ≡ n) × (eqb (n * 4 % 4) 0 ≡ true)
field_of n = (omega arith, eq-eqb (n * 4 % 4) 0 (omega arith))

-- two single bits at the end of a form
two_bits : (n : ℕ) (x y : Bool) (m : ℕ) → n * 4 + bit x * 2 + bit y ≡ m → (m / 4 ≡ n) × (eqb (m / 2 % 2) 1 ≡ x) × (eqb (m % 2) 1 ≡ y)
two_bits n true true m e = (omega arith, eq-eqb (m / 2 % 2) 1 (omega arith), eq-eqb (m % 2) 1 (omega arith))
two_bits n true false m e = (omega arith, eq-eqb (m / 2 % 2) 1 (omega arith), ne_eqb (m % 2) 1 (λ q. omega arith))
two_bits n false true m e = (omega arith, ne_eqb (m / 2 % 2) 1 (λ q. omega arith), eq-eqb (m % 2) 1 (omega arith))
two_bits n false false m e = (omega arith, ne_eqb (m / 2 % 2) 1 (λ q. omega arith), ne_eqb (m % 2) 1 (λ q. omega arith))

-- reads as it was written, in range
abbrev Written : ℕ → Instruction → Type 0
Written w i = (decoded w ≡ Some i) × InRange i

written_bare : (op : BareOp) (w : ℕ) → encoded (Bare op) ≡ Some w → decoded w ≡ Some (Bare op)
unfolding extended_at
written_bare Rfi w h = (reads_19 0 0 0 50 false w (nineteen.Bare Rfi) refl h).0
written_bare Isync w h = (reads_19 0 0 0 150 false w (nineteen.Bare Isync) refl h).0
written_bare Msync w h = (reads_31 0 0 0 598 false w (extended.Bare Msync) refl h).0
written_bare Tlbsync w h = (reads_31 0 0 0 566 false w (extended.Bare Tlbsync) refl h).0

written_load : (i : LoadFormat) (o : Offset) → i.offset ≡ o → (w : ℕ) → load_valid i.update i.rt i.ra ≡ true → access_word (load_opcode i.op) (load_extended i.op) i.rt i.ra o i.update ≡ Some w → Written w (Load i)
written_load i (Displacement d) is w v h =
    let r = reads_half (load_opcode i.op + bit i.update) i.rt i.ra d w _ (load_displaced_at i.update i.op) h in
    (r.0 ∙ only_true _ _ _ v (simp (← is)), simp is (omega arith, omega arith, omega arith))
written_load i (Index rb) is w v h =
    let r = reads_31 i.rt i.ra rb (load_extended i.op + 32 * bit i.update) false w _ (load_at i.update i.op) h in
    (r.0 ∙ only_true _ _ _ v (simp (← is)), simp is (fives r.1))

written_store : (i : StoreFormat) (o : Offset) → i.offset ≡ o → (w : ℕ) → store_valid i.update i.ra ≡ true → access_word (store_opcode i.op) (store_extended i.op) i.rs i.ra o i.update ≡ Some w → Written w (Store i)
written_store i (Displacement d) is w v h =
    let r = reads_half (store_opcode i.op + bit i.update) i.rs i.ra d w _ (store_displaced_at i.update i.op) h in
    (r.0 ∙ only_true _ _ _ v (simp (← is)), simp is (omega arith, omega arith, omega arith))
written_store i (Index rb) is w v h =
    let r = reads_31 i.rs i.ra rb (store_extended i.op + 32 * bit i.update) false w _ (store_at i.update i.op) h in
    (r.0 ∙ only_true _ _ _ v (simp (← is)), simp is (fives r.1))

pub written : (i : Instruction) (w : ℕ) → encoded i ≡ Some w → Written w i
unfolding primary_at extended_at
written (Immediate i) w h =
    let r = reads_half (immediate_opcode i.op) i.rt i.ra i.immediate w _ (immediate_at i.op) h in
    (r.0, (omega arith, omega arith, omega arith))
written (LogicalImmediate i) w h =
    let r = reads_half (logical_immediate_opcode i.op) i.rs i.ra i.immediate w _ (logical_immediate_at i.op) h in
    (r.0, (omega arith, omega arith, omega arith))
written (CompareImmediate i) w h =
    let s = given_some (ltb i.field 8) (half_form (compare_immediate_opcode i.comparison) (i.field * 4) i.ra i.immediate) w h in
    let r = reads_half (compare_immediate_opcode i.comparison) (i.field * 4) i.ra i.immediate w _ (compare_immediate_at i.comparison) s.1 in
    let f = field_of i.field in
    (r.0 ∙ only_true _ _ _ f.1 (simp f.0), (ltb-true i.field 8 s.0, omega arith, omega arith))
written (TrapImmediate i) w h =
    let r = reads_half 3 i.conditions i.ra i.immediate w primary.TrapImmediate refl h in
    (r.0, (omega arith, omega arith, omega arith))
written (Load i) w h =
    let s = given_some (load_valid i.update i.rt i.ra) (access_word (load_opcode i.op) (load_extended i.op) i.rt i.ra i.offset i.update) w h in written_load i i.offset refl w s.0 s.1
written (Store i) w h =
    let s = given_some (store_valid i.update i.ra) (access_word (store_opcode i.op) (store_extended i.op) i.rs i.ra i.offset i.update) w h in written_store i i.offset refl w s.0 s.1
written (Branch i) w h =
    let s = given_some (ltb i.displacement 0x1000000) (Some (0x48000000 + i.displacement * 4 + bit i.absolute * 2 + bit i.link)) w h in
    let lt = ltb-true i.displacement 0x1000000 s.0 in
    let is : 0x48000000 + i.displacement * 4 + bit i.absolute * 2 + bit i.link ≡ w = cc s.1 in
    let b : (w / 4 ≡ 0x12000000 + i.displacement) × (eqb (w / 2 % 2) 1 ≡ i.absolute) × (eqb (w % 2) 1 ≡ i.link) =
    two_bits (0x12000000 + i.displacement) i.absolute i.link w (omega arith) in
    let p : primary_of w ≡ 18 = omega arith in
    let t : w / 4 % 0x1000000 ≡ i.displacement = omega arith in
    let low : low_of w % 2 ≡ w % 2 = omega arith in
    let l : last_of (low_of w) ≡ i.link = ap (λ n. eqb n 1) low ∙ b.2 in
    (by_number w 18 primary.Branch p refl ∙ simp (t, b.1, l), lt)
written (BranchConditional i) w h =
    let low : ℕ = i.displacement * 4 + bit i.absolute * 2 + bit i.link in
    let s = given_some (options_valid i.options && ltb i.displacement 0x4000) (half_form 16 i.options i.bit low) w h in
    let v = and_parts (options_valid i.options) (ltb i.displacement 0x4000) s.0 in
    let r = reads_half 16 i.options i.bit low w primary.BranchConditional refl s.1 in
    let b = two_bits i.displacement i.absolute i.link low refl in (
      r.0 ∙ only_true _ _ _ v.0 (simp (b.0, b.1, b.2)),
      (omega arith, omega arith, ltb-true i.displacement 0x4000 v.1),
    )
written (BranchRegister i) w h =
    let s = given_some (branch_valid i.target i.options) (extended_form 19 i.options i.bit 0 (branch_extended i.target) i.link) w h in
    let r = reads_19 i.options i.bit 0 (branch_extended i.target) i.link w _ (branch_at i.target) s.1 in
    (r.0 ∙ only_true _ _ _ s.0 refl, (omega arith, omega arith))
written SystemCall w h =
    let e : 0x44000002 ≡ w = cc in
    (subst (λ n. decoded n ≡ Some SystemCall) e (by_number 0x44000002 17 primary.SystemCall refl refl), tt)
written (Rotate i) w h =
    let s = given_some (ltb i.begin 32 && ltb i.end 32) (extended_form (rotate_opcode i.op) i.rs i.ra i.amount (i.begin * 32 + i.end) i.rc) w h in
    let v = and_parts (ltb i.begin 32) (ltb i.end 32) s.0 in
    let lt = ltb-true i.end 32 v.1 in
    let r = reads_whole (rotate_opcode i.op) i.rs i.ra i.amount (i.begin * 32 + i.end) i.rc w _ (rotate_at i.op) s.1 in
    let hi : (i.begin * 32 + i.end) / 32 ≡ i.begin = omega arith in
    let lo : (i.begin * 32 + i.end) % 32 ≡ i.end = omega arith in
    (r.0 ∙ simp (hi, lo), (omega arith, omega arith, omega arith, ltb-true i.begin 32 v.0, lt))
written (ConditionLogical i) w h =
    let r = reads_19 i.target i.first i.second (condition_extended i.op) false w _ (condition_at i.op) h in (r.0, fives r.1)
written (MoveConditionField i) w h =
    let s = given_some (ltb i.to 8 && ltb i.from 8) (extended_form 19 (i.to * 4) (i.from * 4) 0 0 false) w h in
    let v = and_parts (ltb i.to 8) (ltb i.from 8) s.0 in
    let r = reads_19 (i.to * 4) (i.from * 4) 0 0 false w nineteen.MoveConditionField refl s.1 in
    let f = field_of i.to in
    let g = field_of i.from in (
      r.0 ∙ only_true _ _ _ (simp (f.1, g.1)) (simp (f.0, g.0)),
      (ltb-true i.to 8 v.0, ltb-true i.from 8 v.1),
    )
written (Bare op) w h = (written_bare op w h, tt)
written (Arithmetic i) w h =
    let r = reads_31 i.rt i.ra i.rb (arithmetic_extended i.op + 512 * bit i.oe) i.rc w _ (arithmetic_at i.oe i.op) h in (r.0, fives r.1)
written (ArithmeticUnary i) w h =
    let r = reads_31 i.rt i.ra 0 (arithmetic_unary_extended i.op + 512 * bit i.oe) i.rc w _ (arithmetic_unary_at i.oe i.op) h in
    (r.0, (omega arith, omega arith))
written (MultiplyHigh i) w h =
    let r = reads_31 i.rt i.ra i.rb (multiply_high_extended i.op) i.rc w _ (multiply_high_at i.op) h in (r.0, fives r.1)
written (Logical i) w h =
    let r = reads_31 i.rs i.ra i.rb (logical_extended i.op) i.rc w _ (logical_at i.op) h in
    (r.0, (omega arith, omega arith, omega arith))
written (LogicalUnary i) w h =
    let r = reads_31 i.rs i.ra 0 (logical_unary_extended i.op) i.rc w _ (logical_unary_at i.op) h in
    (r.0, (omega arith, omega arith))
written (ShiftRightImmediate i) w h =
    let r = reads_31 i.rs i.ra i.amount 824 i.rc w extended.ShiftRightImmediate refl h in
    (r.0, (omega arith, omega arith, omega arith))
written (Select i) w h =
    let s = given_some (ltb i.bit 32) (extended_form 31 i.rt i.ra i.rb (i.bit * 32 + 15) false) w h in
    let r = reads_31 i.rt i.ra i.rb (i.bit * 32 + 15) false w extended.Select (select_at i.bit) s.1 in
    let e : (i.bit * 32 + 15) / 32 ≡ i.bit = omega arith in
    (r.0 ∙ simp e, (omega arith, omega arith, omega arith, ltb-true i.bit 32 s.0))
written (Compare i) w h =
    let s = given_some (ltb i.field 8) (extended_form 31 (i.field * 4) i.ra i.rb (compare_extended i.comparison) false) w h in
    let r = reads_31 (i.field * 4) i.ra i.rb (compare_extended i.comparison) false w _ (compare_at i.comparison) s.1 in
    let f = field_of i.field in
    (r.0 ∙ only_true _ _ _ (simp f.1) (simp f.0), (ltb-true i.field 8 s.0, omega arith, omega arith))
written (Trap i) w h = let r = reads_31 i.conditions i.ra i.rb 4 false w extended.Trap refl h in (r.0, fives r.1)
written (LoadIndexed i) w h =
    let r = reads_31 i.rt i.ra i.rb (load_indexed_extended i.op) false w _ (load_indexed_at i.op) h in (r.0, fives r.1)
written (StoreIndexed i) w h =
    let r = reads_31 i.rs i.ra i.rb (store_indexed_extended i.op) false w _ (store_indexed_at i.op) h in (r.0, fives r.1)
written (StoreConditional i) w h =
    let r = reads_31 i.rs i.ra i.rb 150 true w extended.StoreConditional refl h in (r.0, fives r.1)
written (MoveFromXer field) w h =
    let s = given_some (ltb field 8) (extended_form 31 (field * 4) 0 0 512 false) w h in
    let r = reads_31 (field * 4) 0 0 512 false w extended.MoveFromXer refl s.1 in
    let f = field_of field in
    (r.0 ∙ only_true _ _ _ (simp f.1) (simp f.0), ltb-true field 8 s.0)
written (Move i) w h =
    let r = reads_31 i.register 0 0 (move_extended i.op) false w _ (move_at i.op) h in (r.0, omega arith)
written (WriteExternalEnable true) w h = ((reads_31 0 0 16 163 false w extended.WriteExternalEnable refl h).0, tt)
written (WriteExternalEnable false) w h = ((reads_31 0 0 0 163 false w extended.WriteExternalEnable refl h).0, tt)
written (MoveToConditionFields i) w h =
    let s = given_some (ltb i.mask 256) (extended_form 31 i.rs (i.mask / 16) (i.mask % 16 * 2) 144 false) w h in
    let lt = ltb-true i.mask 256 s.0 in
    let r = reads_31 i.rs (i.mask / 16) (i.mask % 16 * 2) 144 false w extended.MoveToConditionFields refl s.1 in
    let f : ltb (i.mask / 16) 16 ≡ true = lt-ltb (i.mask / 16) 16 (omega arith) in
    let z : eqb (i.mask % 16 * 2 % 2) 0 ≡ true = eq-eqb (i.mask % 16 * 2 % 2) 0 (omega arith) in
    let e : i.mask / 16 * 16 + i.mask % 16 * 2 / 2 ≡ i.mask = omega arith in
    (r.0 ∙ only_true _ _ _ (simp (f, z)) (simp e), (lt, omega arith))
written (MoveSpecial i) w h =
    let s = given_some (ltb i.number 1024) (extended_form 31 i.register (i.number % 32) (i.number / 32) (special_extended i.op) false) w h in
    let r = reads_31 i.register (i.number % 32) (i.number / 32) (special_extended i.op) false w _ (special_at i.op) s.1 in
    let e : i.number / 32 * 32 + i.number % 32 ≡ i.number = omega arith in
    (r.0 ∙ simp e, (omega arith, ltb-true i.number 1024 s.0))
written (TlbWord i) w h =
    let s = given_some (ltb i.word 3) (extended_form 31 i.register i.ra i.word (tlb_word_extended i.op) false) w h in
    let r = reads_31 i.register i.ra i.word (tlb_word_extended i.op) false w _ (tlb_word_at i.op) s.1 in
    (r.0 ∙ only_true _ _ _ (simp s.0) refl, (omega arith, omega arith, ltb-true i.word 3 s.0))
written (TlbSearch i) w h = let r = reads_31 i.rt i.ra i.rb 914 i.rc w extended.TlbSearch refl h in (r.0, fives r.1)
written (Barrier ordering) w h = let r = reads_31 ordering 0 0 854 false w extended.Barrier refl h in (r.0, omega arith)
