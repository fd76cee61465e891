-- What a listed opcode stands for, and the opcode of what is listed. Assumes nothing.
use Rattle.std.proofs.Common.{◌≡◌, ℕ, ◌+◌, ◌*◌, ◌%◌, Bool, true, false, ◌&&◌, eqb, Some, List, [], ◌∷◌, refl, subst}
use Rattle.std.proofs.lemmas.Bool.{and_parts, eqb-true}
use Rattle.isa.specs.Fields.{bit}
use Rattle.isa.specs.Listed.{find, listed_primary, listed_nineteen, listed_extended, primary_at, nineteen_at, extended_at}
use Rattle.isa.specs.Opcodes.{immediate_opcode, logical_immediate_opcode, compare_immediate_opcode, rotate_opcode, load_opcode, store_opcode, branch_extended, condition_extended, bare_opcode, bare_extended, arithmetic_extended, arithmetic_unary_extended, multiply_high_extended, logical_extended, logical_unary_extended, compare_extended, load_extended, store_extended, load_indexed_extended, store_indexed_extended, move_extended, special_extended, tlb_word_extended}
use Rattle.isa.specs.declared.instruction.ImmediateOp.{ImmediateOp}
use Rattle.isa.specs.declared.instruction.ImmediateOp.TheVariants.{Addi, Addis, Addic, AddicRecord, Subfic, Mulli}
use Rattle.isa.specs.declared.instruction.LogicalImmediateOp.{LogicalImmediateOp}
use Rattle.isa.specs.declared.instruction.LogicalImmediateOp.TheVariants.{AndiRecord, AndisRecord, Ori, Oris, Xori, Xoris}
use Rattle.isa.specs.declared.instruction.ArithmeticOp.{ArithmeticOp}
use Rattle.isa.specs.declared.instruction.ArithmeticOp.TheVariants.{Add, Addc, Adde, Subf, Subfc, Subfe, Mullw, Divw, Divwu}
use Rattle.isa.specs.declared.instruction.ArithmeticUnaryOp.{ArithmeticUnaryOp}
use Rattle.isa.specs.declared.instruction.ArithmeticUnaryOp.TheVariants.{Addme, Addze, Subfme, Subfze, Neg}
use Rattle.isa.specs.declared.instruction.MultiplyHighOp.{MultiplyHighOp}
use Rattle.isa.specs.declared.instruction.MultiplyHighOp.TheVariants.{Mulhw, Mulhwu}
use Rattle.isa.specs.declared.instruction.LogicalOp.{LogicalOp}
use Rattle.isa.specs.declared.instruction.LogicalOp.TheVariants.{And, Andc, Nand, Or, Orc, Nor, Xor, Eqv, Slw, Srw, Sraw}
use Rattle.isa.specs.declared.instruction.LogicalUnaryOp.{LogicalUnaryOp}
use Rattle.isa.specs.declared.instruction.LogicalUnaryOp.TheVariants.{Extsb, Extsh, Cntlzw}
use Rattle.isa.specs.declared.instruction.RotateOp.{RotateOp}
use Rattle.isa.specs.declared.instruction.RotateOp.TheVariants.{Rlwimi, Rlwinm, Rlwnm}
use Rattle.isa.specs.declared.instruction.LoadOp.{LoadOp}
use Rattle.isa.specs.declared.instruction.LoadOp.TheVariants.{Lbz, Lhz, Lha, Lwz}
use Rattle.isa.specs.declared.instruction.StoreOp.{StoreOp}
use Rattle.isa.specs.declared.instruction.StoreOp.TheVariants.{Stb, Sth, Stw}
use Rattle.isa.specs.declared.instruction.LoadIndexedOp.{LoadIndexedOp}
use Rattle.isa.specs.declared.instruction.LoadIndexedOp.TheVariants.{Lhbrx, Lwbrx, Lwarx}
use Rattle.isa.specs.declared.instruction.StoreIndexedOp.{StoreIndexedOp}
use Rattle.isa.specs.declared.instruction.StoreIndexedOp.TheVariants.{Sthbrx, Stwbrx}
use Rattle.isa.specs.declared.instruction.BranchTarget.{BranchTarget}
use Rattle.isa.specs.declared.instruction.BranchTarget.TheVariants.{Link, Count}
use Rattle.isa.specs.declared.instruction.ConditionOp.{ConditionOp}
use Rattle.isa.specs.declared.instruction.ConditionOp.TheVariants.{Crand, Crandc, Creqv, Crnand, Crnor, Cror, Crorc, Crxor}
use Rattle.isa.specs.declared.instruction.MoveOp.{MoveOp}
use Rattle.isa.specs.declared.instruction.MoveOp.TheVariants.{Mfcr, Mfmsr, Mtmsr, Wrtee}
use Rattle.isa.specs.declared.instruction.SpecialOp.{SpecialOp}
use Rattle.isa.specs.declared.instruction.SpecialOp.TheVariants.{Mfspr, Mtspr}
use Rattle.isa.specs.declared.instruction.TlbWordOp.{TlbWordOp}
use Rattle.isa.specs.declared.instruction.TlbWordOp.TheVariants.{Tlbre, Tlbwe}
use Rattle.isa.specs.declared.instruction.Comparison.{Comparison}
use Rattle.isa.specs.declared.instruction.Comparison.TheVariants.{Signed, Unsigned}
use Rattle.isa.specs.declared.table.Primary.{Primary}
use Rattle.isa.specs.declared.table.Primary.TheVariants as primary
use Rattle.isa.specs.declared.table.Nineteen.{Nineteen}
use Rattle.isa.specs.declared.table.Nineteen.TheVariants as nineteen
use Rattle.isa.specs.declared.table.Extended.{Extended}
use Rattle.isa.specs.declared.table.Extended.TheVariants as extended

-- a test passes at each row of a list
abbrev every_row : {X : Type 0} → (ℕ → X → Bool) → List (ℕ × X) → Bool
every_row t [] = true
every_row t (row ∷ rest) = t row.0 row.1 && every_row t rest

-- and so at what is found there
find_tested : {X : Type 0} (t : ℕ → X → Bool) (k : ℕ) (rows : List (ℕ × X)) (x : X) → every_row t rows ≡ true → find k rows ≡ Some x → t k x ≡ true
find_tested t k [] x h is = cc
find_tested {X} t k (row ∷ rest) x h is =
    go (eqb k row.0) refl (find_tested t k rest x (and_parts (t row.0 row.1) (every_row t rest) h).1) is
  where
    go : (b : Bool) → eqb k row.0 ≡ b → (find k rest ≡ Some x → t k x ≡ true) → elim b [ true ↦ Some row.1 | false ↦ find k rest ] ≡ Some x → t k x ≡ true
    go true q r e = let n = eqb-true k row.0 q in let p = (and_parts (t row.0 row.1) (every_row t rest) h).0 in cc
    go false q r e = r e

-- whether a form has an opcode: of what an opcode stands for, it has that opcode
abbrev pub primary_numbered : ℕ → Primary → Bool
primary_numbered k (primary.Immediate op) = eqb k (immediate_opcode op)
primary_numbered k (primary.LogicalImmediate op) = eqb k (logical_immediate_opcode op)
primary_numbered k (primary.CompareImmediate comparison) = eqb k (compare_immediate_opcode comparison)
primary_numbered k primary.TrapImmediate = eqb k 3
primary_numbered k (primary.Rotate op) = eqb k (rotate_opcode op)
primary_numbered k (primary.Load op update) = eqb k (load_opcode op + bit update)
primary_numbered k (primary.Store op update) = eqb k (store_opcode op + bit update)
primary_numbered k primary.BranchConditional = eqb k 16
primary_numbered k primary.SystemCall = eqb k 17
primary_numbered k primary.Branch = eqb k 18
primary_numbered k primary.Nineteen = eqb k 19
primary_numbered k primary.Extended = eqb k 31

pub primary_right : (k : ℕ) (form : Primary) → primary_at k ≡ Some form → primary_numbered k form ≡ true
unfolding primary_at
primary_right k form is = find_tested primary_numbered k listed_primary form refl is

abbrev pub nineteen_numbered : ℕ → Nineteen → Bool
nineteen_numbered k (nineteen.Branch target) = eqb k (branch_extended target)
nineteen_numbered k (nineteen.ConditionLogical op) = eqb k (condition_extended op)
nineteen_numbered k nineteen.MoveConditionField = eqb k 0
nineteen_numbered k (nineteen.Bare op) = eqb (bare_opcode op) 19 && eqb k (bare_extended op)

pub nineteen_right : (k : ℕ) (form : Nineteen) → nineteen_at k ≡ Some form → nineteen_numbered k form ≡ true
nineteen_right k form is = find_tested nineteen_numbered k listed_nineteen form refl is

abbrev pub extended_numbered : ℕ → Extended → Bool
extended_numbered k (extended.Arithmetic op oe) = eqb k (arithmetic_extended op + 512 * bit oe)
extended_numbered k (extended.ArithmeticUnary op oe) = eqb k (arithmetic_unary_extended op + 512 * bit oe)
extended_numbered k (extended.MultiplyHigh op) = eqb k (multiply_high_extended op)
extended_numbered k (extended.Logical op) = eqb k (logical_extended op)
extended_numbered k (extended.LogicalUnary op) = eqb k (logical_unary_extended op)
extended_numbered k extended.ShiftRightImmediate = eqb k 824
extended_numbered k (extended.Compare comparison) = eqb k (compare_extended comparison)
extended_numbered k extended.Trap = eqb k 4
extended_numbered k (extended.Load op update) = eqb k (load_extended op + 32 * bit update)
extended_numbered k (extended.Store op update) = eqb k (store_extended op + 32 * bit update)
extended_numbered k (extended.LoadIndexed op) = eqb k (load_indexed_extended op)
extended_numbered k (extended.StoreIndexed op) = eqb k (store_indexed_extended op)
extended_numbered k extended.StoreConditional = eqb k 150
extended_numbered k extended.MoveFromXer = eqb k 512
extended_numbered k (extended.Move op) = eqb k (move_extended op)
extended_numbered k extended.WriteExternalEnable = eqb k 163
extended_numbered k extended.MoveToConditionFields = eqb k 144
extended_numbered k (extended.MoveSpecial op) = eqb k (special_extended op)
extended_numbered k (extended.TlbWord op) = eqb k (tlb_word_extended op)
extended_numbered k extended.TlbSearch = eqb k 914
extended_numbered k extended.Barrier = eqb k 854
extended_numbered k (extended.Bare op) = eqb (bare_opcode op) 31 && eqb k (bare_extended op)
extended_numbered k extended.Select = eqb (k % 32) 15

pub extended_right : (k : ℕ) (form : Extended) → extended_at k ≡ Some form → extended_numbered k form ≡ true
unfolding extended_at
extended_right k form is = go (eqb (k % 32) 15) refl is
  where
    go : (b : Bool) → eqb (k % 32) 15 ≡ b → elim b [ true ↦ Some extended.Select | false ↦ find k listed_extended ] ≡ Some form → extended_numbered k form ≡ true
    go true q e = let s : extended.Select ≡ form = cc in subst (λ x. extended_numbered k x ≡ true) s q
    go false q e = find_tested extended_numbered k listed_extended form refl e

-- and the form of an opcode: one computation for each operation
pub immediate_at : (op : ImmediateOp) → primary_at (immediate_opcode op) ≡ Some (primary.Immediate op)
unfolding primary_at
immediate_at = elim [ Addi ↦ refl | Addis ↦ refl | Addic ↦ refl | AddicRecord ↦ refl | Subfic ↦ refl | Mulli ↦ refl ]

pub logical_immediate_at : (op : LogicalImmediateOp) → primary_at (logical_immediate_opcode op) ≡ Some (primary.LogicalImmediate op)
unfolding primary_at
logical_immediate_at = elim [ AndiRecord ↦ refl | AndisRecord ↦ refl | Ori ↦ refl | Oris ↦ refl | Xori ↦ refl | Xoris ↦ refl ]

pub compare_immediate_at : (op : Comparison) → primary_at (compare_immediate_opcode op) ≡ Some (primary.CompareImmediate op)
unfolding primary_at
compare_immediate_at = elim [ Signed ↦ refl | Unsigned ↦ refl ]

pub rotate_at : (op : RotateOp) → primary_at (rotate_opcode op) ≡ Some (primary.Rotate op)
unfolding primary_at
rotate_at = elim [ Rlwimi ↦ refl | Rlwinm ↦ refl | Rlwnm ↦ refl ]

pub load_displaced_at : (update : Bool) (op : LoadOp) → primary_at (load_opcode op + bit update) ≡ Some (primary.Load op update)
unfolding primary_at
load_displaced_at true = elim [ Lbz ↦ refl | Lhz ↦ refl | Lha ↦ refl | Lwz ↦ refl ]
load_displaced_at false = elim [ Lbz ↦ refl | Lhz ↦ refl | Lha ↦ refl | Lwz ↦ refl ]

pub store_displaced_at : (update : Bool) (op : StoreOp) → primary_at (store_opcode op + bit update) ≡ Some (primary.Store op update)
unfolding primary_at
store_displaced_at true = elim [ Stb ↦ refl | Sth ↦ refl | Stw ↦ refl ]
store_displaced_at false = elim [ Stb ↦ refl | Sth ↦ refl | Stw ↦ refl ]

pub branch_at : (op : BranchTarget) → nineteen_at (branch_extended op) ≡ Some (nineteen.Branch op)
branch_at = elim [ Link ↦ refl | Count ↦ refl ]

pub condition_at : (op : ConditionOp) → nineteen_at (condition_extended op) ≡ Some (nineteen.ConditionLogical op)
condition_at = elim [ Crand ↦ refl | Crandc ↦ refl | Creqv ↦ refl | Crnand ↦ refl | Crnor ↦ refl | Cror ↦ refl | Crorc ↦ refl | Crxor ↦ refl ]

pub arithmetic_at : (oe : Bool) (op : ArithmeticOp) → extended_at (arithmetic_extended op + 512 * bit oe) ≡ Some (extended.Arithmetic op oe)
unfolding extended_at
arithmetic_at true = elim [ Add ↦ refl | Addc ↦ refl | Adde ↦ refl | Subf ↦ refl | Subfc ↦ refl | Subfe ↦ refl | Mullw ↦ refl | Divw ↦ refl | Divwu ↦ refl ]
arithmetic_at false = elim [ Add ↦ refl | Addc ↦ refl | Adde ↦ refl | Subf ↦ refl | Subfc ↦ refl | Subfe ↦ refl | Mullw ↦ refl | Divw ↦ refl | Divwu ↦ refl ]

pub arithmetic_unary_at : (oe : Bool) (op : ArithmeticUnaryOp) → extended_at (arithmetic_unary_extended op + 512 * bit oe) ≡ Some (extended.ArithmeticUnary op oe)
unfolding extended_at
arithmetic_unary_at true = elim [ Addme ↦ refl | Addze ↦ refl | Subfme ↦ refl | Subfze ↦ refl | Neg ↦ refl ]
arithmetic_unary_at false = elim [ Addme ↦ refl | Addze ↦ refl | Subfme ↦ refl | Subfze ↦ refl | Neg ↦ refl ]

pub multiply_high_at : (op : MultiplyHighOp) → extended_at (multiply_high_extended op) ≡ Some (extended.MultiplyHigh op)
unfolding extended_at
multiply_high_at = elim [ Mulhw ↦ refl | Mulhwu ↦ refl ]

pub logical_at : (op : LogicalOp) → extended_at (logical_extended op) ≡ Some (extended.Logical op)
unfolding extended_at
logical_at = elim [ And ↦ refl | Andc ↦ refl | Nand ↦ refl | Or ↦ refl | Orc ↦ refl | Nor ↦ refl | Xor ↦ refl | Eqv ↦ refl | Slw ↦ refl | Srw ↦ refl | Sraw ↦ refl ]

pub logical_unary_at : (op : LogicalUnaryOp) → extended_at (logical_unary_extended op) ≡ Some (extended.LogicalUnary op)
unfolding extended_at
logical_unary_at = elim [ Extsb ↦ refl | Extsh ↦ refl | Cntlzw ↦ refl ]

pub compare_at : (op : Comparison) → extended_at (compare_extended op) ≡ Some (extended.Compare op)
unfolding extended_at
compare_at = elim [ Signed ↦ refl | Unsigned ↦ refl ]

pub load_at : (update : Bool) (op : LoadOp) → extended_at (load_extended op + 32 * bit update) ≡ Some (extended.Load op update)
unfolding extended_at
load_at true = elim [ Lbz ↦ refl | Lhz ↦ refl | Lha ↦ refl | Lwz ↦ refl ]
load_at false = elim [ Lbz ↦ refl | Lhz ↦ refl | Lha ↦ refl | Lwz ↦ refl ]

pub store_at : (update : Bool) (op : StoreOp) → extended_at (store_extended op + 32 * bit update) ≡ Some (extended.Store op update)
unfolding extended_at
store_at true = elim [ Stb ↦ refl | Sth ↦ refl | Stw ↦ refl ]
store_at false = elim [ Stb ↦ refl | Sth ↦ refl | Stw ↦ refl ]

pub load_indexed_at : (op : LoadIndexedOp) → extended_at (load_indexed_extended op) ≡ Some (extended.LoadIndexed op)
unfolding extended_at
load_indexed_at = elim [ Lhbrx ↦ refl | Lwbrx ↦ refl | Lwarx ↦ refl ]

pub store_indexed_at : (op : StoreIndexedOp) → extended_at (store_indexed_extended op) ≡ Some (extended.StoreIndexed op)
unfolding extended_at
store_indexed_at = elim [ Sthbrx ↦ refl | Stwbrx ↦ refl ]

pub move_at : (op : MoveOp) → extended_at (move_extended op) ≡ Some (extended.Move op)
unfolding extended_at
move_at = elim [ Mfcr ↦ refl | Mfmsr ↦ refl | Mtmsr ↦ refl | Wrtee ↦ refl ]

pub special_at : (op : SpecialOp) → extended_at (special_extended op) ≡ Some (extended.MoveSpecial op)
unfolding extended_at
special_at = elim [ Mfspr ↦ refl | Mtspr ↦ refl ]

pub tlb_word_at : (op : TlbWordOp) → extended_at (tlb_word_extended op) ≡ Some (extended.TlbWord op)
unfolding extended_at
tlb_word_at = elim [ Tlbre ↦ refl | Tlbwe ↦ refl ]
