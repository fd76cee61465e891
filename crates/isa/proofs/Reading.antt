-- What a word reads as is written as that word. Assumes nothing.
use Rattle.std.proofs.Common.{◌≡◌, ℕ, ◌+◌, ◌*◌, ◌/◌, ◌%◌, ◌^◌, ◌<◌, Bool, true, false, not, ◌&&◌, eqb, ltb, Some, None, Option, option_and_then, refl, ap, subst, arith}
use Rattle.std.proofs.lemmas.Bool.{and_from, and_parts, eqb-true, lt-ltb, ltb-true, not-true}
use Rattle.std.proofs.lemmas.Bool.Decides.{nat_tests}
use Rattle.std.specs.Bool.{then_some}
use Rattle.isa.specs.Fields.{primary_of, first_of, second_of, low_of, third_of, extended_of, last_of, fields_of, bit, given, half_form, extended_form}
use Rattle.isa.specs.Listed.{primary_at, nineteen_at, extended_at}
use Rattle.isa.specs.Valid.{branch_valid}
use Rattle.isa.specs.Decoded.{bare, by_nineteen, by_extended, by_primary, decoded}
use Rattle.isa.specs.Encoded.{encoded}
use Rattle.isa.specs.Opcodes.{immediate_opcode, logical_immediate_opcode, compare_immediate_opcode, rotate_opcode, load_opcode, store_opcode, branch_extended, condition_extended, bare_opcode, bare_extended, arithmetic_extended, arithmetic_unary_extended, multiply_high_extended, logical_extended, logical_unary_extended, compare_extended, load_extended, store_extended, load_indexed_extended, store_indexed_extended, move_extended, special_extended, tlb_word_extended}
use Rattle.isa.specs.declared.instruction.BareOp.{BareOp}
use Rattle.isa.specs.declared.instruction.Instruction.{Instruction}
use Rattle.isa.specs.declared.instruction.Instruction.TheVariants.{Bare}
use Rattle.isa.specs.declared.table.Primary.{Primary}
use Rattle.isa.specs.declared.table.Primary.TheVariants as primary
use Rattle.isa.specs.declared.table.Nineteen.{Nineteen}
use Rattle.isa.specs.declared.table.Nineteen.TheVariants as nineteen
use Rattle.isa.specs.declared.table.Extended.{Extended}
use Rattle.isa.specs.declared.table.Extended.TheVariants as extended
use Rattle.isa.proofs.Forms.{given_true, half_whole, extended_whole}
use Rattle.isa.proofs.Places.{primary_numbered, primary_right, nineteen_numbered, nineteen_right, extended_numbered, extended_right}

-- what was read, if anything, is written as the word
abbrev Back : ℕ → Option Instruction → Type 0
Back w None = Unit {0}
Back w (Some i) = encoded i ≡ Some w

then_back : (w : ℕ) (b : Bool) (i : Instruction) → (b ≡ true → encoded i ≡ Some w) → Back w (then_some b i)
then_back w true i h = h refl
then_back w false i h = tt

given_back : (w : ℕ) (b : Bool) (o : Option Instruction) → (b ≡ true → Back w o) → Back w (given b o)
given_back w true o h = h refl
given_back w false o h = tt

found_back : {X : Type 0} (w : ℕ) (by : X → Option Instruction) (o : Option X) → ((x : X) → o ≡ Some x → Back w (by x)) → Back w (option_and_then by o)
found_back w by None h = tt
found_back w by (Some x) h = h x refl

-- the tests of a form, taken apart
three : (a b c : Bool) → (a && (b && c)) ≡ true → (a ≡ true) × (b ≡ true) × (c ≡ true)
three a b c t = let s = and_parts a (b && c) t in let u = and_parts b c s.1 in (s.0, u.0, u.1)

four : (a b c d : Bool) → (a && (b && (c && d))) ≡ true → (a ≡ true) × (b ≡ true) × (c ≡ true) × (d ≡ true)
four a b c d t = let s = and_parts a (b && (c && d)) t in let u = three b c d s.1 in (s.0, u.0, u.1, u.2)

module _ (w : ℕ) (fits : w < 2 ^ 32) where
  -- the word as a form of its own fields
  as_half : (p : ℕ) → eqb (primary_of w) p ≡ true → half_form p (first_of w) (second_of w) (low_of w) ≡ Some w
  as_half p hp = let e = half_whole w fits in let n = eqb-true (primary_of w) p hp in cc

  as_extended : (p x : ℕ) → primary_of w ≡ p → eqb (extended_of (low_of w)) x ≡ true → extended_form p (first_of w) (second_of w) (third_of (low_of w)) x (last_of (low_of w)) ≡ Some w
  as_extended p x hp hx = let e = extended_whole w fits in let n = eqb-true (extended_of (low_of w)) x hx in cc

  -- with the last bit clear, and with fields that are zero
  as_clear : (p x : ℕ) → primary_of w ≡ p → eqb (extended_of (low_of w)) x ≡ true → not (last_of (low_of w)) ≡ true → extended_form p (first_of w) (second_of w) (third_of (low_of w)) x false ≡ Some w
  as_clear p x hp hx hl = let e = as_extended p x hp hx in let l = not-true (last_of (low_of w)) hl in cc

  as_one_field : (p x : ℕ) → primary_of w ≡ p → eqb (extended_of (low_of w)) x ≡ true → eqb (second_of w) 0 ≡ true → eqb (third_of (low_of w)) 0 ≡ true → not (last_of (low_of w)) ≡ true → extended_form p (first_of w) 0 0 x false ≡ Some w
  as_one_field p x hp hx hs ht hl =
      let e = as_clear p x hp hx hl in let s = eqb-true (second_of w) 0 hs in let t = eqb-true (third_of (low_of w)) 0 ht in cc

  -- a condition field in a field of five bits
  field_back : (n : ℕ) → n < 32 → eqb (n % 4) 0 ≡ true → (ltb (n / 4) 8 ≡ true) × (n / 4 * 4 ≡ n)
  field_back n h e = let z = eqb-true (n % 4) 0 e in (lt-ltb (n / 4) 8 (omega arith), omega arith)

  bare_back : (op : BareOp) (p : ℕ) → primary_of w ≡ p → (eqb (bare_opcode op) p && eqb (extended_of (low_of w)) (bare_extended op)) ≡ true → Back w (then_some (bare (fields_of w)) (Bare op))
  bare_back op p hp n =
      then_back w _ _
      (λ t. let s = four (eqb (first_of w) 0) (eqb (second_of w) 0) (eqb (third_of (low_of w)) 0) (not (last_of (low_of w))) t in
      let v = and_parts (eqb (bare_opcode op) p) (eqb (extended_of (low_of w)) (bare_extended op)) n in
      let e = as_one_field p (bare_extended op) hp v.1 s.1 s.2 s.3 in
      let z = eqb-true (first_of w) 0 s.0 in
      let q = eqb-true (bare_opcode op) p v.0 in cc)

  extended_back : (e : Extended) → primary_of w ≡ 31 → extended_numbered (extended_of (low_of w)) e ≡ true → Back w (by_extended e (fields_of w))
  extended_back (extended.Arithmetic op oe) p n = as_extended 31 (arithmetic_extended op + 512 * bit oe) p n
  extended_back (extended.ArithmeticUnary op oe) p n =
      then_back w _ _
      (λ t. let z = eqb-true (third_of (low_of w)) 0 t in let e = as_extended 31 (arithmetic_unary_extended op + 512 * bit oe) p n in cc)
  extended_back (extended.MultiplyHigh op) p n = as_extended 31 (multiply_high_extended op) p n
  extended_back (extended.Logical op) p n = as_extended 31 (logical_extended op) p n
  extended_back (extended.LogicalUnary op) p n =
      then_back w _ _ (λ t. let z = eqb-true (third_of (low_of w)) 0 t in let e = as_extended 31 (logical_unary_extended op) p n in cc)
  extended_back extended.ShiftRightImmediate p n = as_extended 31 824 p n
  extended_back extended.Select p n =
      then_back w _ _
      (λ t. let l = not-true (last_of (low_of w)) t in
      let z = eqb-true (extended_of (low_of w) % 32) 15 n in
      let d : extended_of (low_of w) / 32 * 32 + 15 ≡ extended_of (low_of w) = omega arith in
      let e = extended_whole w fits in
      given_true _ _ _ (lt-ltb (extended_of (low_of w) / 32) 32 (omega arith)) (cc))
  extended_back (extended.Compare comparison) p n =
      then_back w _ _
      (λ t. let s = and_parts (eqb (first_of w % 4) 0) (not (last_of (low_of w))) t in
      let f = field_back (first_of w) (omega arith) s.0 in
      let e = as_clear 31 (compare_extended comparison) p n s.1 in
      given_true _ _ _ f.0 (cc))
  extended_back extended.Trap p n = then_back w _ _ (λ t. as_clear 31 4 p n t)
  extended_back (extended.Load op update) p n =
      given_back w _ _ (λ l. then_back w _ _ (λ v. given_true _ _ _ v (as_clear 31 (load_extended op + 32 * bit update) p n l)))
  extended_back (extended.Store op update) p n =
      given_back w _ _ (λ l. then_back w _ _ (λ v. given_true _ _ _ v (as_clear 31 (store_extended op + 32 * bit update) p n l)))
  extended_back (extended.LoadIndexed op) p n = then_back w _ _ (λ t. as_clear 31 (load_indexed_extended op) p n t)
  extended_back (extended.StoreIndexed op) p n = then_back w _ _ (λ t. as_clear 31 (store_indexed_extended op) p n t)
  extended_back extended.StoreConditional p n = then_back w _ _ (λ t. let e = as_extended 31 150 p n in cc)
  extended_back extended.MoveFromXer p n =
      then_back w _ _
      (λ t. let s = four (eqb (first_of w % 4) 0) (eqb (second_of w) 0) (eqb (third_of (low_of w)) 0) (not (last_of (low_of w))) t in
      let f = field_back (first_of w) (omega arith) s.0 in
      let e = as_one_field 31 512 p n s.1 s.2 s.3 in
      given_true _ _ _ f.0 (cc))
  extended_back (extended.Move op) p n =
      then_back w _ _
      (λ t. let s = three (eqb (second_of w) 0) (eqb (third_of (low_of w)) 0) (not (last_of (low_of w))) t in
      as_one_field 31 (move_extended op) p n s.0 s.1 s.2)
  extended_back extended.WriteExternalEnable p n =
      then_back w _ _
      (λ t. let s = four (eqb (first_of w) 0) (eqb (second_of w) 0) (eqb (third_of (low_of w) % 16) 0) (not (last_of (low_of w))) t in
      let a = eqb-true (first_of w) 0 s.0 in
      let b = eqb-true (second_of w) 0 s.1 in
      let z = eqb-true (third_of (low_of w) % 16) 0 s.2 in
      let e = as_clear 31 163 p n s.3 in
      let d : bit (eqb (third_of (low_of w) / 16) 1) * 16 ≡ third_of (low_of w) = grind (arith, nat_tests) in cc)
  extended_back extended.MoveToConditionFields p n =
      then_back w _ _
      (λ t. let s = three (ltb (second_of w) 16) (eqb (third_of (low_of w) % 2) 0) (not (last_of (low_of w))) t in
      let lt = ltb-true (second_of w) 16 s.0 in
      let z = eqb-true (third_of (low_of w) % 2) 0 s.1 in
      let e = as_clear 31 144 p n s.2 in
      let hi : (second_of w * 16 + third_of (low_of w) / 2) / 16 ≡ second_of w = omega arith in
      let lo : (second_of w * 16 + third_of (low_of w) / 2) % 16 * 2 ≡ third_of (low_of w) = omega arith in
      given_true _ _ _ (lt-ltb (second_of w * 16 + third_of (low_of w) / 2) 256 (omega arith)) (cc))
  extended_back (extended.MoveSpecial op) p n =
      then_back w _ _
      (λ t. let e = as_clear 31 (special_extended op) p n t in
      let hi : (third_of (low_of w) * 32 + second_of w) / 32 ≡ third_of (low_of w) = omega arith in
      let lo : (third_of (low_of w) * 32 + second_of w) % 32 ≡ second_of w = omega arith in
      given_true _ _ _ (lt-ltb (third_of (low_of w) * 32 + second_of w) 1024 (omega arith)) (cc))
  extended_back (extended.TlbWord op) p n =
      then_back w _ _
      (λ t. let s = and_parts (ltb (third_of (low_of w)) 3) (not (last_of (low_of w))) t in
      given_true _ _ _ s.0 (as_clear 31 (tlb_word_extended op) p n s.1))
  extended_back extended.TlbSearch p n = as_extended 31 914 p n
  extended_back extended.Barrier p n =
      then_back w _ _
      (λ t. let s = three (eqb (second_of w) 0) (eqb (third_of (low_of w)) 0) (not (last_of (low_of w))) t in
      as_one_field 31 854 p n s.0 s.1 s.2)
  extended_back (extended.Bare op) p n = bare_back op 31 p n

  nineteen_back : (e : Nineteen) → primary_of w ≡ 19 → nineteen_numbered (extended_of (low_of w)) e ≡ true → Back w (by_nineteen e (fields_of w))
  nineteen_back (nineteen.Branch target) p n =
      then_back w _ _
      (λ t. let s = and_parts (eqb (third_of (low_of w)) 0) (branch_valid target (first_of w)) t in
      let z = eqb-true (third_of (low_of w)) 0 s.0 in
      let e = as_extended 19 (branch_extended target) p n in
      given_true _ _ _ s.1 (cc))
  nineteen_back (nineteen.ConditionLogical op) p n = then_back w _ _ (λ t. as_clear 19 (condition_extended op) p n t)
  nineteen_back (nineteen.Bare op) p n = bare_back op 19 p n
  nineteen_back nineteen.MoveConditionField p n =
      then_back w _ _
      (λ t. let s = four (eqb (first_of w % 4) 0) (eqb (second_of w % 4) 0) (eqb (third_of (low_of w)) 0) (not (last_of (low_of w))) t in
      let f = field_back (first_of w) (omega arith) s.0 in
      let g = field_back (second_of w) (omega arith) s.1 in
      let z = eqb-true (third_of (low_of w)) 0 s.2 in
      let e = as_clear 19 0 p n s.3 in
      given_true _ _ _ (and_from _ _ f.0 g.0) (cc))

  -- two single bits at the end of a form
  two_bits : (n : ℕ) → n / 4 * 4 + bit (eqb (n / 2 % 2) 1) * 2 + bit (eqb (n % 2) 1) ≡ n
  two_bits n = grind (arith, nat_tests)

  primary_back : (e : Primary) → primary_numbered (primary_of w) e ≡ true → Back w (by_primary e w (fields_of w))
  primary_back (primary.Immediate op) n = as_half (immediate_opcode op) n
  primary_back (primary.LogicalImmediate op) n = as_half (logical_immediate_opcode op) n
  primary_back (primary.CompareImmediate comparison) n =
      then_back w _ _
      (λ t. let f = field_back (first_of w) (omega arith) t in
      let e = as_half (compare_immediate_opcode comparison) n in
      given_true _ _ _ f.0 (cc))
  primary_back primary.TrapImmediate n = as_half 3 n
  primary_back (primary.Rotate op) n =
      let p = eqb-true (primary_of w) (rotate_opcode op) n in
      let d : extended_of (low_of w) / 32 * 32 + extended_of (low_of w) % 32 ≡ extended_of (low_of w) = omega arith in
      let e = extended_whole w fits in
      given_true _ _ _
      (and_from _ _ (lt-ltb (extended_of (low_of w) / 32) 32 (omega arith)) (lt-ltb (extended_of (low_of w) % 32) 32 (omega arith))) (cc)
  primary_back (primary.Load op update) n = then_back w _ _ (λ t. given_true _ _ _ t (as_half (load_opcode op + bit update) n))
  primary_back (primary.Store op update) n = then_back w _ _ (λ t. given_true _ _ _ t (as_half (store_opcode op + bit update) n))
  primary_back primary.BranchConditional n =
      then_back w _ _
      (λ t. let e = two_bits (low_of w) in
      let h = as_half 16 n in
      given_true _ _ _ (and_from _ _ t (lt-ltb (low_of w / 4) 0x4000 (omega arith))) (cc))
  primary_back primary.SystemCall n = then_back w _ _ (λ t. let e = eqb-true w 0x44000002 t in cc)
  primary_back primary.Branch n =
      let p = eqb-true (primary_of w) 18 n in
      let low : low_of w % 2 ≡ w % 2 = omega arith in
      let e = two_bits w in
      let q : bit (last_of (low_of w)) ≡ bit (eqb (w % 2) 1) = ap (λ n. bit (eqb n 1)) low in
      given_true _ _ _ (lt-ltb (w / 4 % 0x1000000) 0x1000000 (omega arith)) (ap Some (omega arith))
  primary_back primary.Nineteen n =
      found_back w _ (nineteen_at (extended_of (low_of w))) (λ form is. nineteen_back form (eqb-true (primary_of w) 19 n) (nineteen_right _ form is))
  primary_back primary.Extended n =
      found_back w _ (extended_at (extended_of (low_of w))) (λ form is. extended_back form (eqb-true (primary_of w) 31 n) (extended_right _ form is))

  pub reading : (i : Instruction) → decoded w ≡ Some i → encoded i ≡ Some w
  unfolding decoded
  reading i h =
      subst (λ o. Back w o) h
      (found_back w _ (primary_at (primary_of w)) (λ form is. primary_back form (primary_right _ form is)))
