-- What a form's word reads as, and that a word is the form of its fields. Assumes nothing.
use Rattle.std.proofs.Common.{◌≡◌, ℕ, ◌+◌, ◌*◌, ◌%◌, ◌^◌, ◌<◌, Bool, true, false, ◌&&◌, ltb, Some, Option, sym, refl, arith}
use Rattle.std.proofs.lemmas.Bool.{and_parts, ltb-true, lt-ltb}
use Rattle.std.proofs.lemmas.Bool.Decides.{nat_tests}
use Rattle.isa.specs.Fields.{primary_of, first_of, second_of, low_of, third_of, extended_of, last_of, bit, given, half_form, extended_form}

-- a value that stands under a condition, taken apart and put together
pub given_some : {X : Type 0} (b : Bool) (o : Option X) (x : X) → given b o ≡ Some x → (b ≡ true) × (o ≡ Some x)
given_some true o x h = (refl, h)
given_some false o x h = let z : ◌≡◌ {A = ℕ} 0 1 = cc in let bad : ⊥ = omega arith in absurd bad

pub given_true : {X : Type 0} (b : Bool) (o : Option X) (x : X) → b ≡ true → o ≡ Some x → given b o ≡ Some x
given_true true o x h e = e
given_true false o x h e = let z : true ≡ false = cc in cc

-- the fields of a word of a half form
pub record Half (w p a b low : ℕ) : Type 0 where
  pub is_primary : primary_of w ≡ p
  pub is_first : first_of w ≡ a
  pub is_second : second_of w ≡ b
  pub is_low : low_of w ≡ low

half_parts : (p a b low w : ℕ) → a < 32 → b < 32 → low < 0x10000 → p * 0x4000000 + a * 0x200000 + b * 0x10000 + low ≡ w → Half w p a b low
half_parts p a b low w ha hb hl e =
    record { is_primary = omega arith; is_first = omega arith; is_second = omega arith; is_low = omega arith }

pub half_reads : (p a b low w : ℕ) → half_form p a b low ≡ Some w → Half w p a b low
unfolding half_form
half_reads p a b low w h =
    let s = given_some (ltb a 32 && (ltb b 32 && ltb low 0x10000)) (Some (p * 0x4000000 + a * 0x200000 + b * 0x10000 + low)) w h in
    let t = and_parts (ltb a 32) (ltb b 32 && ltb low 0x10000) s.0 in
    let u = and_parts (ltb b 32) (ltb low 0x10000) t.1 in
    half_parts p a b low w (ltb-true a 32 t.0) (ltb-true b 32 u.0) (ltb-true low 0x10000 u.1) (cc s.1)

pub half_whole : (w : ℕ) → w < 2 ^ 32 → half_form (primary_of w) (first_of w) (second_of w) (low_of w) ≡ Some w
unfolding half_form
half_whole w h = grind (arith, nat_tests)

-- the fields of a word of an extended form
pub record Whole (w p a b c x : ℕ) (last : Bool) : Type 0 where
  pub is_primary : primary_of w ≡ p
  pub is_first : first_of w ≡ a
  pub is_second : second_of w ≡ b
  pub is_third : third_of (low_of w) ≡ c
  pub is_extended : extended_of (low_of w) ≡ x
  pub is_last : last_of (low_of w) ≡ last

bit_last : (low : ℕ) → bit (last_of low) ≡ low % 2
bit_last low = grind (arith, nat_tests)

low_parts : (c x : ℕ) (last : Bool) (low : ℕ) → x < 1024 → c * 2048 + x * 2 + bit last ≡ low → (third_of low ≡ c) × (extended_of low ≡ x) × (last_of low ≡ last)
low_parts c x true low h e = (omega arith, omega arith, grind (arith, nat_tests))
low_parts c x false low h e = (omega arith, omega arith, grind (arith, nat_tests))

pub extended_reads : (p a b c x : ℕ) (last : Bool) (w : ℕ) → extended_form p a b c x last ≡ Some w → Whole w p a b c x last
unfolding extended_form
extended_reads p a b c x last w h =
    let low : ℕ = c * 2048 + x * 2 + bit last in
    let s = given_some (ltb c 32 && ltb x 1024) (half_form p a b low) w h in
    let r = half_reads p a b low w s.1 in
    let l = low_parts c x last (low_of w) (ltb-true x 1024 (and_parts (ltb c 32) (ltb x 1024) s.0).1) (sym r.is_low) in
    record {
      is_primary = r.is_primary;
      is_first = r.is_first;
      is_second = r.is_second;
      is_third = l.0;
      is_extended = l.1;
      is_last = l.2;
    }

pub extended_whole : (w : ℕ) → w < 2 ^ 32 → extended_form (primary_of w) (first_of w) (second_of w) (third_of (low_of w)) (extended_of (low_of w)) (last_of (low_of w)) ≡ Some w
unfolding extended_form
extended_whole w h =
    let b = bit_last (low_of w) in
    let e : third_of (low_of w) * 2048 + extended_of (low_of w) * 2 + bit (last_of (low_of w)) ≡ low_of w = omega arith in
    let t : ltb (third_of (low_of w)) 32 ≡ true = lt-ltb (third_of (low_of w)) 32 (omega arith) in
    let u : ltb (extended_of (low_of w)) 1024 ≡ true = lt-ltb (extended_of (low_of w)) 1024 (omega arith) in
    simp (t, u, e) (half_whole w h)
