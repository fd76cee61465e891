-- A signed quotient is exact, and is that of the machine's division: by the signs of the operands. Assumes nothing.
use Rattle.std.proofs.Common.{◌≡◌, ℕ, zero, suc, ◌+◌, ◌-◌, ◌*◌, ◌/◌, ◌%◌, ◌^◌, ◌<◌, ◌≤◌, Bool, true, false, cond, not, ◌&&◌, ◌||◌, eqb, ◌⊎◌, ℤ, pos, negsuc, ◌+ℤ◌, ◌*ℤ◌, neg_ℤ, nat_abs, ◌≤ℤ◌, Some, None, Option, sym, refl, ap, ◌∙◌, inl, inr, true≢false, mul-le-mul_left, div-add-mod', div-le_self, arith, eqb-true, w32, of_z, FitsSigned}
use Rattle.std.specs.Prelude.{int_div, int_rem, MatchOption, IsSomeAnd}
use Rattle.std.specs.Option.{SomeIff}
use Rattle.std.proofs.lemmas.Int.{ints, quot-rem, rem_below, of_z-to_z}
use Rattle.std.proofs.lemmas.Bool.Decides.{nat_tests}
use Rattle.std.proofs.lemmas.Option.{none-some}
use Rattle.word.specs.Words.{wrap, negative}
use Rattle.word.specs.Exact.{signed}
use Rattle.word.specs.Products.{magnitude, quotient_signed}
use Rattle.word.specs.ProductsExact.{Quotient, QuotientExact}
use Rattle.word.proofs.Products.{signed_low, signed_high, sides}

-- what is left is on the side of the number that is divided
not_above : (r : ℕ) → neg_ℤ (pos r) ≤ℤ pos 0
not_above r = omega (arith, ints)

rest_above : (n d : ℤ) → pos 0 ≤ℤ n → pos 0 ≤ℤ int_rem n d
rest_above (pos a) d h = omega (arith, ints)
rest_above (negsuc a) d h = absurd (omega (arith, ints, h))

rest_below : (n d : ℤ) → n ≤ℤ pos 0 → int_rem n d ≤ℤ pos 0
rest_below (pos zero) d h = omega (arith, ints)
rest_below (pos (suc a)) d h = absurd (omega (arith, ints, h))
rest_below (negsuc a) d h = not_above (suc a % nat_abs d)

divides : (n d : ℤ) → 0 < nat_abs d → Quotient n d (int_div n d)
divides n d h = record {
  rest = int_rem n d;
  whole = sym (quot-rem n d);
  small = rem_below n d h;
  above = rest_above n d;
  below = rest_below n d;
}

-- the word of a size below zero
signed_negated : (s : ℕ) → s ≤ 2 ^ 31 → signed (wrap (2 ^ 32 - s)) ≡ neg_ℤ (pos s)
signed_negated zero h = refl
signed_negated (suc s) h = signed_high (wrap (2 ^ 32 - suc s)) s (omega arith) h

-- two bits are equal
abbrev same : Bool → Bool → Bool
same true b = b
same false b = not b

abbrev value : ℕ → ℕ → ℕ
value a b = cond (same (negative a) (negative b)) (magnitude a / magnitude b) (wrap (2 ^ 32 - magnitude a / magnitude b))

abbrev undefined : ℕ → ℕ → Bool
undefined a b = eqb b 0 || (eqb a 0x80000000 && eqb b 0xFFFFFFFF)

-- the quotient by its parts
quotient_parts : (a b : ℕ) → quotient_signed a b ≡ cond (undefined a b) None (Some (value a b))
quotient_parts a b = by (negative a) (negative b) refl refl
  where
    by : (x y : Bool) → negative a ≡ x → negative b ≡ y → quotient_signed a b ≡ cond (undefined a b) None (Some (value a b))
    by true true ex ey = simp (ex, ey)
    by true false ex ey = simp (ex, ey)
    by false true ex ey = simp (ex, ey)
    by false false ex ey = simp (ex, ey)

-- a size by a size fits, but for 2^31 by 1
fits : (m n : ℕ) → m < 2 ^ 31 → (n ≡ 0 → m + 1 < 2 ^ 31) → suc m / suc n < 2 ^ 31
fits m zero h g = let k = g refl in omega arith
fits m (suc n) h g =
    let e = div-add-mod' (suc m) (suc (suc n)) in
    let l : suc m / suc (suc n) * 2 ≤ suc m / suc (suc n) * suc (suc n) = mul-le-mul_left (suc m / suc (suc n)) (omega arith) in
    omega arith

-- the numbers of the words, put in place
of_words : (a b q : ℕ) (n d : ℤ) → signed a ≡ n → signed b ≡ d → signed q ≡ int_div n d → signed q ≡ int_div (signed a) (signed b)
of_words a b q n d ea eb eq = eq ∙ rw (ea, eb) refl

value_signed : (a b : ℕ) → a < 2 ^ 32 → b < 2 ^ 32 → undefined a b ≡ false → signed (value a b) ≡ int_div (signed a) (signed b)
value_signed a b ha hb t = by (sides a ha) (sides b hb)
  where
    by : (a < 2 ^ 31) ⊎ ((m : ℕ) × (a + suc m ≡ 2 ^ 32) × (m < 2 ^ 31)) → (b < 2 ^ 31) ⊎ ((m : ℕ) × (b + suc m ≡ 2 ^ 32) × (m < 2 ^ 31)) → signed (value a b) ≡ int_div (signed a) (signed b)
    by (inl x) (inl y) =
        let na : negative a ≡ false = grind (arith, nat_tests) in
        let nb : negative b ≡ false = grind (arith, nat_tests) in
        let v : value a b ≡ a / b = simp (na, nb) in
        of_words a b (value a b) (pos a) (pos b) (signed_low a x) (signed_low b y) (ap signed v ∙ signed_low (a / b) (omega (arith, div-le_self a b)))
    by (inr x) (inl y) =
        let m : ℕ = x.0 in
        let sa : 2 ^ 32 - a ≡ suc m = omega arith in
        let na : negative a ≡ true = grind (arith, nat_tests) in
        let nb : negative b ≡ false = grind (arith, nat_tests) in
        let v : value a b ≡ wrap (2 ^ 32 - suc m / b) = simp (na, nb, sa) in
        of_words a b (value a b) (negsuc m) (pos b) (signed_high a m x.1 x.2) (signed_low b y)
        (ap signed v ∙ signed_negated (suc m / b) (omega (arith, div-le_self (suc m) b)))
    by (inl x) (inr y) =
        let n : ℕ = y.0 in
        let sb : 2 ^ 32 - b ≡ suc n = omega arith in
        let na : negative a ≡ false = grind (arith, nat_tests) in
        let nb : negative b ≡ true = grind (arith, nat_tests) in
        let v : value a b ≡ wrap (2 ^ 32 - a / suc n) = simp (na, nb, sb) in
        of_words a b (value a b) (pos a) (negsuc n) (signed_low a x) (signed_high b n y.1 y.2)
        (ap signed v ∙ signed_negated (a / suc n) (omega (arith, div-le_self a (suc n))))
    by (inr x) (inr y) =
        let m : ℕ = x.0 in
        let n : ℕ = y.0 in
        let sa : 2 ^ 32 - a ≡ suc m = omega arith in
        let sb : 2 ^ 32 - b ≡ suc n = omega arith in
        let na : negative a ≡ true = grind (arith, nat_tests) in
        let nb : negative b ≡ true = grind (arith, nat_tests) in
        let v : value a b ≡ suc m / suc n = simp (na, nb, sa, sb) in
        let g : n ≡ 0 → m + 1 < 2 ^ 31 = grind (arith, nat_tests) in
        of_words a b (value a b) (negsuc m) (negsuc n) (signed_high a m x.1 x.2) (signed_high b n y.1 y.2)
        (ap signed v ∙ signed_low (suc m / suc n) (fits m n x.2 g))

-- there is no quotient by zero, and the least word by -1 has none that is a signed word
undefined_cases : (a b : ℕ) → undefined a b ≡ true → (b ≡ 0) ⊎ ((a ≡ 0x80000000) × (b ≡ 0xFFFFFFFF))
undefined_cases a b t = by (eqb b 0) (eqb a 0x80000000) (eqb b 0xFFFFFFFF) refl refl refl t
  where
    by : (x y z : Bool) → eqb b 0 ≡ x → eqb a 0x80000000 ≡ y → eqb b 0xFFFFFFFF ≡ z → x || (y && z) ≡ true → (b ≡ 0) ⊎ ((a ≡ 0x80000000) × (b ≡ 0xFFFFFFFF))
    by true y z ex ey ez e = inl (eqb-true b 0 ex)
    by false true true ex ey ez e = inr (eqb-true a 0x80000000 ey, eqb-true b 0xFFFFFFFF ez)
    by false true false ex ey ez e = absurd (true≢false (sym e))
    by false false z ex ey ez e = absurd (true≢false (sym e))

nonzero : (b : ℕ) → b < 2 ^ 32 → 0 < b → 0 < nat_abs (signed b)
nonzero b hb h = by (sides b hb)
  where
    by : (b < 2 ^ 31) ⊎ ((m : ℕ) × (b + suc m ≡ 2 ^ 32) × (m < 2 ^ 31)) → 0 < nat_abs (signed b)
    by (inl x) = rw (signed_low b x) h
    by (inr x) = rw (signed_high b x.0 x.1 x.2) (omega arith)

defined_exact : (a b : ℕ) → a < 2 ^ 32 → b < 2 ^ 32 → undefined a b ≡ false → Quotient (signed a) (signed b) (signed (value a b))
defined_exact a b ha hb t =
    rw (value_signed a b ha hb t) (divides (signed a) (signed b) (nonzero b hb (grind (arith, nat_tests))))

no_least : (q : ℕ) (r : ℤ) → q < 2 ^ 32 → nat_abs r < 1 → negsuc 0x7FFFFFFF ≡ signed q *ℤ negsuc 0 +ℤ r → ⊥
no_least q (pos (suc r)) hq hr e = omega arith
no_least q (negsuc r) hq hr e = omega arith
no_least q (pos zero) hq hr e = by (sides q hq)
  where
    by : (q < 2 ^ 31) ⊎ ((m : ℕ) × (q + suc m ≡ 2 ^ 32) × (m < 2 ^ 31)) → ⊥
    by (inl x) = let s = signed_low q x in let f = simp s at e in omega (arith, ints, f)
    by (inr x) = let s = signed_high q x.0 x.1 x.2 in let f = simp s at e in omega (arith, ints, f)

none_exact : (a b q : ℕ) → q < 2 ^ 32 → undefined a b ≡ true → Quotient (signed a) (signed b) (signed q) → ⊥
none_exact a b q hq t h = by (undefined_cases a b t)
  where
    by : (b ≡ 0) ⊎ ((a ≡ 0x80000000) × (b ≡ 0xFFFFFFFF)) → ⊥
    by (inl z) = let s = simp z at h.small in omega arith
    by (inr z) = no_least q h.rest hq (simp z.1 at h.small) (simp (z.0, z.1) at h.whole)

pub quotient_exact : QuotientExact
quotient_exact a b ha hb = by (undefined a b) refl
  where
    by : (t : Bool) → undefined a b ≡ t → ((q : ℕ) → quotient_signed a b ≡ Some q → Quotient (signed a) (signed b) (signed q)) × (quotient_signed a b ≡ None → (q : ℕ) → q < 2 ^ 32 → Quotient (signed a) (signed b) (signed q) → ⊥)
    by true t =
        let p : quotient_signed a b ≡ None = quotient_parts a b ∙ ap (λ (u : Bool). cond u None (Some (value a b))) t in
        (λ q e. absurd (none-some q (sym p ∙ e)), λ e q hq. none_exact a b q hq t)
    by false t =
        let p : quotient_signed a b ≡ Some (value a b) = quotient_parts a b ∙ ap (λ (u : Bool). cond u None (Some (value a b))) t in
        let h = defined_exact a b ha hb t in
        (λ q e. let s : Some (value a b) ≡ Some q = sym p ∙ e in let v : value a b ≡ q = cc in simp v at h, λ e. absurd (none-some (value a b) (sym e ∙ p)))

-- the machine divides exactly where there is a quotient, and gives its word
abbrev CanDivide : ℕ → ℕ → Type 0
CanDivide a b = (0 < b) × FitsSigned w32 (int_div (signed a) (signed b))

magnitude_fits : (a : ℕ) → a < 2 ^ 32 → magnitude a < 2 ^ 32
magnitude_fits a h = grind (arith, nat_tests)

value_fits : (a b : ℕ) → a < 2 ^ 32 → value a b < 2 ^ 32
value_fits a b h = by (same (negative a) (negative b))
  where
    by : (t : Bool) → cond t (magnitude a / magnitude b) (wrap (2 ^ 32 - magnitude a / magnitude b)) < 2 ^ 32
    by true = let m = magnitude_fits a h in omega (arith, div-le_self (magnitude a) (magnitude b))
    by false = omega arith

signed_fits : (n : ℕ) → n < 2 ^ 32 → FitsSigned w32 (signed n)
signed_fits n h = by (sides n h)
  where
    by : (n < 2 ^ 31) ⊎ ((m : ℕ) × (n + suc m ≡ 2 ^ 32) × (m < 2 ^ 31)) → FitsSigned w32 (signed n)
    by (inl x) = rw (signed_low n x) (record { sfits = x })
    by (inr x) = rw (signed_high n x.0 x.1 x.2) (record { sfits = x.2 })

can_divide : (a b : ℕ) → a < 2 ^ 32 → b < 2 ^ 32 → undefined a b ≡ false → CanDivide a b
can_divide a b ha hb t = (grind (arith, nat_tests), rw (sym (value_signed a b ha hb t)) (signed_fits (value a b) (value_fits a b ha)))

cannot_divide : (a b : ℕ) → undefined a b ≡ true → CanDivide a b → ⊥
cannot_divide a b t h = by (undefined_cases a b t)
  where
    by : (b ≡ 0) ⊎ ((a ≡ 0x80000000) × (b ≡ 0xFFFFFFFF)) → ⊥
    by (inl z) = omega (arith, z, h.0)
    by (inr z) = let f = simp (z.0, z.1) at h.1 in omega (arith, f.sfits)

pub divided : (a b : ℕ) → a < 2 ^ 32 → b < 2 ^ 32 → (r : Option ℤ) (q : Option ℕ) → SomeIff r (CanDivide a b) (int_div (signed a) (signed b))
    → MatchOption r (q ≡ None) (λ x. IsSomeAnd q (λ y. y ≡ of_z w32 x)) → q ≡ quotient_signed a b
divided a b ha hb r q g h = by (undefined a b) r q refl g h ∙ sym (quotient_parts a b)
  where
    by : (t : Bool) (r : Option ℤ) (q : Option ℕ) → undefined a b ≡ t → SomeIff r (CanDivide a b) (int_div (signed a) (signed b))
        → MatchOption r (q ≡ None) (λ x. IsSomeAnd q (λ y. y ≡ of_z w32 x)) → q ≡ cond t None (Some (value a b))
    by true None q t g h = h
    by false None q t g h = absurd (g (can_divide a b ha hb t))
    by true (Some x) q t g h = absurd (cannot_divide a b t g.0)
    by false (Some x) None t g h = elim h [ ]
    by false (Some x) (Some y) t g h = ap Some (h ∙ ap (of_z w32) (g.1 ∙ sym (value_signed a b ha hb t)) ∙ of_z-to_z w32 (value a b) (value_fits a b ha))
