-- A product is exact, and so is a quotient: by the signs of the operands. Assumes nothing.
use Rattle.std.proofs.Common.{◌≡◌, ℕ, zero, suc, ◌+◌, ◌-◌, ◌*◌, ◌/◌, ◌^◌, ◌<◌, ◌≤◌, Bool, true, false, cond, not, eqb, leb, ◌⊎◌, ℤ, pos, negsuc, ◌+ℤ◌, ◌*ℤ◌, neg_ℤ, sym, refl, ap, ◌∙◌, inl, inr, mul-le-mul_right, add-mul, mul-le-mul_left, div-add-mod', mul-add, arith, w32, leb-false, leb-true}
use Rattle.std.proofs.lemmas.Int.{ints, to_z_pos}
use Rattle.std.proofs.lemmas.Bool.Decides.{nat_tests}
use Rattle.word.specs.Words.{wrap, negative}
use Rattle.word.specs.Exact.{signed}
use Rattle.word.specs.Products.{product_low, product_high_signed}
use Rattle.word.specs.ProductsExact.{ProductExact, OverflowExact}

-- a word is its number below 2^31, and 2^32 less above
pub signed_low : (x : ℕ) → x < 2 ^ 31 → signed x ≡ pos x
signed_low x h = to_z_pos w32 x h

pub signed_high : (x m : ℕ) → x + suc m ≡ 2 ^ 32 → m < 2 ^ 31 → signed x ≡ negsuc m
signed_high x m e h = grind (arith, ints, nat_tests)

-- two words whose numbers are known
from_parts : (a b h l : ℕ) (za zb zh : ℤ) → signed a ≡ za → signed b ≡ zb → signed h ≡ zh
    → zh *ℤ pos (2 ^ 32) +ℤ pos l ≡ za *ℤ zb → signed h *ℤ pos (2 ^ 32) +ℤ pos l ≡ signed a *ℤ signed b
from_parts a b h l za zb zh ea eb eh e = cc

-- a product below zero: its two words and its size are 2^64
below_zero : (h l p : ℕ) → l < 2 ^ 32 → h * 2 ^ 32 + l + suc p ≡ 2 ^ 64 → suc p ≤ 2 ^ 62 → signed h *ℤ pos (2 ^ 32) +ℤ pos l ≡ negsuc p
below_zero h l p hl e hp =
    let k : ℕ = 2 ^ 32 - suc h in
    let s : signed h ≡ negsuc k = signed_high h k (omega arith) (omega arith) in
    let t : negsuc k *ℤ pos (2 ^ 32) +ℤ pos l ≡ negsuc p = omega (arith, ints) in
    cc

below : (h l p : ℕ) → l < 2 ^ 32 → (p ≡ 0 → h + l ≡ 0) → (0 < p → h * 2 ^ 32 + l + p ≡ 2 ^ 64) → p ≤ 2 ^ 62
    → signed h *ℤ pos (2 ^ 32) +ℤ pos l ≡ neg_ℤ (pos p)
below h l zero hl z e hp =
    let both : h + l ≡ 0 = z refl in
    let zh : h ≡ 0 = omega arith in
    let zl : l ≡ 0 = omega arith in
    simp (zh, zl)
below h l (suc p) hl z e hp = below_zero h l p hl (e (omega arith)) hp

abbrev Exact : ℕ → ℕ → Type 0
Exact a b = signed (product_high_signed a b) *ℤ pos (2 ^ 32) +ℤ pos (product_low a b) ≡ signed a *ℤ signed b

both_low : (a b : ℕ) → a < 2 ^ 31 → b < 2 ^ 31 → Exact a b
both_low a b ha hb =
    let p : a * b ≤ 2 ^ 31 * b = mul-le-mul_right b (omega arith) in
    let h : product_high_signed a b ≡ a * b / 2 ^ 32 = grind (arith, nat_tests) in
    let s : signed (product_high_signed a b) ≡ pos (a * b / 2 ^ 32) = ap signed h ∙ signed_low (a * b / 2 ^ 32) (omega arith) in
    from_parts a b (product_high_signed a b) (product_low a b) (pos a) (pos b) (pos (a * b / 2 ^ 32)) (signed_low a ha) (signed_low b hb) s
    (ap pos (div-add-mod' (a * b) (2 ^ 32)))

first_high : (a b m : ℕ) → a + suc m ≡ 2 ^ 32 → m < 2 ^ 31 → b < 2 ^ 31 → Exact a b
first_high a b m e ha hb =
    let q : a * b + suc m * b ≡ 2 ^ 32 * b = sym (add-mul a (suc m) b) ∙ ap (λ (k : ℕ). k * b) e in
    let g : suc m * b ≤ 2 ^ 31 * b = mul-le-mul_right b (omega arith) in
    let h : product_high_signed a b ≡ wrap (a * b / 2 ^ 32 + (2 ^ 32 - b)) = grind (arith, nat_tests) in
    let p : ℕ = suc m * b in
    let s = below (product_high_signed a b) (product_low a b) p (omega arith) (λ z. omega arith) (λ z. omega arith) (omega arith) in
    let x : signed a ≡ negsuc m = signed_high a m e ha in
    let y : signed b ≡ pos b = signed_low b hb in
    let t : signed a *ℤ signed b ≡ negsuc m *ℤ pos b = cc in
    s ∙ sym t

second_high : (a b m : ℕ) → b + suc m ≡ 2 ^ 32 → m < 2 ^ 31 → a < 2 ^ 31 → Exact a b
second_high a b m e hb ha =
    let q : a * b + a * suc m ≡ a * 2 ^ 32 = sym (mul-add a b (suc m)) ∙ ap (λ (k : ℕ). a * k) e in
    let g : a * suc m ≤ a * 2 ^ 31 = mul-le-mul_left a (omega arith) in
    let h : product_high_signed a b ≡ wrap (a * b / 2 ^ 32 + (2 ^ 32 - a)) = grind (arith, nat_tests) in
    let p : ℕ = a * suc m in
    let s = below (product_high_signed a b) (product_low a b) p (omega arith) (λ z. omega arith) (λ z. omega arith) (omega arith) in
    let x : signed b ≡ negsuc m = signed_high b m e hb in
    let y : signed a ≡ pos a = signed_low a ha in
    let t : signed a *ℤ signed b ≡ pos a *ℤ negsuc m = cc in
    s ∙ sym t

both_high : (a b m n : ℕ) → a + suc m ≡ 2 ^ 32 → b + suc n ≡ 2 ^ 32 → m < 2 ^ 31 → n < 2 ^ 31 → Exact a b
both_high a b m n e f ha hb =
    let q : a * b + suc m * b ≡ 2 ^ 32 * b = sym (add-mul a (suc m) b) ∙ ap (λ (k : ℕ). k * b) e in
    let r : suc m * b + suc m * suc n ≡ suc m * 2 ^ 32 = sym (mul-add (suc m) b (suc n)) ∙ ap (λ (k : ℕ). suc m * k) f in
    let g : suc m * suc n ≤ 2 ^ 31 * suc n = mul-le-mul_right (suc n) (omega arith) in
    let h : product_high_signed a b ≡ suc m * suc n / 2 ^ 32 = grind (arith, nat_tests) in
    let s : signed (product_high_signed a b) ≡ pos (suc m * suc n / 2 ^ 32) = ap signed h ∙ signed_low (suc m * suc n / 2 ^ 32) (omega arith) in
    from_parts a b (product_high_signed a b) (product_low a b) (negsuc m) (negsuc n) (pos (suc m * suc n / 2 ^ 32)) (signed_high a m e ha) (signed_high b n f hb) s
    (ap pos (omega arith))

-- a word below 2^31, or the rest up to 2^32
pub sides : (x : ℕ) → x < 2 ^ 32 → (x < 2 ^ 31) ⊎ ((m : ℕ) × (x + suc m ≡ 2 ^ 32) × (m < 2 ^ 31))
sides x h = by (leb (2 ^ 31) x) refl
  where
    by : (t : Bool) → leb (2 ^ 31) x ≡ t → (x < 2 ^ 31) ⊎ ((m : ℕ) × (x + suc m ≡ 2 ^ 32) × (m < 2 ^ 31))
    by false e = inl (leb-false (2 ^ 31) x e)
    by true e = let g = leb-true (2 ^ 31) x e in inr (2 ^ 32 - suc x, omega arith, omega arith)

pub product_exact : ProductExact
product_exact a b ha hb = by (sides a ha) (sides b hb)
  where
    by : (a < 2 ^ 31) ⊎ ((m : ℕ) × (a + suc m ≡ 2 ^ 32) × (m < 2 ^ 31)) → (b < 2 ^ 31) ⊎ ((m : ℕ) × (b + suc m ≡ 2 ^ 32) × (m < 2 ^ 31)) → Exact a b
    by (inl x) (inl y) = both_low a b x y
    by (inr x) (inl y) = first_high a b x.0 x.1 x.2 y
    by (inl x) (inr y) = second_high a b y.0 y.1 y.2 x
    by (inr x) (inr y) = both_high a b x.0 y.0 x.1 y.1 x.2 y.2

-- the sign bit in every place
abbrev sign_bits : ℕ → ℕ
sign_bits x = cond (negative x) 0xFFFFFFFF 0

-- a product that is exact by two words is so by the low one where the high one repeats its sign
repeats : (h l : ℕ) (z : ℤ) → h < 2 ^ 32 → l < 2 ^ 32 → signed h *ℤ pos (2 ^ 32) +ℤ pos l ≡ z
    → (not (eqb h (sign_bits l)) ≡ false → signed l ≡ z) × (signed l ≡ z → not (eqb h (sign_bits l)) ≡ false)
repeats h l z hh hl e = (λ o. grind (arith, ints, nat_tests), λ o. grind (arith, ints, nat_tests))

pub overflow_exact : OverflowExact
overflow_exact a b ha hb = repeats (product_high_signed a b) (product_low a b) (signed a *ℤ signed b) (omega arith) (omega arith) (product_exact a b ha hb)
