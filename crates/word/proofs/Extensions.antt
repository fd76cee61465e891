-- A word shifted left, and right again with its sign, is its low bits extended by their sign. Assumes nothing.
use Rattle.std.proofs.Common.{◌≡◌, ℕ, suc, ◌+◌, ◌-◌, ◌*◌, ◌/◌, ◌%◌, ◌^◌, ◌<◌, ◌≤◌, Bool, true, false, cond, ltb, nat_lt, ℤ, pos, negsuc, sym, refl, ap, ◌∙◌, arith, w32, to_z, of_z, mod-lt, ltb-true, ltb-false, mul-le-mul_right, mul-le-mul_left, add-mul}
use Rattle.std.specs.Int.Signed.{shr_z}
use Rattle.std.proofs.lemmas.Nat.{pow-add, pow_pos, div-mul-add}
use Rattle.std.proofs.Math.Nat.{mul-div_cancel, mul-lt-mul_of_pos_right, mod-eq_of_lt}
use Rattle.std.proofs.Math.Pow.{pow_mono}
use Rattle.word.specs.Words.{extended}
use Rattle.word.proofs.Products.{signed_low, signed_high}
use Rattle.word.proofs.Rotations.{stays}

-- a number below q, p times as large on the left of a word, and moved back
moved_back : (a h q p : ℕ) → q ≡ h * 2 → 0 < p → a < q → q * p ≡ 2 ^ 32 → of_z w32 (shr_z (to_z w32 (a * p)) p) ≡ cond (ltb a h) a (a + (2 ^ 32 - q))
moved_back a h q p b g l e = by (ltb a h) refl
  where
    two : q * p ≡ h * p * 2
    two = ap (λ (n : ℕ). n * p) b ∙ omega arith

    by : (t : Bool) → ltb a h ≡ t → of_z w32 (shr_z (to_z w32 (a * p)) p) ≡ cond t a (a + (2 ^ 32 - q))
    by true u =
        let w : a * p < h * p = mul-lt-mul_of_pos_right (ltb-true a h u) g in
        let z : to_z w32 (a * p) ≡ pos (a * p) = signed_low (a * p) (omega (arith, two)) in
        ap (λ (n : ℤ). of_z w32 (shr_z n p)) z ∙ mul-div_cancel a g
    by false u =
        let d : ℕ = q - suc a in
        let m : ℕ = d * p + (p - 1) in
        let o : h ≤ a = ltb-false a h u in
        let w : h * p ≤ a * p = mul-le-mul_right p o in
        let k : a * p + suc d * p ≡ q * p = sym (add-mul a (suc d) p) ∙ ap (λ (n : ℕ). n * p) (omega arith) in
        let f : q * 1 ≤ q * p = mul-le-mul_left q g in
        let z : to_z w32 (a * p) ≡ negsuc m = signed_high (a * p) m (omega arith) (omega (arith, two)) in
        let y : m / p ≡ d = div-mul-add d p (p - 1) (omega arith) in
        ap (λ (n : ℤ). of_z w32 (shr_z n p)) z ∙ (ap (λ (n : ℕ). of_z w32 (negsuc n)) y ∙ omega arith)

pub extended_by_shifts : (k x : ℕ) → 0 < k → k ≤ 32 → of_z w32 (shr_z (to_z w32 (x * 2 ^ (32 - k) % 2 ^ 32)) (2 ^ (32 - k))) ≡ extended k (x % 2 ^ k)
extended_by_shifts k x g h =
    let s : ℕ = 32 - k in
    let t : k + s ≡ 32 = omega arith in
    let u : k ≡ k - 1 + 1 = omega arith in
    let two : 2 ^ k ≡ 2 ^ (k - 1) * 2 = ap (λ (n : ℕ). 2 ^ n) u ∙ pow-add 2 (k - 1) 1 in
    let whole : 2 ^ k * 2 ^ s ≡ 2 ^ 32 = sym (pow-add 2 k s) ∙ ap (λ (n : ℕ). 2 ^ n) t in
    ap (λ (n : ℕ). of_z w32 (shr_z (to_z w32 n) (2 ^ s))) (ap (λ (n : ℕ). x * 2 ^ s % 2 ^ n) (sym t) ∙ stays x s k)
    ∙ moved_back (x % 2 ^ k) (2 ^ (k - 1)) (2 ^ k) (2 ^ s) two (pow_pos s) (mod-lt x (pow_pos k)) whole

-- a field as wide as a word, or wider, is the word
pub extended_whole : (k x : ℕ) → 32 ≤ k → x < 2 ^ 32 → x ≡ extended k (x % 2 ^ k)
extended_whole k x h l =
    let g : 2 ^ 32 ≤ 2 ^ k = pow_mono h in
    let m : x % 2 ^ k ≡ x = mod-eq_of_lt (omega (arith, l, g)) in
    sym (ap (extended k) m ∙ by (nat_lt x (2 ^ (k - 1))) g)
  where
    by : (t : Bool) → 2 ^ 32 ≤ 2 ^ k → cond t x (x + (2 ^ 32 - 2 ^ k)) ≡ x
    by true g = refl
    by false g = omega (arith, g)
