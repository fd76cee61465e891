-- The bytes of a page as a power of two, and the bound of a real address.
use Rattle.std.proofs.Common.{◌≡◌, ℕ, zero, suc, ◌+◌, ◌-◌, ◌*◌, ◌/◌, ◌%◌, ◌^◌, ◌<◌, ◌≤◌, true, ◌||◌, eqb, leb, sym, refl, ap, ◌∙◌, subst, pow-suc, arith, lit<}
use Rattle.std.proofs.lemmas.Nat.{pow-add, pow_pos, shl_whole, shr_below, mul-add-lt, mod_below}
use Rattle.std.proofs.lemmas.Bool.Decides.{nat_tests}
use Rattle.pages.specs.Matching.{size_of, is_page}
use Rattle.pages.specs.Translating.{real_of}
use Rattle.pages.specs.declared.entry.Entry.{Entry}

power_of_four : (s : ℕ) → 2 ^ (2 * s) ≡ 4 ^ s
power_of_four zero = refl
power_of_four (suc s) =
    let e : 2 * suc s ≡ 2 * s + 2 = omega arith in
    ap (λ (k : ℕ). 2 ^ k) e ∙ pow-add 2 (2 * s) 2 ∙ ap (λ (x : ℕ). x * 4) (power_of_four s) ∙ sym (pow-suc 4 s)

pub page_power : (s : ℕ) → 2 ^ (10 + 2 * s) ≡ 1024 * 4 ^ s
page_power s = pow-add 2 10 (2 * s) ∙ ap (λ (x : ℕ). 1024 * x) (power_of_four s)

pub page_positive : (s : ℕ) → 0 < 1024 * 4 ^ s
page_positive s = subst (λ (x : ℕ). 0 < x) (page_power s) (pow_pos (10 + 2 * s))

-- the shift that gives the bytes of a page loses none
pub page_shifted : (s : ℕ) → s < 16 → 1024 * 2 ^ (2 * s) % 2 ^ 64 ≡ 1024 * 4 ^ s
page_shifted s h = shl_whole 1024 11 (2 * s) 64 (lit< tt) (omega arith) ∙ ap (λ (x : ℕ). 1024 * x) (power_of_four s)

-- no page is larger than 256 MiB
size_bound : (s : ℕ) → (leb s 5 || eqb s 7 || eqb s 9) ≡ true → s ≤ 9
size_bound s h = grind (arith, nat_tests)

below_power : (w x k : ℕ) → w < 2 ^ 32 → k ≤ 32 → w / 2 ^ k * 2 ^ k + x % 2 ^ k < 2 ^ 32
below_power w x k h l =
    let e : 32 - k + k ≡ 32 = omega arith in
    let f : k + (32 - k) ≡ 32 = omega arith in
    let b : w < 2 ^ (32 - k + k) = subst (λ (n : ℕ). w < 2 ^ n) (sym e) h in
    let m = mul-add-lt (w / 2 ^ k) (2 ^ k) (x % 2 ^ k) (2 ^ (32 - k)) (shr_below w (32 - k) k b) (mod_below x (2 ^ k) (pow_pos k)) in
    subst (λ (n : ℕ). w / 2 ^ k * 2 ^ k + x % 2 ^ k < n) (sym (pow-add 2 k (32 - k)) ∙ ap (λ (n : ℕ). 2 ^ n) f) m

-- a real address has 36 bits
pub real_bound : (e : Entry) (x : ℕ) → e.word1 < 2 ^ 32 → is_page e ≡ true → real_of e x < 2 ^ 36
real_bound e x h p =
    let s = size_bound (size_of e) p in
    let b = subst (λ (n : ℕ). e.word1 / n * n + x % n < 2 ^ 32) (page_power (size_of e)) (below_power e.word1 x (10 + 2 * size_of e) h (omega arith)) in
    let m = mod_below e.word1 16 (lit< tt) in
    omega arith
