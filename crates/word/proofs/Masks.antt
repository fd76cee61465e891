-- A mask by shifts is the mask by its bits: one computation over all 1,024 pairs of bits. Assumes nothing.
use Rattle.std.proofs.Common.{◌≡◌, ℕ, ◌+◌, ◌-◌, ◌*◌, ◌/◌, ◌%◌, ◌^◌, ◌<◌, ◌≤◌, Bool, cond, leb, map, get_or, sym, refl, ap, ◌∙◌, zero-add, arith, le-leb}
use lib.Bits.{bit_and, bit_or}
use borrow.Author.Tests.{lt-leb}
use Rattle.std.specs.List.{range_with_len}
use Rattle.std.proofs.lemmas.List.FromFn.{get_or-map-range_with_len}
use Rattle.word.specs.Shifts.{between, ones_where}

-- two functions that agree on a list of numbers agree on each of them
pub agree : (f g : ℕ → ℕ) (n : ℕ) → map f (range_with_len 0 n) ≡ map g (range_with_len 0 n) → (k : ℕ) → k < n → f k ≡ g k
agree f g n e k h =
    sym (get_or-map-range_with_len f 0 n k k 0 h (zero-add k)) ∙ (ap (λ xs. get_or xs k 0) e ∙ get_or-map-range_with_len g 0 n k k 0 h (zero-add k))

abbrev met : ℕ → ℕ → ℕ
met b e = bit_and (0xFFFFFFFF / 2 ^ b) (0xFFFFFFFF * 2 ^ (31 - e) % 2 ^ 32)

abbrev joined : ℕ → ℕ → ℕ
joined b e = bit_or (0xFFFFFFFF / 2 ^ b) (0xFFFFFFFF * 2 ^ (31 - e) % 2 ^ 32)

abbrev by_shifts : ℕ → ℕ → ℕ
by_shifts b e = cond (leb b e) (met b e) (joined b e)

pub mask_by_shifts : (b e : ℕ) → b < 32 → e < 32 → by_shifts b e ≡ ones_where (between b e) 32
mask_by_shifts b e hb he =
    let n : ℕ = b * 32 + e in
    let lt : n < 1024 = omega arith in
    let hi : n / 32 ≡ b = omega arith in
    let lo : n % 32 ≡ e = omega arith in
    let all : by_shifts (n / 32) (n % 32) ≡ ones_where (between (n / 32) (n % 32)) 32 = agree (λ k. by_shifts (k / 32) (k % 32)) (λ k. ones_where (between (k / 32) (k % 32)) 32) 1024 refl n lt in
    simp (hi, lo) at all

-- in order the two shifts meet, and round the end they join
pub mask_in_order : (b e : ℕ) → b < 32 → e < 32 → b ≤ e → met b e ≡ ones_where (between b e) 32
mask_in_order b e hb he h = ap (λ (t : Bool). cond t (met b e) (joined b e)) (sym (le-leb b e h)) ∙ mask_by_shifts b e hb he

pub mask_round_the_end : (b e : ℕ) → b < 32 → e < 32 → e < b → joined b e ≡ ones_where (between b e) 32
mask_round_the_end b e hb he h = ap (λ (t : Bool). cond t (met b e) (joined b e)) (sym (lt-leb b e h)) ∙ mask_by_shifts b e hb he
