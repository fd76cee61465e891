-- A rotation by shifts: the part that leaves on the left and the part that stays do not meet. Assumes nothing.
use Rattle.std.proofs.Common.{◌≡◌, ℕ, zero, suc, ◌+◌, ◌-◌, ◌*◌, ◌/◌, ◌%◌, ◌^◌, ◌<◌, ◌∙◌, arith}
use native.Mathlib.Nat.{mul-mod_left}
use lib.Bits.{bit_or, or_self, or_shifted}
use Rattle.std.proofs.lemmas.Nat.{mod-pow-add, shl-shr, shr_below}
use Rattle.word.specs.Shifts.{turned}

-- what stays of a word moved n of n + m places
pub stays : (x n m : ℕ) → x * 2 ^ n % 2 ^ (m + n) ≡ x % 2 ^ m * 2 ^ n
stays x n m =
    let e = mod-pow-add (x * 2 ^ n) m n in
    let s = shl-shr x n in
    let z = mul-mod_left x (2 ^ n) in
    e ∙ simp (s, z) (omega arith)

parts : (x n m : ℕ) → x < 2 ^ (n + m) → bit_or (x * 2 ^ n % 2 ^ (m + n)) (x / 2 ^ m) ≡ x * 2 ^ n % 2 ^ (m + n) + x / 2 ^ m
parts x n m h = let e = stays x n m in simp e (or_shifted (x % 2 ^ m) n (x / 2 ^ m) (shr_below x n m h))

pub rotated_by_shifts : (x n : ℕ) → x < 2 ^ 32 → n < 32 → bit_or ((x * 2 ^ n) % 2 ^ 32) (x / 2 ^ ((32 - n) % 32)) ≡ turned x n
rotated_by_shifts x zero hx hn =
    let a : x * 1 % 2 ^ 32 ≡ x = omega arith in
    let b : x / 1 ≡ x = omega arith in
    let z : x / 2 ^ 32 ≡ 0 = omega arith in
    simp (a, b, z, or_self) (omega arith)
rotated_by_shifts x (suc k) hx hn =
    let m : ℕ = 32 - suc k in
    let w : m + suc k ≡ 32 = omega arith in
    let v : suc k + m ≡ 32 = omega arith in
    let c : (32 - suc k) % 32 ≡ 32 - suc k = omega arith in
    let e = parts x (suc k) m (simp v hx) in
    simp c (simp w at e)
