-- Rotations, masks and shifts; bit 0 is the leftmost. Assumes nothing.
use Rattle.std.specs.Prelude.{ℕ, zero, suc, ◌+◌, ◌-◌, ◌*◌, ◌/◌, ◌%◌, ◌^◌, Bool, false, cond, not, ◌&&◌, ◌||◌, ◌==◌, nat_le, nat_lt}
use Rattle.word.specs.declared.arithmetic.Outcome.{Outcome}
use Rattle.word.specs.Words.{wrap, bit, negative, inverted}

-- n places to the left; what leaves on the left comes in on the right
abbrev pub turned : ℕ → ℕ → ℕ
turned x n = wrap (x * 2 ^ n) + x / 2 ^ (32 - n)

-- by the low five bits of an amount
unfoldable pub rotated : ℕ → ℕ → ℕ
rotated x n = turned x (n % 32)

-- a bit lies from begin to end, round the end of the word where begin is the greater
abbrev pub between : ℕ → ℕ → ℕ → Bool
between begin end k = cond (nat_le begin end) (nat_le begin k && nat_le k end) (nat_le begin k || nat_le k end)

-- the word whose bits, from bit 0 to bit n - 1, are those that a test takes, and zeros after them
abbrev pub ones_where : (ℕ → Bool) → ℕ → ℕ
ones_where t zero = 0
ones_where t (suc n) = ones_where t n + bit (t n) * 2 ^ (31 - n)

-- MASK(begin, end), by the low five bits of each
unfoldable pub mask : ℕ → ℕ → ℕ
mask begin end = ones_where (between (begin % 32) (end % 32)) 32

-- shifts by the low six bits of an amount
abbrev pub shifted_left : ℕ → ℕ → ℕ
shifted_left x n = cond (nat_lt (n % 64) 32) (wrap (x * 2 ^ (n % 64))) 0

abbrev pub shifted_right : ℕ → ℕ → ℕ
shifted_right x n = cond (nat_lt (n % 64) 32) (x / 2 ^ (n % 64)) 0

-- the sign comes in on the left; the carry tells that a one left a negative word on the right
abbrev pub shifted_algebraic : ℕ → ℕ → Outcome
shifted_algebraic x n = record {
  value = cond (negative x) (inverted (shifted_right (inverted x) n)) (shifted_right x n);
  carry = negative x && (nat_le 32 (n % 64) || not (x % 2 ^ (n % 64) == 0));
  overflow = false;
}
