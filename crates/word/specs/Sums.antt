-- The sum of two words and a carry. Assumes nothing.
use Rattle.std.specs.Prelude.{ℕ, ◌+◌, ◌^◌, Bool, ◌||◌, nat_le, nat_lt}
use Rattle.word.specs.declared.arithmetic.Outcome.{Outcome}
use Rattle.word.specs.Words.{wrap, bit, biased}

-- the carry out: the exact sum is above 2^32 - 1. The overflow: the exact signed sum is below -2^31 or above 2^31 - 1,
-- and biased that is below 2^31 or at least 3 * 2^31
abbrev pub added : ℕ → ℕ → Bool → Outcome
added a b c = record {
  value = wrap (a + b + bit c);
  carry = nat_le (2 ^ 32) (a + b + bit c);
  overflow = nat_lt (biased a + biased b + bit c) 0x80000000 || nat_le 0x180000000 (biased a + biased b + bit c);
}
