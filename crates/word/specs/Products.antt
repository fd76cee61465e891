-- Products and quotients of words. Assumes nothing.
use Rattle.std.specs.Prelude.{ℕ, ◌+◌, ◌-◌, ◌*◌, ◌/◌, ◌^◌, Bool, true, false, cond, not, ◌&&◌, ◌||◌, Some, None, Option, ◌==◌}
use Rattle.word.specs.Words.{wrap, negative}

abbrev pub product_low : ℕ → ℕ → ℕ
product_low a b = wrap (a * b)

abbrev pub product_high : ℕ → ℕ → ℕ
product_high a b = a * b / 2 ^ 32

-- a negative word is 2^32 less than its number, so the other factor is taken from the high word
abbrev pub product_high_signed : ℕ → ℕ → ℕ
product_high_signed a b =
    wrap (wrap (product_high a b + (2 ^ 32 - cond (negative a) b 0)) + (2 ^ 32 - cond (negative b) a 0))

-- a signed product fits a word where its high word repeats the sign of its low word
abbrev pub product_overflows : ℕ → ℕ → Bool
product_overflows a b = not (product_high_signed a b == cond (negative (product_low a b)) 0xFFFFFFFF 0)

-- the size of a signed word
abbrev pub magnitude : ℕ → ℕ
magnitude x = cond (negative x) (2 ^ 32 - x) x

-- division by zero has no quotient
abbrev pub quotient : ℕ → ℕ → Option ℕ
quotient a b = cond (b == 0) None (Some (a / b))

-- nor has -2^31 by -1. The quotient of the sizes is negative where the signs differ
abbrev pub quotient_signed : ℕ → ℕ → Option ℕ
quotient_signed a b =
    cond (b == 0 || (a == 0x80000000 && b == 0xFFFFFFFF)) None
    (Some (cond (same (negative a) (negative b)) (magnitude a / magnitude b) (wrap (2 ^ 32 - magnitude a / magnitude b))))
  where
    same : Bool → Bool → Bool
    same true b = b
    same false b = not b
