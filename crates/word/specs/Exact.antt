-- The law above sums: what they say of the signed numbers that words stand for. Assumes nothing.
use Rattle.std.specs.Prelude.{◌≡◌, ℕ, ◌+◌, ◌*◌, ◌^◌, ◌<◌, Bool, false, ℤ, pos, ◌+ℤ◌}
use Rattle.std.specs.Int.{w32}
use Rattle.std.proofs.Common.{to_z}
use Rattle.word.specs.Words.{bit}
use Rattle.word.specs.Sums.{added}

-- the signed number of a word
abbrev pub signed : ℕ → ℤ
signed x = to_z w32 x

-- a sum that does not overflow is the sum of the signed numbers, and with its carry it is the sum of the unsigned ones
abbrev pub SumExact : Type 0
SumExact =
    (a b : ℕ) (c : Bool) → a < 2 ^ 32 → b < 2 ^ 32
    → ((added a b c).overflow ≡ false → signed (added a b c).value ≡ signed a +ℤ signed b +ℤ pos (bit c))
    × (bit (added a b c).carry * 2 ^ 32 + (added a b c).value ≡ a + b + bit c)
