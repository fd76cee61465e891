-- Words of 32 bits as numbers below 2^32. Assumes nothing.
use Rattle.std.specs.Prelude.{ℕ, ◌+◌, ◌-◌, ◌*◌, ◌/◌, ◌%◌, ◌^◌, Bool, true, false, cond, nat_le, nat_lt}

-- the word of a number: what is left of it below 2^32
abbrev pub wrap : ℕ → ℕ
wrap x = x % 2 ^ 32

-- the number of a single bit
abbrev pub bit : Bool → ℕ
bit true = 1
bit false = 0

-- the sign bit is set
abbrev pub negative : ℕ → Bool
negative x = nat_le 0x80000000 x

-- the signed value of a word, and 2^31 more: signed words compare and add as these numbers do
abbrev pub biased : ℕ → ℕ
biased x = wrap (x + 0x80000000)

-- every bit inverted
abbrev pub inverted : ℕ → ℕ
inverted x = 0xFFFFFFFF - x

-- a field of k bits, extended by its sign to a word
abbrev pub extended : ℕ → ℕ → ℕ
extended k x = cond (nat_lt x (2 ^ (k - 1))) x (x + (2 ^ 32 - 2 ^ k))

-- the four bytes in the other order
abbrev pub reversed : ℕ → ℕ
reversed x = x % 256 * 0x1000000 + x / 256 % 256 * 0x10000 + x / 0x10000 % 256 * 256 + x / 0x1000000 % 256

-- the two low bytes in the other order
abbrev pub reversed_half : ℕ → ℕ
reversed_half x = x % 256 * 256 + x / 256 % 256
