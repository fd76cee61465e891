-- Comparisons, and the fields and bits of the condition register; field 0 and bit 0 are the leftmost. Assumes nothing.
use Rattle.std.specs.Prelude.{ℕ, ◌+◌, ◌-◌, ◌*◌, ◌/◌, ◌%◌, ◌^◌, Bool, cond, ◌&&◌, ◌||◌, ◌==◌, bit_and, bit_or, nat_lt}
use Rattle.word.specs.Words.{wrap, bit, biased, inverted}

-- less 8, greater 4, equal 2
abbrev pub relation : ℕ → ℕ → ℕ
relation a b = cond (nat_lt a b) 8 (cond (nat_lt b a) 4 2)

abbrev pub relation_signed : ℕ → ℕ → ℕ
relation_signed a b = relation (biased a) (biased b)

-- one of the conditions named holds: from the left, signed less, signed greater, equal, unsigned less, unsigned greater
abbrev pub traps : ℕ → ℕ → ℕ → Bool
traps to a b =
    (to / 16 % 2 == 1 && relation_signed a b == 8)
    || ((to / 8 % 2 == 1 && relation_signed a b == 4)
    || ((to / 4 % 2 == 1 && relation a b == 2)
    || ((to / 2 % 2 == 1 && relation a b == 8)
    || (to % 2 == 1 && relation a b == 4))))

-- a field by the low three bits of its number, and with another value of four bits
abbrev pub field_at : ℕ → ℕ → ℕ
field_at cr k = cr / 2 ^ (28 - 4 * (k % 8)) % 16

abbrev pub with_field : ℕ → ℕ → ℕ → ℕ
with_field cr k v =
    bit_or (bit_and cr (inverted (wrap (15 * 2 ^ (28 - 4 * (k % 8)))))) (wrap (v % 16 * 2 ^ (28 - 4 * (k % 8))))

-- a bit by the low five bits of its number, and with another value
abbrev pub bit_at : ℕ → ℕ → Bool
bit_at cr k = cr / 2 ^ (31 - k % 32) % 2 == 1

abbrev pub with_bit : ℕ → ℕ → Bool → ℕ
with_bit cr k v = bit_or (bit_and cr (inverted (wrap (1 * 2 ^ (31 - k % 32))))) (wrap (bit v * 2 ^ (31 - k % 32)))

-- the bits of the fields that a mask of eight bits names
abbrev pub field_mask : ℕ → ℕ
field_mask m =
    m / 128 % 2 * 0xF0000000 + m / 64 % 2 * 0x0F000000 + m / 32 % 2 * 0x00F00000 + m / 16 % 2 * 0x000F0000
    + m / 8 % 2 * 0x0000F000 + m / 4 % 2 * 0x00000F00 + m / 2 % 2 * 0x000000F0 + m % 2 * 0x0000000F

-- the bits of a mask from one word, the others from another
abbrev pub merged : ℕ → ℕ → ℕ → ℕ
merged old new m = bit_or (bit_and new m) (bit_and old (inverted m))
