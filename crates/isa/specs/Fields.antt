-- The fields of an instruction word, and the forms by which fields make a word. Assumes nothing.
use Rattle.std.specs.Prelude.{ℕ, ◌+◌, ◌*◌, ◌/◌, ◌%◌, Bool, true, false, cond, ◌&&◌, Some, None, Option, ◌==◌, nat_lt}
use Rattle.isa.specs.declared.fields.Fields.{Fields}

-- a word is the primary opcode (bits 0 to 5), two fields of five bits (6 to 10, 11 to 15) and the low half (16 to 31)
abbrev pub primary_of : ℕ → ℕ
primary_of w = w / 0x4000000

abbrev pub first_of : ℕ → ℕ
first_of w = w / 0x200000 % 32

abbrev pub second_of : ℕ → ℕ
second_of w = w / 0x10000 % 32

abbrev pub low_of : ℕ → ℕ
low_of w = w % 0x10000

-- the low half is a third field of five bits (16 to 20), the extended opcode (21 to 30) and the last bit (31)
abbrev pub third_of : ℕ → ℕ
third_of low = low / 2048

abbrev pub extended_of : ℕ → ℕ
extended_of low = low / 2 % 1024

abbrev pub last_of : ℕ → Bool
last_of low = low % 2 == 1

abbrev pub fields_of : ℕ → Fields
fields_of w =
    record { first = first_of w; second = second_of w; low = low_of w; third = third_of (low_of w); extended = extended_of (low_of w); last = last_of (low_of w) }

-- the number of a single bit
abbrev pub bit : Bool → ℕ
bit true = 1
bit false = 0

-- what stands under a condition, and nothing where it fails
abbrev pub given : {X : Type 0} → Bool → Option X → Option X
given b o = cond b o None

-- the word of a primary opcode, two fields and a low half: none where one of them is too large
unfoldable pub half_form : ℕ → ℕ → ℕ → ℕ → Option ℕ
half_form p a b low = given (nat_lt a 32 && (nat_lt b 32 && nat_lt low 0x10000)) (Some (p * 0x4000000 + a * 0x200000 + b * 0x10000 + low))

-- the word of a primary opcode, three fields, an extended opcode and the last bit: none where one of them is too large
unfoldable pub extended_form : ℕ → ℕ → ℕ → ℕ → ℕ → Bool → Option ℕ
extended_form p a b c x last = given (nat_lt c 32 && nat_lt x 1024) (half_form p a b (c * 2048 + x * 2 + bit last))
