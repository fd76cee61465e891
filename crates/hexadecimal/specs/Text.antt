-- What a hexadecimal text means. Assumes nothing.
use Rattle.std.specs.Prelude.{◌≡◌, ℕ, ◌+◌, ◌-◌, ◌*◌, ◌%◌, ◌<◌, Bool, true, false, cond, not, List, [], ◌∷◌, length, Some, None, Ok, Err, Option, vec_items, Result, ◌==◌}
use Rattle.std.specs.Global.{Vec}
use Rattle.std.specs.Int.{is_in_range}
use Rattle.std.specs.Char.{is_ascii_whitespace}
use Rattle.std.specs.List.{filter_map, position}
use Rattle.hexadecimal.specs.declared.Fault.{Fault}
use Rattle.hexadecimal.specs.declared.Fault.TheVariants.{NoDigit, HalfByte, NoMemory}
use Rattle.hexadecimal.specs.declared.Symbol.{Symbol}
use Rattle.hexadecimal.specs.declared.Symbol.TheVariants.{Digit, Space, Other}

-- 0 to 9, A to F and a to f are digits, and there is white space
abbrev pub symbol_of : ℕ → Symbol
symbol_of c =
    cond (is_in_range 48 57 c) (Digit (c - 48))
    (cond (is_in_range 65 70 c) (Digit (c - 65 + 10))
    (cond (is_in_range 97 102 c) (Digit (c - 97 + 10))
    (cond (is_ascii_whitespace c) Space Other)))

-- a digit is below 16
abbrev pub Small : Symbol → Type 0
Small (Digit d) = d < 16
Small Space = Unit {0}
Small Other = Unit {0}

abbrev pub is_known : Symbol → Bool
is_known (Digit d) = true
is_known Space = true
is_known Other = false

-- where the first character stands that is neither a digit nor white space
abbrev pub unknown : List ℕ → Option ℕ
unknown text = position (λ c. not (is_known (symbol_of c))) text

-- the value of a digit
abbrev pub digit_of : Symbol → Option ℕ
digit_of (Digit d) = Some d
digit_of Space = None
digit_of Other = None

-- the values of the digits of a text, in their order
abbrev pub digits : List ℕ → List ℕ
digits text = filter_map (λ c. digit_of (symbol_of c)) text

-- the bytes of some digits: each has two, the higher first
abbrev pub pairs : List ℕ → List ℕ
pairs [] = []
pairs (high ∷ []) = []
pairs (high ∷ low ∷ ds) = (high * 16 + low) ∷ pairs ds

-- the bytes of some digits, unless half a byte is left
abbrev pub whole : List ℕ → Result (List ℕ) Fault
whole ds = cond (length ds % 2 == 1) (Err HalfByte) (Ok (pairs ds))

-- a fault where there is such a character, and else the rest
abbrev pub unless : {A : Type 0} → Option ℕ → Result A Fault → Result A Fault
unless (Some at) r = Err (NoDigit at)
unless None r = r

-- what a text means: its bytes, or its fault
abbrev pub meaning : List ℕ → Result (List ℕ) Fault
meaning text = unless (unknown text) (whole (digits text))

abbrev pub HasBytes : Result (List ℕ) Fault → Type 0
HasBytes (Ok bs) = Unit {0}
HasBytes (Err e) = ⊥

-- an answer is the meaning; but memory may lack for the bytes of a text that has some
abbrev pub Told : Result (Vec ℕ) Fault → List ℕ → Type 0
Told (Ok v) text = meaning text ≡ Ok (vec_items v)
Told (Err (NoDigit at)) text = meaning text ≡ Err (NoDigit at)
Told (Err HalfByte) text = meaning text ≡ Err HalfByte
Told (Err NoMemory) text = HasBytes (meaning text)
