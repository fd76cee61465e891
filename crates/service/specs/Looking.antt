-- A look at a real address. Assumes nothing.
use Rattle.std.specs.Prelude.{ℕ, cond, Ok, Err, Result, ◌==◌}
use Rattle.service.specs.declared.looking.LookRefusal.{LookRefusal}
use Rattle.service.specs.declared.looking.LookRefusal.TheVariants.{Malformed, Denied}

abbrev pub look_number : LookRefusal → ℕ
look_number Malformed = 9
look_number (Denied c) = 10

-- 254 says that the access is not well-formed
abbrev pub look_refusal : ℕ → LookRefusal
look_refusal c = cond (c == 254) Malformed (Denied c)

-- a look answers what a read answers
abbrev pub looked : Result ℕ ℕ → Result ℕ LookRefusal
looked (Ok x) = Ok x
looked (Err c) = Err (look_refusal c)
