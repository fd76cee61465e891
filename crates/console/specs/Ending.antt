-- How a program ends. Assumes nothing.
use Rattle.std.specs.Prelude.{ℕ, Bool, true, false, Ok, Err, Result}
use Rattle.console.specs.declared.Verdict.{Verdict}
use Rattle.console.specs.declared.Verdict.TheVariants.{Sound, Faulty}

-- nothing failed, and the input is sound
abbrev pub is_sound : {E : Type 0} → Result Verdict E → Bool
is_sound (Ok Sound) = true
is_sound (Ok Faulty) = false
is_sound (Err e) = false

-- the status for a verdict
abbrev pub status_of : Verdict → ℕ
status_of Sound = 0
status_of Faulty = 1
