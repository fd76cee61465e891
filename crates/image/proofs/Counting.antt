-- How many records there are, after some were counted. Assumes nothing.
use Rattle.std.proofs.Common.{ℕ, ◌+◌, Ok, Err, Result}
use Rattle.image.specs.declared.refusal.Refusal.{Refusal}

-- n more
abbrev pub plus : ℕ → Result ℕ Refusal → Result ℕ Refusal
plus n (Ok m) = Ok (n + m)
plus n (Err e) = Err e
