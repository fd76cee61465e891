-- A write that may find no register: it answers by an error where it finds none, and leaves what was written or nothing changed.
-- Assumes nothing.
use Rattle.std.specs.Prelude.{◌≡◌, Some, None, Option, Ok, Result, IsErr}

abbrev pub Known : {X E : Type 0} → Result Unit E → X → X → Option X → Type 0
Known r entry exit (Some x) = (r ≡ Ok tt) × (exit ≡ x)
Known r entry exit None = IsErr r × (exit ≡ entry)
