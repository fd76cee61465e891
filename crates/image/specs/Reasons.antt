-- The reasons for which an image is refused. Assumes nothing.
use Rattle.std.specs.Prelude.{ℕ}
use Rattle.image.specs.declared.refusal.Reason.{Reason}
use Rattle.image.specs.declared.refusal.Reason.TheVariants.{Size, Version, Truncated, Form, Range, Denied, Order}
use Rattle.image.specs.declared.refusal.Refusal.{Refusal}

-- the number by which each reason is known
abbrev pub number_of : Reason → ℕ
number_of Size = 1
number_of Version = 2
number_of Truncated = 3
number_of Form = 4
number_of Range = 5
number_of Denied = 6
number_of Order = 7

abbrev pub refusal_at : Reason → ℕ → Refusal
refusal_at why at = record { reason = why; offset = at }
