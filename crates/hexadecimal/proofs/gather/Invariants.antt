use Rattle.std.proofs.Common.{◌≡◌, ℕ, List, ◌++◌, vec_items}
use Rattle.hexadecimal.specs.Text.{pairs}
use Rattle.hexadecimal.proofs.Pairing.{held, Under}
use Rattle.hexadecimal.proofs.gather.Given as goal

-- whatever digits follow, the bytes so far are the first ones, and those of the digit that is held and what follows come next
abbrev pub invariant-loop-digit : goal.invariant-loop-digit
invariant-loop-digit l =
    Under l.first × ((ds : List ℕ) → pairs (l.yielded ++ ds) ≡ vec_items l.bytes ++ pairs (held l.first ds))
