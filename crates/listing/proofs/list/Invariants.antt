use Rattle.std.proofs.Common.{◌+◌, ◌≤◌}
use Rattle.image.specs.Readers.{turns_left}
use Rattle.listing.proofs.list.Given as goal

-- each record takes one of the loop's turns
abbrev pub invariant-loop-found : goal.invariant-loop-found
invariant-loop-found g l = l.number + turns_left l.found-iterator ≤ turns_left l.initial.found-iterator
