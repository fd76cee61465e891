use Rattle.std.proofs.Common.{◌≡◌, true, length, is_ok}
use Rattle.image.specs.Readers.{remaining}
use Rattle.core465.specs.Machine.{MachineKept}
use Rattle.step.specs.Steps.{state_of}
use Rattle.loader.specs.Loading.{loaded_by}
use Rattle.loader.proofs.apply_all.Given as goal

abbrev pub invariant-loop-part : goal.invariant-loop-part
invariant-loop-part g l =
    (is_ok (remaining l.reader) ≡ true)
    × ((loaded_by (remaining l.reader) (state_of l.core (g.B.Bus.model l.bus))).state
    ≡ (loaded_by (remaining l.initial.reader) (state_of l.initial.core (g.B.Bus.model l.initial.bus))).state)
    × (MachineKept l.initial.core → MachineKept l.core)

abbrev pub decreases-loop-part : goal.decreases-loop-part
decreases-loop-part g l = length l.reader.rest.now
