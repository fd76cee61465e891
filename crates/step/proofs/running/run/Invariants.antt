use Rattle.std.proofs.Common.{◌≡◌, ◌+◌, ◌-◌}
use Rattle.core465.specs.Machine.{MachineKept}
use Rattle.step.specs.Steps.{outcome, state_of}
use Rattle.step.specs.Runs.{ran, ran_on}
use Rattle.step.proofs.running.run.Given as goal

abbrev pub invariant-loop-steps : goal.invariant-loop-steps
invariant-loop-steps g l =
    (l.ran.steps + 1 ≡ l.steps)
    × (ran_on (l.n - l.ran.steps) l.ran.steps (outcome l.ran.last l.core (g.B.Bus.model l.bus)) ≡ ran l.n (state_of l.fn.core (g.B.Bus.model l.fn.bus)))
    × MachineKept l.core
