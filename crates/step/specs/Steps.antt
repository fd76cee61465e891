-- One step of a core on a bus: its plan, enacted. Assumes nothing.
use Rattle.std.specs.Prelude.{Some, None, Ok, Err, Option, Result}
use Rattle.bus.specs.Model.{Model, written}
use Rattle.interrupt.specs.declared.Cause.{Cause}
use Rattle.interrupt.specs.declared.Cause.TheVariants.{Program}
use Rattle.interrupt.specs.declared.ProgramFault.TheVariants.{Illegal}
use Rattle.interrupt.specs.Interrupts.{taken}
use Rattle.cpu.specs.declared.registers.Working.{Working}
use Rattle.core465.specs.Machine.{Machine}
use Rattle.core465.specs.Deeds.{with_working, carried_out}
use Rattle.core465.specs.Interrupting.{interrupted}
use Rattle.core465.specs.Reaching.{seen, reach}
use Rattle.step.specs.declared.answer.Answer.{Answer}
use Rattle.step.specs.declared.answer.Answer.TheVariants.{Done, Interrupt, BusFault}
use Rattle.step.specs.declared.answer.Stored.{Stored}
use Rattle.step.specs.declared.stepping.Stop.{Stop}
use Rattle.step.specs.declared.stepping.Stop.TheVariants as stop
use Rattle.step.specs.Plans.{Plan, works, writes, faults, does, leaves, planned}

-- a core and its bus
pub record State : Type 0 where
  pub machine : Machine
  pub bus : Model

-- what a step answers, and what it leaves
pub record Stepped : Type 0 where
  pub answer : Answer
  pub state : State

abbrev pub with_machine : State → Machine → State
with_machine s m = record { machine = m; bus = s.bus }

abbrev pub worked : State → Working → State
worked s w = with_machine s (with_working s.machine w)

-- an interrupt, taken
unfoldable pub interrupting : State → Cause → Stepped
interrupting s c = record { answer = Interrupt (taken c s.machine.working.pc); state = with_machine s (interrupted c s.machine) }

-- a privileged deed, done; one that names a register that there is not is illegal
abbrev pub done : State → Option Machine → Stepped
done s (Some m) = record { answer = Done None; state = with_machine s m }
done s None = interrupting s (Program Illegal)

-- a plan, enacted
abbrev pub enacted : State → Plan → Stepped
enacted s (works w) = record { answer = Done None; state = worked s w }
enacted s (writes x w) = record {
  answer = Done (Some x);
  state = record { machine = with_working s.machine w; bus = written s.bus x.address x.width x.value };
}
enacted s (faults x) = record { answer = BusFault x; state = s }
enacted s (does d) = done s (carried_out d s.machine)
enacted s (leaves c) = interrupting s c

-- one step
unfoldable pub stepped : State → Stepped
stepped s = enacted s (planned (seen s.machine) (reach s.machine) s.bus)

-- a core over a bus, as the state that the specification steps
abbrev pub state_of : Machine → Model → State
state_of k m = record { machine = k; bus = m }

-- an instruction that is done, or why it is not: an interrupt is taken then
abbrev pub finished : Result (Option Stored) Stop → State → Stepped
finished (Ok x) s = record { answer = Done x; state = s }
finished (Err (stop.Interrupt c)) s = interrupting s c
finished (Err (stop.BusFault x)) s = record { answer = BusFault x; state = s }

abbrev pub outcome : Answer → Machine → Model → Stepped
outcome a k m = record { answer = a; state = state_of k m }
