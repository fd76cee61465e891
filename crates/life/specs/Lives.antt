-- The calls that a core takes, and its lives: a making, and then calls, each beginning where the previous one ended.
-- Assumes nothing.
use Rattle.std.specs.Prelude.{ℕ, Bool, List}
use Rattle.std.specs.Option.{unwrap_or}
use Rattle.bus.specs.Model.{Model, read_of}
use Rattle.bus.specs.Rules.{Lawful}
use Rattle.core465.specs.Machine.{new_machine}
use Rattle.core465.specs.Setting.{with_line}
use Rattle.service.specs.declared.putting.Put.{Put}
use Rattle.service.specs.Looking.{looked}
use Rattle.service.specs.Putting.{put_machine, put_answer}
use Rattle.loader.specs.Loading.{loaded}
use Rattle.step.specs.Steps.{State, with_machine, stepped}
use Rattle.step.specs.Runs.{ran}
use Rattle.life.specs.declared.reply.Reply.{Reply}
use Rattle.life.specs.declared.reply.Reply.TheVariants as replies

-- what drives a running core
pub data Drive : Type 0 where
  step : Drive
  run : (steps : ℕ) → Drive
  line : (up : Bool) → Drive

-- the calls that a running core takes
pub data RunningCall : Type 0 where
  drive : Drive → RunningCall
  stop : RunningCall

-- the calls that a stopped core takes
pub data StoppedCall : Type 0 where
  load : (image : List ℕ) → StoppedCall
  look : (address width : ℕ) → StoppedCall
  put : Put → StoppedCall
  reset resume retire : StoppedCall

-- what a drive answers, and what it leaves
pub record Driven : Type 0 where
  pub reply : Reply
  pub state : State

abbrev pub driven : State → Drive → Driven
driven s step = record { reply = replies.Step (stepped s).answer; state = (stepped s).state }
driven s (run n) = record { reply = replies.Run (ran n s).result; state = (ran n s).state }
driven s (line up) = record { reply = replies.Done; state = with_machine s (with_line s.machine up) }

-- where a life stands; of a core that is retired only the bus is left
pub data Standing : Type 0 where
  stopped : State → Standing
  running : State → Standing
  retired : Model → Standing

-- what a call answers, and where the life then stands
pub record Called : Type 0 where
  pub reply : Reply
  pub after : Standing

abbrev pub replied : Reply → Standing → Called
replied r z = record { reply = r; after = z }

abbrev pub on_running : State → RunningCall → Called
on_running s (drive d) = replied (driven s d).reply (running (driven s d).state)
on_running s stop = replied replies.Done (stopped s)

-- a core as it is made, on this bus
abbrev pub fresh : Model → State
fresh m = record { machine = new_machine; bus = m }

abbrev pub on_stopped : State → StoppedCall → Called
on_stopped s (load image) = replied (replies.Load (loaded image s).answer) (stopped (loaded image s).state)
on_stopped s (look a n) = replied (replies.Look (looked (read_of s.bus a n))) (stopped s)
on_stopped s (put p) =
    replied (replies.Put (put_answer (put_machine p s.machine))) (stopped (with_machine s (unwrap_or (put_machine p s.machine) s.machine)))
on_stopped s reset = replied replies.Done (stopped (fresh s.bus))
on_stopped s resume = replied replies.Done (running s)
on_stopped s retire = replied replies.Done (retired s.bus)

-- the calls that may be made where a life stands: a stopped core takes no step, a retired one takes nothing
abbrev pub Call : Standing → Type 0
Call (stopped s) = StoppedCall
Call (running s) = RunningCall
Call (retired m) = ⊥

-- what each call does, exactly
unfoldable pub called : (z : Standing) → Call z → Called
called (stopped s) c = on_stopped s c
called (running s) c = on_running s c
called (retired m) c = absurd c

abbrev pub bus_of : Standing → Model
bus_of (stopped s) = s.bus
bus_of (running s) = s.bus
bus_of (retired m) = m

-- calls, each beginning where the previous one ended
pub data From (z : Standing) : Standing → Type 0 where
  here : From z z
  then : {y : Standing} → From z y → (c : Call y) → From z (called y c).after

-- a core is made stopped
abbrev pub born : Model → Standing
born m = stopped (fresh m)

-- a life, to where it stands now: any bus that keeps the bus rules, a core made on it, and calls
pub record Life (z : Standing) : Type 0 where
  pub bus : Model
  pub lawful : Lawful bus
  pub way : From (born bus) z

-- a life from its making to its end, by the bus that it began with and the one that it leaves
pub record Whole (before after : Model) : Type 0 where
  pub lawful : Lawful before
  pub way : From (born before) (retired after)
