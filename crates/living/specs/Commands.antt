-- A list of commands, obeyed one after the other by one core. Assumes nothing.
use Rattle.std.specs.Prelude.{ℕ, List, [], ◌∷◌, Some, None, Ok, Err, vec_items, Option, Result}
use Rattle.bus.specs.Model.{read_of}
use Rattle.pages.specs.Tables.{selected}
use Rattle.step.specs.Steps.{State}
use Rattle.life.specs.Lives as lives
use Rattle.life.specs.Lives.{Standing, running, stopped, retired, Called, called, drive}
use Rattle.living.specs.declared.command.StoppedCall.{StoppedCall}
use Rattle.living.specs.declared.command.StoppedCall.TheVariants.{Load, Look, Put, Reset, Resume, Retire}
use Rattle.living.specs.declared.command.RunningCall.{RunningCall}
use Rattle.living.specs.declared.command.RunningCall.TheVariants.{Step, Run, Line, Stop}
use Rattle.living.specs.declared.command.Display.{Display}
use Rattle.living.specs.declared.command.Display.TheVariants as display
use Rattle.living.specs.declared.command.Command.{Command}
use Rattle.living.specs.declared.command.Command.TheVariants.{ToStopped, ToRunning, Show}
use Rattle.living.specs.declared.command.Registers.{Registers}
use Rattle.living.specs.declared.command.Response.{Response}
use Rattle.living.specs.declared.command.Response.TheVariants as response

-- the calls of a life that the commands name
abbrev pub stopped_call : StoppedCall → lives.StoppedCall
stopped_call (Load image) = lives.load (vec_items image)
stopped_call (Look a n) = lives.look a n
stopped_call (Put p) = lives.put p
stopped_call Reset = lives.reset
stopped_call Resume = lives.resume
stopped_call Retire = lives.retire

abbrev pub running_call : RunningCall → lives.RunningCall
running_call Step = drive lives.step
running_call (Run n) = drive (lives.run n)
running_call (Line up) = drive (lives.line up)
running_call Stop = lives.stop

abbrev pub registers_of : State → Registers
registers_of s = record { working = s.machine.working; shown = s.machine.shown; hidden = s.machine.hidden }

-- a byte, or none where the bus denies its read
abbrev pub byte_of : Result ℕ ℕ → Option ℕ
byte_of (Ok x) = Some x
byte_of (Err c) = None

-- what is shown of a core and its bus
abbrev pub displayed : State → Display → Response
displayed s display.Registers = response.Registers (registers_of s)
displayed s (display.Entry n) = response.Entry (selected s.machine.entries n)
displayed s (display.Byte a) = response.Byte (byte_of (read_of s.bus a 1))

-- what a command is answered with, and where the life then stands
pub record Obeyed : Type 0 where
  pub response : Response
  pub after : Standing

abbrev pub responded : Response → Standing → Obeyed
responded r z = record { response = r; after = z }

abbrev pub by_call : Called → Obeyed
by_call c = responded (response.Replied c.reply) c.after

-- a call is made where it may be made; elsewhere it is misplaced, and nothing happens
abbrev pub obeyed : Standing → Command → Obeyed
obeyed (stopped s) (ToStopped c) = by_call (called (stopped s) (stopped_call c))
obeyed (stopped s) (ToRunning c) = responded response.Misplaced (stopped s)
obeyed (stopped s) (Show d) = responded (displayed s d) (stopped s)
obeyed (running s) (ToStopped c) = responded response.Misplaced (running s)
obeyed (running s) (ToRunning c) = by_call (called (running s) (running_call c))
obeyed (running s) (Show d) = responded (displayed s d) (running s)
obeyed (retired m) (ToStopped c) = responded response.Misplaced (retired m)
obeyed (retired m) (ToRunning c) = responded response.Misplaced (retired m)
obeyed (retired m) (Show d) = responded response.Misplaced (retired m)

-- all answers to a list of commands
unfoldable pub responses : List Command → Standing → List Response
responses [] z = []
responses (c ∷ cs) z = (obeyed z c).response ∷ responses cs (obeyed z c).after

-- where the life then stands
unfoldable pub lived : List Command → Standing → Standing
lived [] z = z
lived (c ∷ cs) z = lived cs (obeyed z c).after
