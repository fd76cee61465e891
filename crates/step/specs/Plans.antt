-- What a step will do, from what user state sees, what its accesses reach, and the bus. Assumes nothing.
use Rattle.std.specs.Prelude.{ℕ, ◌%◌, Bool, true, cond, Some, None, Ok, Err, Option, Result, ◌==◌}
use Rattle.bus.specs.Model.{Model, read_of, write_of}
use Rattle.bus.specs.declared.Direction.TheVariants.{Read, Write}
use Rattle.isa.specs.declared.instruction.Instruction.{Instruction}
use Rattle.isa.specs.Decoded.{decoded}
use Rattle.interrupt.specs.declared.DataKind.{DataKind}
use Rattle.interrupt.specs.declared.DataKind.TheVariants as kind
use Rattle.interrupt.specs.declared.DataAccess.{DataAccess}
use Rattle.interrupt.specs.declared.Cause.{Cause}
use Rattle.interrupt.specs.declared.Cause.TheVariants.{ExternalInput, InstructionTlbError, InstructionStorage, Program, SystemCall, DataTlbError, DataStorage, Alignment}
use Rattle.interrupt.specs.declared.ProgramFault.TheVariants.{Illegal, Privileged, Trap}
use Rattle.cpu.specs.declared.registers.Working.{Working}
use Rattle.cpu.specs.declared.deed.Privileged.{Privileged as PrivilegedDeed}
use Rattle.cpu.specs.Effects.{Seen, Effect, finish, load, store, probe, trap, call, illegal, privileged, effect}
use Rattle.pages.specs.declared.translation.Access.{Access}
use Rattle.pages.specs.declared.translation.Access.TheVariants.{Fetch, Load, Store}
use Rattle.pages.specs.declared.translation.PageFault.{PageFault}
use Rattle.pages.specs.declared.translation.PageFault.TheVariants.{Miss, Denied}
use Rattle.core465.specs.Reaching.{Reach, external}
use Rattle.step.specs.declared.answer.Stored.{Stored}
use Rattle.step.specs.declared.answer.BusFault.{BusFault}
use Rattle.step.specs.declared.answer.Layer.{Layer}
use Rattle.step.specs.declared.answer.Layer.TheVariants as layer

-- what a step will do
pub data Plan : Type 0 where
  -- new working registers, and nothing else
  works : Working → Plan
  -- a write that the bus serves, and new working registers
  writes : Stored → Working → Plan
  -- an access that the bus denies: nothing changes
  faults : BusFault → Plan
  -- a privileged deed, in supervisor state
  does : PrivilegedDeed → Plan
  -- an interrupt
  leaves : Cause → Plan

-- a word stands at a multiple of four, a halfword at one of two, a byte anywhere
abbrev pub aligned : (address width : ℕ) → Bool
aligned a n = cond (n == 4) (a % 4 == 0) (cond (n == 2) (a % 2 == 0) true)

-- the real address of a fetch, or its interrupt
abbrev pub fetching : Result ℕ PageFault → Result ℕ Cause
fetching (Ok a) = Ok a
fetching (Err Miss) = Err InstructionTlbError
fetching (Err Denied) = Err InstructionStorage

-- the real address of a load or a store, or its interrupt: match, right and alignment, in this order
abbrev pub located : DataAccess → (width : ℕ) → Result ℕ PageFault → Result ℕ Cause
located x n (Ok a) = cond (aligned x.effective n) (Ok a) (Err (Alignment x))
located x n (Err Miss) = Err (DataTlbError x)
located x n (Err Denied) = Err (DataStorage x)

abbrev pub access_of : DataKind → Access
access_of kind.Load = Load
access_of kind.Store = Store

abbrev pub goes : Reach → DataAccess → (width : ℕ) → Result ℕ Cause
goes r x n = located x n (r (access_of x.kind) x.effective)

abbrev pub loading_at : ℕ → DataAccess
loading_at a = record { effective = a; kind = kind.Load }

abbrev pub storing_at : ℕ → DataAccess
storing_at a = record { effective = a; kind = kind.Store }

-- the plan at a real address, or the interrupt
abbrev pub at_real : (ℕ → Plan) → Result ℕ Cause → Plan
at_real k (Ok a) = k a
at_real k (Err c) = leaves c

-- the plan for the value of a read, or the bus fault
abbrev pub read_by : Layer → (address width : ℕ) → (ℕ → Plan) → Result ℕ ℕ → Plan
read_by l a n k (Ok x) = k x
read_by l a n k (Err c) = faults (record { layer = l; address = a; width = n; direction = Read; code = c })

abbrev pub reads : Model → Layer → (address width : ℕ) → (ℕ → Plan) → Plan
reads m l a n k = read_by l a n k (read_of m a n)

-- a write, or the bus fault
abbrev pub write_by : Stored → Working → Result Unit ℕ → Plan
write_by x w (Ok u) = writes x w
write_by x w (Err c) = faults (record { layer = layer.Data; address = x.address; width = x.width; direction = Write; code = c })

abbrev pub makes : Model → Stored → Working → Plan
makes m x w = write_by x w (write_of m x.address x.width)

-- user state does no privileged deed
abbrev pub permits : Seen → PrivilegedDeed → Plan
permits v d = cond v.shown.msr.pr (leaves (Program Privileged)) (does d)

-- the plan for an instruction's effect
abbrev pub carries : Seen → Reach → Model → Effect → Plan
carries v r m (finish w) = works w
carries v r m (load a n k) = at_real (λ p. reads m layer.Data p n (λ x. works (k x))) (goes r (loading_at a) n)
carries v r m (store a n x w) = at_real (λ p. makes m (record { address = p; width = n; value = x }) w) (goes r (storing_at a) n)
carries v r m (probe a n w) = at_real (λ p. works w) (goes r (storing_at a) n)
carries v r m trap = leaves (Program Trap)
carries v r m call = leaves SystemCall
carries v r m illegal = leaves (Program Illegal)
carries v r m (privileged d) = permits v d

abbrev pub executes : Seen → Reach → Model → Option Instruction → Plan
executes v r m None = leaves (Program Illegal)
executes v r m (Some i) = carries v r m (effect i v)

-- the plan for the word at the counter
abbrev pub fetches : Seen → Reach → Model → Result ℕ Cause → Plan
fetches v r m = at_real (λ p. reads m layer.Fetch p 4 (λ x. executes v r m (decoded x)))

-- the plan of a step: it reads no hidden register, and no page entry but through the reach
unfoldable pub planned : Seen → Reach → Model → Plan
planned v r m = cond (external v) (leaves ExternalInput) (fetches v r m (fetching (r Fetch v.working.pc)))
