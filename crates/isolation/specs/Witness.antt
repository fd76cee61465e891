-- The law is not empty: two lives that differ where user state cannot see, alike in user state, that then load and store.
-- Assumes nothing.
use Rattle.std.specs.Prelude.{◌≡◌, ℕ, Some, None, Ok}
use Rattle.bus.specs.Model.{value_at}
use Rattle.isa.specs.declared.instruction.Instruction.{Instruction}
use Rattle.isa.specs.Decoded.{decoded}
use Rattle.cpu.specs.declared.registers.Working.{Working}
use Rattle.cpu.specs.Effects.{load, effect}
use Rattle.pages.specs.declared.translation.Access.TheVariants.{Fetch}
use Rattle.core465.specs.Reaching.{Reach, seen, reach}
use Rattle.step.specs.declared.answer.Answer.TheVariants.{Done}
use Rattle.step.specs.declared.answer.Stored.{Stored}
use Rattle.step.specs.Steps.{State, stepped}
use Rattle.life.specs.Lives.{running, Life}
use Rattle.isolation.specs.Views.{Alike, Storable, Reached}

-- a step that carries out a load: the word at the counter is an instruction whose effect is a load, and it is done
pub record TakesLoad (s : State) : Type 0 where
  pub at : ℕ
  pub fetched : reach s.machine Fetch s.machine.working.pc ≡ Ok at
  pub instruction : Instruction
  pub read : decoded (value_at s.bus at 4) ≡ Some instruction
  pub address : ℕ
  pub width : ℕ
  pub after : ℕ → Working
  pub loads : effect instruction (seen s.machine) ≡ load address width after
  pub done : (stepped s).answer ≡ Done None

-- a step that makes a store
pub record TakesStore (s : State) : Type 0 where
  pub stored : Stored
  pub done : (stepped s).answer ≡ Done (Some stored)

-- two lives at a moment in user state, with the core running
pub record TwoLives : Type 0 where
  pub one : State
  pub other : State
  pub life_of_one : Life (running one)
  pub life_of_other : Life (running other)
  pub common : Reach
  pub alike : Alike common one other
  -- they differ in a hidden register, and in a byte of a frame that no access leads into
  pub hidden_differs : one.machine.hidden ≡ other.machine.hidden → ⊥
  pub hidden_frame : ℕ
  pub out_of_reach : Reached common hidden_frame → ⊥
  pub bytes_differ : one.bus.bytes hidden_frame ≡ other.bus.bytes hidden_frame → ⊥
  -- both may store to a frame, and both then take a load and a store
  pub shared_frame : ℕ
  pub may_store : Storable common shared_frame
  pub one_loads : TakesLoad one
  pub other_loads : TakesLoad other
  pub one_stores : TakesStore (stepped one).state
  pub other_stores : TakesStore (stepped other).state
