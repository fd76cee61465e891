-- The isolation of user state, over all lives of a core and over any two buses that keep the bus rules. Assumes nothing.
use Rattle.std.specs.Prelude.{◌≡◌, ℕ, Bool, true, false, ◌⊎◌, ◌↔◌, List, [], ◌∷◌, Ok, Err}
use Rattle.bus.specs.Rules.{Lawful}
use Rattle.interrupt.specs.declared.Taken.{Taken}
use Rattle.interrupt.specs.Interrupts.{return_to}
use Rattle.cpu.specs.declared.registers.Shown.{Shown}
use Rattle.core465.specs.declared.hidden.Hidden.{Hidden}
use Rattle.core465.specs.Machine.{no_msr}
use Rattle.core465.specs.Specials.{with_saved}
use Rattle.core465.specs.Saving.{vector_of}
use Rattle.core465.specs.Reaching.{Reach, reach}
use Rattle.step.specs.declared.answer.Answer.TheVariants.{Interrupt}
use Rattle.step.specs.Steps.{State, Stepped, stepped}
use Rattle.step.specs.Runs.{bad_count, ended, ran}
use Rattle.life.specs.declared.reply.Reply.{Reply}
use Rattle.life.specs.declared.reply.Reply.TheVariants as replies
use Rattle.life.specs.Lives.{Drive, driven, Standing, running, Life, bus_of}
use Rattle.isolation.specs.Views.{Storable, InUser, Alike, After, interrupts}
use Rattle.isolation.specs.Moments.{StepAt, Takes}

-- the registers but for the MSR, and the hidden ones but for SRR0, SRR1, ESR and DEAR
abbrev pub but_msr : Shown → Shown
but_msr v = record { msr = no_msr; sprg = v.sprg; line = v.line }

abbrev pub but_saved : Hidden → Hidden
but_saved h = with_saved h (record { srr0 = 0; srr1 = no_msr; esr = 0; dear = 0 })

-- the registers that user state does not alter, by whether the step was an interrupt
abbrev pub RegistersKept : (interrupt : Bool) → Shown → Hidden → Shown → Hidden → Type 0
RegistersKept false v h v' h' = (v' ≡ v) × (h' ≡ h)
RegistersKept true v h v' h' = (but_msr v' ≡ but_msr v) × (but_saved h' ≡ but_saved h)

-- integrity: what a step from s leaves as it was. That is every register but the working ones, or at an interrupt but those
-- that it saves and sets; every page entry; the wiring; and every frame that the reach at the step's start may not store to
pub record Kept (s : State) (x : Stepped) : Type 0 where
  pub registers : RegistersKept (interrupts x.answer) s.machine.shown s.machine.hidden x.state.machine.shown x.state.machine.hidden
  pub entries : x.state.machine.entries ≡ s.machine.entries
  pub frames : (f : ℕ) → (x.state.bus.bytes f ≡ s.bus.bytes f) ⊎ Storable (reach s.machine) f
  pub wiring : x.state.bus.wiring ≡ s.bus.wiring

-- after an interrupt from s the core stands on its vector, with the old MSR and the return address saved
pub record OnVector (s : State) (t : Taken) (z : State) : Type 0 where
  pub counter : z.machine.working.pc ≡ vector_of s.machine.hidden t.interrupt
  pub old_msr : z.machine.hidden.saved.srr1 ≡ s.machine.shown.msr
  pub return : z.machine.hidden.saved.srr0 ≡ return_to t.interrupt s.machine.working.pc
  pub told : t.srr0 ≡ z.machine.hidden.saved.srr0

-- controlled entry: supervisor state is entered exactly by an interrupt, and on its vector
pub record Entered (s : State) (x : Stepped) : Type 0 where
  pub exactly : (interrupts x.answer ≡ true) ↔ (x.state.machine.shown.msr.pr ≡ false)
  pub stands : (t : Taken) → x.answer ≡ Interrupt t → OnVector s t x.state

-- whether a call met an interrupt
abbrev pub met : Reply → Bool
met (replies.Load r) = false
met (replies.Look r) = false
met (replies.Put r) = false
met (replies.Step a) = interrupts a
met (replies.Run (Ok x)) = interrupts x.last
met (replies.Run (Err e)) = false
met replies.Done = false

-- noninterference: given these calls, two cores answer the same, whole, and stay alike, up to and including the first interrupt
abbrev pub Together : Reach → List Drive → State → State → Type 0
Together r [] s t = Unit {0}
Together r (d ∷ ds) s t =
    ((driven s d).reply ≡ (driven t d).reply)
    × After (met (driven s d).reply) r (driven s d).state (driven t d).state
    × (met (driven s d).reply ≡ false → Together r ds (driven s d).state (driven t d).state)

-- a run is the steps that it takes: their number, the last answer, and where the last one ends
pub record RunIsSteps (n : ℕ) (s : State) : Type 0 where
  pub steps : ℕ
  pub outcome : Stepped
  pub takes : Takes n s steps outcome
  pub same : ran n s ≡ ended steps outcome

-- the law
pub record Isolation : Type 0 where
  pub integrity : {s : State} → StepAt s → InUser s → Kept s (stepped s)
  pub noninterference : {s t : State} → Life (running s) → Life (running t) → (r : Reach) → Alike r s t → (ds : List Drive) → Together r ds s t
  pub controlled_entry : {s : State} → StepAt s → InUser s → Entered s (stepped s)
  pub runs : (s : State) (n : ℕ) → bad_count n ≡ false → RunIsSteps n s
  pub bus_rules : {z : Standing} → Life z → Lawful (bus_of z)
