-- A run: steps up to a number, ended early by an interrupt or a bus fault. Assumes nothing.
use Rattle.std.specs.Prelude.{ℕ, zero, suc, ◌+◌, ◌-◌, Bool, true, false, cond, ◌||◌, Ok, Err, Result, ◌==◌, nat_lt}
use Rattle.step.specs.declared.answer.Answer.{Answer}
use Rattle.step.specs.declared.answer.Answer.TheVariants.{Done, Interrupt, BusFault}
use Rattle.step.specs.declared.running.Ran.{Ran}
use Rattle.step.specs.declared.running.RunRefusal.{RunRefusal}
use Rattle.step.specs.declared.running.RunRefusal.TheVariants.{BadCount}
use Rattle.step.specs.Steps.{State, Stepped, stepped}

-- an interrupt or a bus fault ends a run
abbrev pub ends : Answer → Bool
ends (Done x) = false
ends (Interrupt t) = true
ends (BusFault f) = true

-- what a run answers, and what it leaves
pub record Finished : Type 0 where
  pub result : Result Ran RunRefusal
  pub state : State

-- the run ends with this step, the steps-th
abbrev pub ended : (steps : ℕ) → Stepped → Finished
ended steps x = record { result = Ok (record { steps = steps; last = x.answer }); state = x.state }

-- up to k more steps after the steps-th, which came out as x
unfoldable pub ran_on : ℕ → (steps : ℕ) → Stepped → Finished
ran_on zero steps x = ended steps x
ran_on (suc k) steps x = cond (ends x.answer) (ended steps x) (ran_on k (steps + 1) (stepped x.state))

-- a run has 1 to 1,000,000 steps
abbrev pub bad_count : ℕ → Bool
bad_count n = n == 0 || nat_lt 1000000 n

abbrev pub run_refusal_number : RunRefusal → ℕ
run_refusal_number BadCount = 11

-- a run of up to n steps
abbrev pub ran : ℕ → State → Finished
ran n s = cond (bad_count n) (record { result = Err BadCount; state = s }) (ran_on (n - 1) 1 (stepped s))
