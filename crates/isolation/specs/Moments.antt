-- The steps of lives: alone, and in runs. Assumes nothing.
use Rattle.std.specs.Prelude.{◌≡◌, ℕ, suc, true, false, ◌⊎◌}
use Rattle.step.specs.Steps.{State, Stepped, stepped}
use Rattle.step.specs.Runs.{ends, bad_count}
use Rattle.life.specs.Lives.{running, Life}

-- a run from s of up to n steps begins one of them at x
pub data Passes : (n : ℕ) → (s x : State) → Type 0 where
  first : {n : ℕ} {s : State} → Passes (suc n) s s
  next : {n : ℕ} {s x : State} → ends (stepped s).answer ≡ false → Passes n (stepped s).state x → Passes (suc n) s x

-- a step of a life begins at x: alone, or in a run
pub data StepAt : State → Type 0 where
  alone : {x : State} → Life (running x) → StepAt x
  in_run : {s x : State} → Life (running s) → (n : ℕ) → bad_count n ≡ false → Passes n s x → StepAt x

-- a run from s of up to n steps takes k of them, and the last comes out as x: it is the n-th, or an interrupt or a bus fault
pub data Takes : (n : ℕ) → State → (k : ℕ) → Stepped → Type 0 where
  last : {n : ℕ} {s : State} → (n ≡ 0) ⊎ (ends (stepped s).answer ≡ true) → Takes (suc n) s 1 (stepped s)
  more : {n k : ℕ} {s : State} {x : Stepped} → ends (stepped s).answer ≡ false → Takes n (stepped s).state k x → Takes (suc n) s (suc k) x
