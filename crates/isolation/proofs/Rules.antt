-- No call breaks a bus rule.
use Rattle.std.proofs.Common.{◌≡◌, ℕ, zero, suc, ◌+◌, ◌-◌, ◌*◌, ◌^◌, Bool, true, false, cond, List, [], ◌∷◌, Some, None, Ok, Err, Option, Result, refl, subst}
use Rattle.std.proofs.lemmas.Bool.{cond_both}
use Rattle.bus.specs.declared.Direction.TheVariants.{Write}
use Rattle.bus.specs.Model.{Model, answered, read_of, written}
use Rattle.bus.specs.Rules.{Lawful}
use Rattle.bus.proofs.Models.{after_served}
use Rattle.bus.proofs.Keeping.{after-lawful}
use Rattle.isa.specs.declared.instruction.Instruction.{Instruction}
use Rattle.isa.specs.Decoded.{decoded}
use Rattle.image.specs.declared.refusal.Refusal.{Refusal}
use Rattle.image.specs.Records.{Item, entry, bytes, start}
use Rattle.interrupt.specs.declared.Cause.{Cause}
use Rattle.cpu.specs.declared.registers.Working.{Working}
use Rattle.cpu.specs.Effects.{Seen, Effect, finish, load, store, probe, trap, call, illegal, privileged, effect}
use Rattle.pages.specs.declared.translation.Access.TheVariants.{Fetch}
use Rattle.core465.specs.Machine.{Machine}
use Rattle.core465.specs.Deeds.{carried_out}
use Rattle.core465.specs.Reaching.{Reach, seen, reach, external}
use Rattle.placing.specs.Placing.{onward, placed}
use Rattle.loader.specs.Loading.{screened, applied, applied_all, loaded_by, loaded}
use Rattle.step.specs.declared.answer.Stored.{Stored}
use Rattle.step.specs.declared.answer.Layer.{Layer}
use Rattle.step.specs.Plans.{Plan, works, writes, faults, does, leaves, fetching, goes, loading_at, storing_at, at_real, read_by, write_by, carries, executes, planned}
use Rattle.step.specs.Steps.{State, Stepped, interrupting, done, enacted, stepped}
use Rattle.step.specs.Runs.{ends, Finished, ran_on, bad_count}
use Rattle.life.specs.Lives as lives
use Rattle.life.specs.Lives.{Standing, stopped, running, retired, Call, called, drive, From, here, then, bus_of}

written-lawful : (m : Model) → Lawful m → (a w v : ℕ) → m.wiring.denial Write a w ≡ None → Lawful (written m a w v)
written-lawful m h a w v e = subst Lawful (after_served m a w v e) (after-lawful m h a w v)

-- a plan writes only what the bus serves
abbrev Served : Model → Plan → Type 0
Served m (works w) = Unit {0}
Served m (writes x w) = m.wiring.denial Write x.address x.width ≡ None
Served m (faults f) = Unit {0}
Served m (does d) = Unit {0}
Served m (leaves c) = Unit {0}

module _ (m : Model) where
  at_served : (k : ℕ → Plan) (o : Result ℕ Cause) → ((a : ℕ) → Served m (k a)) → Served m (at_real k o)
  at_served k (Ok a) h = h a
  at_served k (Err c) h = tt

  read_served : (l : Layer) (a n : ℕ) (k : ℕ → Plan) (o : Result ℕ ℕ) → ((x : ℕ) → Served m (k x)) → Served m (read_by l a n k o)
  read_served l a n k (Ok x) h = h x
  read_served l a n k (Err c) h = tt

  write_served : (x : Stored) (w : Working) (o : Option ℕ) → m.wiring.denial Write x.address x.width ≡ o → Served m (write_by x w (answered o tt))
  write_served x w None e = e
  write_served x w (Some c) e = tt

  either_served : (b : Bool) (p q : Plan) → Served m p → Served m q → Served m (cond b p q)
  either_served true p q x y = x
  either_served false p q x y = y

  module _ (v : Seen) (r : Reach) where
    carry_served : (f : Effect) → Served m (carries v r m f)
    carry_served (finish w) = tt
    carry_served (load ea k f) = at_served _ (goes r (loading_at ea) k) (λ a. read_served _ a k _ (read_of m a k) (λ x. tt))
    carry_served (store ea k x w) = at_served _ (goes r (storing_at ea) k) (λ a. write_served (record { address = a; width = k; value = x }) w (m.wiring.denial Write a k) refl)
    carry_served (probe ea k w) = at_served _ (goes r (storing_at ea) k) (λ a. tt)
    carry_served trap = tt
    carry_served call = tt
    carry_served illegal = tt
    carry_served (privileged d) = either_served v.shown.msr.pr _ _ tt tt

    execute_served : (i : Option Instruction) → Served m (executes v r m i)
    execute_served None = tt
    execute_served (Some i) = carry_served (effect i v)

    plan_served : Served m (planned v r m)
    unfolding planned
    plan_served = either_served (external v) _ _ tt
        (at_served _ (fetching (r Fetch v.working.pc)) (λ a. read_served _ a 4 _ (read_of m a 4) (λ x. execute_served (decoded x))))

done-lawful : (s : State) (o : Option Machine) → Lawful s.bus → Lawful (done s o).state.bus
unfolding interrupting
done-lawful s (Some m) h = h
done-lawful s None h = h

enact_lawful : (s : State) (p : Plan) → Served s.bus p → Lawful s.bus → Lawful (enacted s p).state.bus
unfolding interrupting
enact_lawful s (works w) e h = h
enact_lawful s (writes x w) e h = written-lawful s.bus h x.address x.width x.value e
enact_lawful s (faults f) e h = h
enact_lawful s (does d) e h = done-lawful s (carried_out d s.machine) h
enact_lawful s (leaves c) e h = h

step-lawful : (s : State) → Lawful s.bus → Lawful (stepped s).state.bus
unfolding stepped
step-lawful s h = enact_lawful s (planned (seen s.machine) (reach s.machine) s.bus) (plan_served s.bus (seen s.machine) (reach s.machine)) h

on_lawful : (n k : ℕ) (x : Stepped) → Lawful x.state.bus → Lawful (ran_on n k x).state.bus
unfolding ran_on
on_lawful zero k x h = h
on_lawful (suc n) k x h = cond_both (ends x.answer) _ _ (λ (d : Finished). Lawful d.state.bus) (λ e. h)
    (λ e. on_lawful n (k + 1) (stepped x.state) (step-lawful x.state h))

-- bytes that are loaded
placed-lawful : (bs : List ℕ) (m : Model) (a : ℕ) → Lawful m → Lawful (placed m a bs).model
placed-lawful [] m a h = h
placed-lawful (b ∷ bs) m a h = by (placed-lawful bs (written m a 1 b) (a + 1)) (m.wiring.denial Write a 1) refl
  where
    by : (Lawful (written m a 1 b) → Lawful (placed (written m a 1 b) (a + 1) bs).model) → (o : Option ℕ) → m.wiring.denial Write a 1 ≡ o → Lawful (onward o m a (placed (written m a 1 b) (a + 1) bs)).model
    by rest None e = rest (written-lawful m h a 1 b e)
    by rest (Some c) e = h

applied-lawful : (i : Item) (s : State) → Lawful s.bus → Lawful (applied i s).bus
applied-lawful (entry e) s h = h
applied-lawful (bytes n a bs) s h = placed-lawful bs s.bus (n * 2 ^ 32 + a) h
applied-lawful (start c w) s h = h

all_lawful : (is : List Item) (s : State) → Lawful s.bus → Lawful (applied_all is s).bus
all_lawful [] s h = h
all_lawful (i ∷ is) s h = all_lawful is (applied i s) (applied-lawful i s h)

load-lawful : (s : State) (r : Result (List Item) Refusal) → Lawful s.bus → Lawful (loaded_by r s).state.bus
load-lawful s (Ok is) h = all_lawful is s h
load-lawful s (Err x) h = h

-- every call
call-lawful : (z : Standing) (c : Call z) → Lawful (bus_of z) → Lawful (bus_of (called z c).after)
unfolding called loaded
call-lawful (stopped s) (lives.load image) h = load-lawful s (screened s.bus image) h
call-lawful (stopped s) (lives.look a n) h = h
call-lawful (stopped s) (lives.put p) h = h
call-lawful (stopped s) lives.reset h = h
call-lawful (stopped s) lives.resume h = h
call-lawful (stopped s) lives.retire h = h
call-lawful (running s) (drive lives.step) h = step-lawful s h
call-lawful (running s) (drive (lives.run n)) h =
    cond_both (bad_count n) _ _ (λ (d : Finished). Lawful d.state.bus) (λ e. h) (λ e. on_lawful (n - 1) 1 (stepped s) (step-lawful s h))
call-lawful (running s) (drive (lives.line up)) h = h
call-lawful (running s) lives.stop h = h
call-lawful (retired m) c h = absurd c

pub from-lawful : {y z : Standing} → From y z → Lawful (bus_of y) → Lawful (bus_of z)
from-lawful here h = h
from-lawful (then {y = x} w c) h = call-lawful x c (from-lawful w h)
