-- From one step to runs, lists of calls and lives.
use Rattle.std.proofs.Common.{◌≡◌, ℕ, zero, suc, ◌+◌, ◌-◌, Bool, true, false, cond, List, [], ◌∷◌, Ok, refl, ap, subst}
use Rattle.cpu.specs.Effects.{Seen}
use Rattle.core465.specs.Reaching.{Reach}
use Rattle.step.specs.declared.answer.Answer.{Answer}
use Rattle.step.specs.declared.answer.Answer.TheVariants.{Done, Interrupt, BusFault}
use Rattle.step.specs.Steps.{State, Stepped, stepped}
use Rattle.step.specs.Runs.{ends, Finished, ended, ran_on, bad_count}
use Rattle.life.specs.declared.reply.Reply.TheVariants.{Step, Run}
use Rattle.life.specs.Lives.{Drive, step, run, line, Driven, driven}
use Rattle.isolation.specs.Views.{Alike, After, interrupts}
use Rattle.isolation.specs.Isolation.{Together, met, Isolation}
use Rattle.isolation.proofs.Steps.{Related, steps_alike, step_kept, step_entered}
use Rattle.isolation.proofs.Counting.{run_is_steps}
use Rattle.isolation.proofs.Rules.{from-lawful}

not_ended : (a : Answer) → ends a ≡ false → interrupts a ≡ false
not_ended (Done x) e = refl
not_ended (Interrupt t) e = e
not_ended (BusFault f) e = refl

abbrev as_driven : Finished → Driven
as_driven x = record { reply = Run x.result; state = x.state }

module _ (r : Reach) where
  -- two drives that came to the same
  abbrev Same : Driven → Driven → Type 0
  Same p q = (p.reply ≡ q.reply) × After (met p.reply) r p.state q.state

  abbrev SameRun : Finished → Finished → Type 0
  SameRun p q = Same (as_driven p) (as_driven q)

  ended_same : (k : ℕ) (x y : Stepped) → Related r x y → SameRun (ended k x) (ended k y)
  ended_same k x y h = (ap (λ (a : Answer). Run (Ok (record { steps = k; last = a }))) h.0, h.1)

  either : (b c : Bool) → b ≡ c → (p p' q q' : Finished) → SameRun p p' → (b ≡ false → SameRun q q') → SameRun (cond b p q) (cond c p' q')
  either b c e p p' q q' x y = subst (λ (i : Bool). SameRun (cond b p q) (cond i p' q')) e (by b refl)
    where
      by : (i : Bool) → b ≡ i → SameRun (cond i p q) (cond i p' q')
      by true h = x
      by false h = y h

  on_same : (n k : ℕ) (x y : Stepped) → Related r x y → SameRun (ran_on n k x) (ran_on n k y)
  unfolding ran_on
  on_same zero k x y h = ended_same k x y h
  on_same (suc n) k x y h =
      either (ends x.answer) (ends y.answer) (ap ends h.0) _ _ _ _ (ended_same k x y h)
      (λ e. let al : Alike r x.state y.state = subst (λ (b : Bool). After b r x.state y.state) (not_ended x.answer e) h.1 in
      on_same n (k + 1) (stepped x.state) (stepped y.state) (steps_alike r x.state y.state al))

  drive-same : (s t : State) → Alike r s t → (d : Drive) → Same (driven s d) (driven t d)
  drive-same s t al step = let h = steps_alike r s t al in (ap Step h.0, h.1)
  drive-same s t al (run n) =
      either (bad_count n) (bad_count n) refl _ _ _ _ (refl, al) (λ e. on_same (n - 1) 1 (stepped s) (stepped t) (steps_alike r s t al))
  drive-same s t al (line up) = (
    refl,
    record {
      in_user = al.in_user;
      here = al.here;
      there = al.there;
      registers = ap (λ (v : Seen). record { working = v.working; shown = record { msr = v.shown.msr; sprg = v.shown.sprg; line = up } }) al.registers;
      buses = al.buses;
    },
  )

  together : (ds : List Drive) (s t : State) → Alike r s t → Together r ds s t
  together [] s t al = tt
  together (d ∷ ds) s t al =
      let h = drive-same s t al d in (
        h.0,
        h.1,
        λ e. together ds (driven s d).state (driven t d).state (subst (λ (b : Bool). After b r (driven s d).state (driven t d).state) e h.1),
      )

pub isolation : Isolation
isolation = record {
  integrity = λ {s} at user. step_kept s user;
  noninterference = λ {s} {t} ls lt r al ds. together r ds s t al;
  controlled_entry = λ {s} at user. step_entered s user;
  runs = run_is_steps;
  bus_rules = λ l. from-lawful l.way l.lawful;
}
