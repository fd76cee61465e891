-- The laws of one step.
use Rattle.std.proofs.Common.{◌≡◌, ℕ, Bool, true, false, cond, eqb, ◌⊎◌, sym, refl, ap, ◌∙◌, subst, inl, inr, eqb-true}
use Rattle.std.proofs.lemmas.Bool.{true≢false}
use Rattle.bus.specs.Model.{Bytes, offset_of, frame_of}
use Rattle.interrupt.specs.declared.Taken.{Taken}
use Rattle.interrupt.specs.Interrupts.{taken}
use Rattle.cpu.specs.declared.registers.Msr.{Msr}
use Rattle.cpu.specs.Registers.{with_pc}
use Rattle.cpu.specs.Effects.{Seen, seen_of}
use Rattle.core465.specs.Interrupting.{interrupted, entering}
use Rattle.core465.specs.Reaching.{Reach, seen, reach}
use Rattle.step.specs.declared.answer.Answer.{Answer}
use Rattle.step.specs.declared.answer.Answer.TheVariants.{Interrupt}
use Rattle.step.specs.Plans.{Plan, leaves, planned}
use Rattle.step.specs.Steps.{State, Stepped, interrupting, enacted, stepped}
use Rattle.isolation.specs.Views.{Storable, InUser, Alike, After, interrupts}
use Rattle.isolation.specs.Isolation.{Kept, Entered, OnVector}
use Rattle.isolation.proofs.Plans.{written_same, plan_same, Fits, work, write, fault, leave, plan_fits}

-- two steps that came out the same
abbrev pub Related : Reach → Stepped → Stepped → Type 0
Related r x y = (x.answer ≡ y.answer) × After (interrupts x.answer) r x.state y.state

module _ (r : Reach) where
  enact_alike : {p : Plan} → Fits r p → (s t : State) → Alike r s t → Related r (enacted s p) (enacted t p)
  unfolding interrupting interrupted
  enact_alike (work {w = w}) s t al = (
    refl,
    record {
      in_user = al.in_user;
      here = al.here;
      there = al.there;
      registers = ap (λ (v : Seen). seen_of w v.shown) al.registers;
      buses = al.buses;
    },
  )
  enact_alike (write {x = x} {w = w} h) s t al = (
    refl,
    record {
      in_user = al.in_user;
      here = al.here;
      there = al.there;
      registers = ap (λ (v : Seen). seen_of w v.shown) al.registers;
      buses = written_same r al.buses x.address x.width x.value;
    },
  )
  enact_alike fault s t al = (refl, al)
  enact_alike (leave {c = c}) s t al = (
    ap (λ (v : Seen). Interrupt (taken c v.working.pc)) al.registers,
    record {
      registers = ap (λ (v : Seen). record { working = with_pc v.working 0; shown = record { msr = entering v.shown.msr; sprg = v.shown.sprg; line = v.shown.line } }) al.registers;
      buses = al.buses;
    },
  )

  module _ (s t : State) (al : Alike r s t) where
    one_plan : planned (seen s.machine) (reach s.machine) s.bus ≡ planned (seen t.machine) (reach t.machine) t.bus
    one_plan =
        ap (λ (q : Reach). planned (seen s.machine) q s.bus) al.here
        ∙ plan_same r s.bus t.bus al.buses (seen s.machine)
        ∙ (λ i. planned (al.registers i) (sym al.there i) t.bus)

    fitting : Fits r (planned (seen s.machine) (reach s.machine) s.bus)
    fitting = subst (λ (q : Reach). Fits q (planned (seen s.machine) (reach s.machine) s.bus)) al.here (plan_fits (seen s.machine) (reach s.machine) al.in_user s.bus)

    pub steps_alike : Related r (stepped s) (stepped t)
    unfolding stepped
    steps_alike = subst (λ (p : Plan). Related r (enacted s (planned (seen s.machine) (reach s.machine) s.bus)) (enacted t p)) one_plan (enact_alike fitting s t al)

-- integrity and entry of one step
module _ (s : State) where
  enact_kept : {p : Plan} → Fits (reach s.machine) p → Kept s (enacted s p)
  unfolding interrupting interrupted
  enact_kept work = record { registers = (refl, refl); entries = refl; frames = λ f. inl refl; wiring = refl }
  enact_kept (write {x = x} h) = record {
    registers = (refl, refl);
    entries = refl;
    frames = λ f. by f (eqb f (frame_of x.address)) refl;
    wiring = refl;
  }
    where
      by : (f : ℕ) (b : Bool) → eqb f (frame_of x.address) ≡ b →
          (◌≡◌ {A = Bytes} (λ j. cond b (s.bus.wiring.rule f (s.bus.bytes f) (offset_of x.address) x.width x.value j) (s.bus.bytes f j)) (s.bus.bytes f))
          ⊎ Storable (reach s.machine) f
      by f true e = inr (subst (Storable (reach s.machine)) (sym (eqb-true f (frame_of x.address) e)) h)
      by f false e = inl refl
  enact_kept fault = record { registers = (refl, refl); entries = refl; frames = λ f. inl refl; wiring = refl }
  enact_kept leave = record { registers = (refl, refl); entries = refl; frames = λ f. inl refl; wiring = refl }

  module _ (user : InUser s) where
    -- an answer that is no interrupt leaves user state as it is
    stays : (a : Answer) (z : State) → interrupts a ≡ false → z.machine.shown.msr ≡ s.machine.shown.msr → Entered s (record { answer = a; state = z })
    stays a z e h = record {
      exactly = (λ i. absurd (true≢false (sym i ∙ e)), λ o. absurd (true≢false (sym user ∙ sym (ap (λ (m : Msr). m.pr) h) ∙ o)));
      stands = λ t i. absurd (true≢false (sym (ap interrupts i) ∙ e));
    }

    enact_entered : {p : Plan} → Fits (reach s.machine) p → Entered s (enacted s p)
    unfolding interrupting interrupted
    enact_entered work = stays _ _ refl refl
    enact_entered (write h) = stays _ _ refl refl
    enact_entered fault = stays _ _ refl refl
    enact_entered (leave {c = c}) = record {
      exactly = (λ i. refl, λ o. refl);
      stands = λ t i. let same : taken c s.machine.working.pc ≡ t = cc in subst (λ (t : Taken). OnVector s t (enacted s (leaves c)).state) same
          (record { counter = refl; old_msr = refl; return = refl; told = refl });
    }

    fits : Fits (reach s.machine) (planned (seen s.machine) (reach s.machine) s.bus)
    fits = plan_fits (seen s.machine) (reach s.machine) user s.bus

    pub step_kept : Kept s (stepped s)
    unfolding stepped
    step_kept = enact_kept fits

    pub step_entered : Entered s (stepped s)
    unfolding stepped
    step_entered = enact_entered fits
