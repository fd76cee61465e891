use Rattle.std.proofs.Common.{◌≡◌, ◌-◌, false, sym, refl, ap, ◌∙◌, arith}
use Rattle.std.proofs.lemmas.Bool.Decides.{nat_tests}
use Rattle.step.specs.Steps.{outcome, state_of}
use Rattle.step.specs.Runs.{bad_count, ran_on}
use Rattle.step.proofs.Counting.{stops, lasts, goes_on, begins}
use Rattle.step.proofs.running.run.Goals as goal

pub loop-steps-init : goal.loop-steps-init
loop-steps-init g c =
    let n = c.args.n in
    let fine : bad_count n ≡ false = grind (arith, nat_tests) in
    (refl, ap (ran_on (n - 1) 1) c.step.ensures.does ∙ begins n (state_of c.args.core.now (g.B.Bus.model c.args.bus.now)) fine, c.step.ensures.keeps)

pub loop-steps-preserved : goal.loop-steps-preserved
loop-steps-preserved g c =
    let l = c.loop-steps in
    let x = outcome l.ran.last l.core (g.B.Bus.model l.bus) in (
      refl,
      goes_on c.args.n l.ran.steps l.steps x _ l.invariant.0 c.loop-steps-test.true (sym c.if-ends.ensures) c.step-in-loop-steps.ensures.does ∙ l.invariant.1,
      c.step-in-loop-steps.ensures.keeps,
    )

pub returns-else-n-gt-MOST_STEPS-clause-does : goal.returns-else-n-gt-MOST_STEPS-clause-does
returns-else-n-gt-MOST_STEPS-clause-does g c =
    let l = c.loop-steps in
    let e = l.invariant.0 in
    sym (lasts c.args.n l.ran.steps (outcome l.ran.last l.core (g.B.Bus.model l.bus)) (omega arith)) ∙ l.invariant.1

pub returns-then-ends-clause-does : goal.returns-then-ends-clause-does
returns-then-ends-clause-does g c =
    let l = c.loop-steps in
    sym (stops (c.args.n - l.ran.steps) l.ran.steps (outcome l.ran.last l.core (g.B.Bus.model l.bus)) (sym c.if-ends.ensures)) ∙ l.invariant.1

pub returns-else-ends-clause-does : goal.returns-else-ends-clause-does
returns-else-ends-clause-does g c =
    let l = c.loop-steps in
    let x = outcome l.ran.last l.core (g.B.Bus.model l.bus) in
    let s = c.step-in-loop-steps in
    let y = outcome s.result s.new.core (g.B.Bus.model s.new.bus) in
    sym (lasts c.args.n l.steps y (omega arith))
    ∙ goes_on c.args.n l.ran.steps l.steps x y l.invariant.0 c.loop-steps-test.true (sym c.if-ends.ensures) s.ensures.does
    ∙ l.invariant.1
