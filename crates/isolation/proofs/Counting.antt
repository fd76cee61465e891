-- A run is its steps.
use Rattle.std.proofs.Common.{◌≡◌, ℕ, zero, suc, ◌+◌, ◌-◌, Bool, true, false, cond, sym, refl, ap, ◌∙◌, subst, inl, inr, add-zero, arith}
use Rattle.std.proofs.lemmas.Bool.{cond-false}
use Rattle.step.specs.Steps.{State, Stepped, stepped}
use Rattle.step.specs.Runs.{ends, ended, ran_on, bad_count}
use Rattle.isolation.specs.Moments.{Takes, last, more}
use Rattle.isolation.specs.Isolation.{RunIsSteps}

-- up to n steps more after the first from s, which counts as the k-th: there are j more
record OnSteps (n k : ℕ) (s : State) : Type 0 where
  others : ℕ
  outcome : Stepped
  takes : Takes (suc n) s (suc others) outcome
  same : ran_on n k (stepped s) ≡ ended (k + others) outcome

on_steps : (n k : ℕ) (s : State) → OnSteps n k s
unfolding ran_on
on_steps zero k s = record { others = 0; outcome = stepped s; takes = last (inl refl); same = ap (λ i. ended i (stepped s)) (sym (add-zero k)) }
on_steps (suc n) k s = by (on_steps n (k + 1) (stepped s).state) (ends (stepped s).answer) refl
  where
    by : OnSteps n (k + 1) (stepped s).state → (b : Bool) → ends (stepped s).answer ≡ b → OnSteps (suc n) k s
    by h true e = record {
      others = 0;
      outcome = stepped s;
      takes = last (inr e);
      same = ap (λ b. cond b (ended k (stepped s)) (ran_on n (k + 1) (stepped (stepped s).state))) e ∙ ap (λ i. ended i (stepped s)) (sym (add-zero k));
    }
    by h false e =
        let sum : k + 1 + h.others ≡ k + suc h.others = omega arith in
        record {
          others = suc h.others;
          outcome = h.outcome;
          takes = more e h.takes;
          same = ap (λ b. cond b (ended k (stepped s)) (ran_on n (k + 1) (stepped (stepped s).state))) e ∙ h.same ∙ ap (λ i. ended i h.outcome) sum;
        }

positive : (n : ℕ) → bad_count n ≡ false → suc (n - 1) ≡ n
positive zero e = grind arith
positive (suc n) e = omega arith

pub run_is_steps : (s : State) (n : ℕ) → bad_count n ≡ false → RunIsSteps n s
run_is_steps s n e =
    let h = on_steps (n - 1) 1 s in
    let sum : 1 + h.others ≡ suc h.others = omega arith in
    record {
      steps = suc h.others;
      outcome = h.outcome;
      takes = subst (λ k. Takes k s (suc h.others) h.outcome) (positive n e) h.takes;
      same = cond-false (bad_count n) _ _ e ∙ h.same ∙ ap (λ i. ended i h.outcome) sum;
    }
