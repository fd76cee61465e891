-- A run, one step on and at its end.
use Rattle.std.proofs.Common.{◌≡◌, ℕ, zero, suc, ◌+◌, ◌-◌, ◌≤◌, Bool, true, false, cond, sym, refl, ap, ◌∙◌, arith}
use Rattle.step.specs.Steps.{State, Stepped, stepped}
use Rattle.std.proofs.lemmas.Bool.{cond-false}
use Rattle.step.specs.Runs.{ends, ended, bad_count, ran, ran_on}

pub stops : (k i : ℕ) (x : Stepped) → ends x.answer ≡ true → ran_on k i x ≡ ended i x
unfolding ran_on
stops zero i x e = refl
stops (suc k) i x e = ap (λ (b : Bool). cond b (ended i x) (ran_on k (i + 1) (stepped x.state))) e

pub lasts : (n i : ℕ) (x : Stepped) → n ≤ i → ran_on (n - i) i x ≡ ended i x
unfolding ran_on
lasts n i x h = let z : n - i ≡ 0 = omega arith in ap (λ (k : ℕ). ran_on k i x) z

-- the j-th step goes on as the i-th, its next one, does
pub goes_on : (n j i : ℕ) (x y : Stepped) → j + 1 ≡ i → i ≤ n → ends x.answer ≡ false → y ≡ stepped x.state → ran_on (n - i) i y ≡ ran_on (n - j) j x
unfolding ran_on
goes_on n j i x y next h e s =
    let z : n - j ≡ suc (n - i) = omega arith in
    ap (ran_on (n - i) i) s
    ∙ ap (λ (k : ℕ). ran_on (n - i) k (stepped x.state)) (sym next)
    ∙ sym (ap (λ (k : ℕ). ran_on k j x) z ∙ ap (λ (b : Bool). cond b (ended j x) (ran_on (n - i) (j + 1) (stepped x.state))) e)

pub begins : (n : ℕ) (s : State) → bad_count n ≡ false → ran_on (n - 1) 1 (stepped s) ≡ ran n s
begins n s e = sym (cond-false (bad_count n) _ _ e)
