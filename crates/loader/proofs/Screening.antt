-- The check of an image, one record on and at its end.
use Rattle.std.proofs.Common.{◌≡◌, ℕ, zero, suc, ◌<◌, true, false, cond, List, length, Ok, Err, Result, sym, refl, ap, ◌∙◌, arith}
use Rattle.bus.specs.Model.{Model}
use Rattle.image.specs.declared.refusal.Reason.TheVariants.{Denied}
use Rattle.image.specs.declared.refusal.Refusal.{Refusal}
use Rattle.image.specs.Reasons.{refusal_at}
use Rattle.image.specs.Records.{Item}
use Rattle.image.specs.Reading.{Place, offset_of, one, end, refused, fault, step, more, after}
use Rattle.image.proofs.Steps.{shorter}
use Rattle.loader.specs.Loading.{accepts, judged, screen, checked}

-- what a check from a place on comes to, in some number of steps that is enough
pub record Rest (m : Model) (p : Place) (r : Result Unit Refusal) : Type 0 where
  pub steps : ℕ
  pub enough : length p.rest < steps
  pub comes : checked (screen m steps p) ≡ r

checked-more : (i : Item) (r : Result (List Item) Refusal) → checked (more i r) ≡ checked r
checked-more i (Ok is) = refl
checked-more i (Err e) = refl

module _ (m : Model) (p : Place) (r : Result Unit Refusal) where
  opened : (n : ℕ) → length p.rest < n → checked (screen m n p) ≡ r → (k : ℕ) × ((length p.rest < suc k) × (checked (after (screen m k) (judged m p (step p))) ≡ r))
  unfolding screen
  opened zero h e = absurd (omega arith)
  opened (suc k) h e = (k, (h, e))

  module _ (w : Rest m p r) where
    at : (k : ℕ) × ((length p.rest < suc k) × (checked (after (screen m k) (judged m p (step p))) ≡ r))
    at = opened w.steps w.enough w.comes

    pub accepted : (i : Item) (q : Place) → one i q ≡ step p → accepts m i ≡ true → Rest m q r
    accepted i q e t = record {
      steps = at.0;
      enough = let l = shorter p i q e in let h = at.1.0 in omega arith;
      comes =
          sym (checked-more i (screen m at.0 q))
          ∙ ap (λ b. checked (after (screen m at.0) (cond b (one i q) (fault p Denied)))) (sym t)
          ∙ ap (λ s. checked (after (screen m at.0) (judged m p s))) e
          ∙ at.1.1;
    }

    pub rejected : (i : Item) (q : Place) → one i q ≡ step p → accepts m i ≡ false → Err (refusal_at Denied (offset_of p)) ≡ r
    rejected i q e t =
        ap (λ b. checked (after (screen m at.0) (cond b (one i q) (fault p Denied)))) (sym t)
        ∙ ap (λ s. checked (after (screen m at.0) (judged m p s))) e
        ∙ at.1.1

    pub ended : (q : Place) → end q ≡ step p → Ok tt ≡ r
    ended q e = ap (λ s. checked (after (screen m at.0) (judged m p s))) e ∙ at.1.1

    pub faulted : (x : Refusal) (q : Place) → refused x q ≡ step p → Err x ≡ r
    faulted x q e = ap (λ s. checked (after (screen m at.0) (judged m p s))) e ∙ at.1.1
