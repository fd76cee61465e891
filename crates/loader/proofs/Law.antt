-- What passes the check, and what does not.
use Rattle.std.proofs.Common.{◌≡◌, ℕ, zero, suc, Bool, true, false, cond, ◌⊎◌, List, ◌∷◌, length, Ok, Err, Result, sym, refl, ap, ◌∙◌, subst, inl, inr, ⊎_elim, arith}
use Rattle.bus.specs.Model.{Model}
use Rattle.image.specs.declared.refusal.Reason.TheVariants.{Denied}
use Rattle.image.specs.declared.refusal.Refusal.{Refusal}
use Rattle.image.specs.Records.{Item}
use Rattle.image.specs.Reading.{Place, Step, one, end, refused, fault, step, more, after, walk, begin, from, records}
use Rattle.loader.specs.Loading.{accepts, judged, screen, screened_from}
use Rattle.loader.specs.Law.{AllAccepted, LoadingLaw}

abbrev Read : Type 0
Read = Result (List Item) Refusal

module _ (m : Model) where
  -- what a check comes to, beside what the reader reads
  abbrev Beside : Read → Read → Type 0
  Beside (Ok is) r = (r ≡ Ok is) × AllAccepted m is
  Beside (Err x) r = (r ≡ Err x) ⊎ (x.reason ≡ Denied)

  beside_more : (i : Item) (c r : Read) → accepts m i ≡ true → Beside c r → Beside (more i c) (more i r)
  beside_more i (Ok is) r a h = (ap (more i) h.0, (a, h.1))
  beside_more i (Err x) r a h = ⊎_elim (λ e. inl (ap (more i) e)) inr h

  beside_step : (n : ℕ) (p : Place) (s : Step) → ((q : Place) → Beside (screen m n q) (walk n q)) → Beside (after (screen m n) (judged m p s)) (after (walk n) s)
  beside_step n p (one i q) h = by (accepts m i) refl
    where
      by : (b : Bool) → accepts m i ≡ b → Beside (after (screen m n) (judged m p (one i q))) (more i (walk n q))
      by true e = rw e (beside_more i (screen m n q) (walk n q) e (h q))
      by false e = rw e (inr refl)
  beside_step n p (end q) h = (refl, tt)
  beside_step n p (refused x q) h = inl refl

  beside : (n : ℕ) (p : Place) → Beside (screen m n p) (walk n p)
  unfolding screen walk
  beside zero p = inl refl
  beside (suc n) p = beside_step n p (step p) (beside n)

  beside_from : (b : Result Place Refusal) → Beside (screened_from m b) (from b)
  beside_from (Ok p) = beside (suc (length p.rest)) p
  beside_from (Err x) = inl refl

  -- and the other way
  tail : (i : Item) (r : Read) (is : List Item) → more i r ≡ Ok is → (js : List Item) × (r ≡ Ok js) × (is ≡ i ∷ js)
  tail i (Ok js) is e = (js, refl, let z : is ≡ i ∷ js = cc in z)
  tail i (Err x) is e = grind arith

  passes_step : (n : ℕ) (p : Place) (s : Step) (is : List Item) → ((q : Place) (js : List Item) → walk n q ≡ Ok js → AllAccepted m js → screen m n q ≡ Ok js) → after (walk n) s ≡ Ok is → AllAccepted m is → after (screen m n) (judged m p s) ≡ Ok is
  passes_step n p (one i q) is h e all =
      let t = tail i (walk n q) is e in
      let a : AllAccepted m (i ∷ t.0) = subst (AllAccepted m) t.2 all in
      ap (λ b. after (screen m n) (cond b (one i q) (fault p Denied))) a.0 ∙ ap (more i) (h q t.0 t.1 a.1) ∙ ap Ok (sym t.2)
  passes_step n p (end q) is h e all = e
  passes_step n p (refused x q) is h e all = e

  passes : (n : ℕ) (p : Place) (is : List Item) → walk n p ≡ Ok is → AllAccepted m is → screen m n p ≡ Ok is
  unfolding screen walk
  passes zero p is e all = e
  passes (suc n) p is e all = passes_step n p (step p) is (passes n) e all

  passes_from : (b : Result Place Refusal) (is : List Item) → from b ≡ Ok is → AllAccepted m is → screened_from m b ≡ Ok is
  passes_from (Ok p) is e all = passes (suc (length p.rest)) p is e all
  passes_from (Err x) is e all = e

pub loading_law : LoadingLaw
loading_law = record {
  sound = λ m image is e. subst (λ c. Beside m c (records image)) e (beside_from m (begin image));
  complete = λ m image is e all. passes_from m (begin image) is e all;
  refusals = λ m image x e. subst (λ c. Beside m c (records image)) e (beside_from m (begin image));
}
