-- The records of an image that was checked, one on.
use Rattle.std.proofs.Common.{◌≡◌, ℕ, true, List, is_ok, Ok, Err, Result, sym, refl, ap, ◌∙◌, arith}
use Rattle.image.specs.declared.refusal.Refusal.{Refusal}
use Rattle.image.specs.Records.{Item}
use Rattle.image.specs.Reading.{more, records}
use Rattle.step.specs.Steps.{State}
use Rattle.loader.specs.Loading.{screened, checked, applied, loaded_by, loaded, Loaded}
use Rattle.loader.proofs.Law.{loading_law}

pub more_ok : (i : Item) (r : Result (List Item) Refusal) → is_ok (more i r) ≡ true → is_ok r ≡ true
more_ok i (Ok is) e = refl
more_ok i (Err x) e = e

pub more-loaded : (i : Item) (r : Result (List Item) Refusal) (s : State) → is_ok (more i r) ≡ true → (loaded_by r (applied i s)).state ≡ (loaded_by (more i r) s).state
more-loaded i (Ok is) s e = refl
more-loaded i (Err x) s e = grind arith

-- an image that is refused changes nothing
pub refuses : (r : Result (List Item) Refusal) (x : Refusal) (s : State) → Err x ≡ checked r → ◌≡◌ {A = Loaded} (record { answer = Err x; state = s }) (loaded_by r s)
refuses (Ok is) x s e = grind arith
refuses (Err y) x s e = cc

module _ (image : List ℕ) (s : State) (rest : Result (List Item) Refusal) (whole : rest ≡ records image) where
  -- one that is not refused is read whole
  pub sound : (r : Result (List Item) Refusal) → screened s.bus image ≡ r → Ok tt ≡ checked r → (is : List Item) × (rest ≡ Ok is) × (r ≡ Ok is)
  sound (Ok is) e ok = (is, whole ∙ (loading_law.sound s.bus image is e).0, refl)
  sound (Err x) e ok = grind arith

  pub sound_ok : Ok tt ≡ checked (screened s.bus image) → is_ok rest ≡ true
  sound_ok ok = ap is_ok (sound (screened s.bus image) refl ok).1

  pub loads : Ok tt ≡ checked (screened s.bus image) → (z : State) → z ≡ (loaded_by rest s).state → ◌≡◌ {A = Loaded} (record { answer = Ok tt; state = z }) (loaded image s)
  unfolding loaded
  loads ok z e =
      let h = sound (screened s.bus image) refl ok in
      ap {B = Loaded} (λ (y : State). record { answer = Ok tt; state = y }) (e ∙ ap (λ r. (loaded_by r s).state) h.1) ∙ ap (λ r. loaded_by r s) (sym h.2)
