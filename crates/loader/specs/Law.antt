-- The law above the check of an image. Assumes nothing.
use Rattle.std.specs.Prelude.{◌≡◌, ℕ, true, ◌⊎◌, List, Ok, Err}
use Rattle.std.specs.List.{AllByRecursion}
use Rattle.bus.specs.Model.{Model}
use Rattle.image.specs.declared.refusal.Reason.TheVariants.{Denied}
use Rattle.image.specs.declared.refusal.Refusal.{Refusal}
use Rattle.image.specs.Records.{Item}
use Rattle.image.specs.Reading.{records}
use Rattle.loader.specs.Loading.{accepts, screened}

-- the bus takes the data of every record
abbrev pub AllAccepted : Model → List Item → Type 0
AllAccepted m is = AllByRecursion (λ i. accepts m i ≡ true) is

pub record LoadingLaw : Type 0 where
  -- the images that are loaded are those that the reader reads and whose data the bus takes
  pub sound : (m : Model) (image : List ℕ) (is : List Item) → screened m image ≡ Ok is → (records image ≡ Ok is) × AllAccepted m is
  pub complete : (m : Model) (image : List ℕ) (is : List Item) → records image ≡ Ok is → AllAccepted m is → screened m image ≡ Ok is
  -- a refusal is the reader's own, or tells of data that the bus does not take
  pub refusals : (m : Model) (image : List ℕ) (x : Refusal) → screened m image ≡ Err x → (records image ≡ Err x) ⊎ (x.reason ≡ Denied)
