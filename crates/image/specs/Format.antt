-- Which images are read and which are refused, in the words of the format. Assumes nothing.
use Rattle.std.specs.Prelude.{◌≡◌, ℕ, ◌+◌, ◌*◌, ◌/◌, ◌%◌, ◌<◌, ◌≤◌, Bool, true, false, ◌⊎◌, List, [], ◌∷◌, ◌++◌, map, length, take, Ok, Err, slice_index}
use Rattle.std.specs.List.{flat_map}
use Rattle.image.specs.declared.refusal.Reason.{Reason}
use Rattle.image.specs.declared.refusal.Reason.TheVariants.{Truncated, Order}
use Rattle.image.specs.declared.refusal.Refusal.{Refusal}
use Rattle.image.specs.Reading.{Place, step, after, walked, begin, records}
use Rattle.image.specs.Records.{Item, is_start, record_of}

-- a record as it stands in an image: its length in two bytes, the higher first, and its bytes
abbrev pub framed : List ℕ → List ℕ
framed bs = length bs / 256 ∷ length bs % 256 ∷ bs

-- whether the start has come (z) after some records, where it had come or not (b) before them: no record follows it
abbrev pub Follows : List Item → Bool → Bool → Type 0
Follows [] b z = b ≡ z
Follows (i ∷ is) true z = ⊥
Follows (i ∷ is) false z = Follows is (is_start i) z

-- an image is the version, the bytes of some records one after the other, and a tail; started: the start is among the records
pub record Begins (image : List ℕ) (items : List Item) (started : Bool) (tail : List ℕ) : Type 0 where
  pub bodies : List (List ℕ)
  pub whole : image ≡ 1 ∷ (flat_map framed bodies ++ tail)
  pub small : length image ≤ 65535
  pub means : map record_of bodies ≡ map Ok items
  pub order : Follows items false started

-- an image of these records: the start stands once, last, and nothing is left
abbrev pub Image : List ℕ → List Item → Type 0
Image image items = Begins image items true []

-- why the bytes left are no record, and not the end of an image
abbrev pub Wrong : Bool → List ℕ → Reason → Type 0
Wrong true [] why = ⊥
Wrong true (b ∷ bs) why = why ≡ Order
Wrong false [] why = why ≡ Order
Wrong false (high ∷ []) why = why ≡ Truncated
Wrong false (high ∷ low ∷ rest) why =
    ((length rest < high * 256 + low) × (why ≡ Truncated)) ⊎ ((high * 256 + low ≤ length rest) × (record_of (take (high * 256 + low) rest) ≡ Err why))

-- an image that is refused: it begins with records, and the tail after them is wrong, at the tail's place
pub record Stops (image : List ℕ) (x : Refusal) : Type 0 where
  pub items : List Item
  pub started : Bool
  pub tail : List ℕ
  pub front : Begins image items started tail
  pub wrong : Wrong started tail x.reason
  pub place : x.offset + length tail ≡ length image

abbrev pub Bytes : List ℕ → Type 0
Bytes bs = (k : ℕ) → slice_index bs k < 256

pub record Law : Type 0 where
  -- the records from a place on are the next one and then those from where it ends
  pub unfolds : (p : Place) → walked p ≡ after walked (step p)
  -- the images that are read are those that the format describes
  pub sound : (image : List ℕ) (items : List Item) → Bytes image → records image ≡ Ok items → Image image items
  pub complete : (image : List ℕ) (items : List Item) → Image image items → records image ≡ Ok items
  -- an image that is refused has a bad size or version, or stops at the first record that is wrong
  pub refuses : (image : List ℕ) (x : Refusal) → Bytes image → records image ≡ Err x → (begin image ≡ Err x) ⊎ Stops image x
  pub stops : (image : List ℕ) (x : Refusal) → Stops image x → records image ≡ Err x
