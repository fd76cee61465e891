-- What an image means: the list of its records, or why and where it is refused. Assumes nothing.
use Rattle.std.specs.Prelude.{ℕ, zero, suc, ◌+◌, ◌-◌, ◌*◌, Bool, false, cond, List, [], ◌∷◌, length, take, drop, Ok, Err, Result, ◌==◌, nat_le}
use Rattle.image.specs.declared.refusal.Reason.{Reason}
use Rattle.image.specs.declared.refusal.Reason.TheVariants.{Size, Version, Truncated, Order}
use Rattle.image.specs.declared.refusal.Refusal.{Refusal}
use Rattle.image.specs.Reasons.{refusal_at}
use Rattle.image.specs.Records.{Item, is_start, record_of}

-- a place in an image of size bytes: the bytes left there, and whether the start has come
pub record Place : Type 0 where
  pub rest : List ℕ
  pub size : ℕ
  pub started : Bool

-- where the bytes left begin in the image
abbrev pub offset_of : Place → ℕ
offset_of p = p.size - length p.rest

-- what stands at a place: a record, the end or a fault, and where a reader then stands
pub data Step : Type 0 where
  one : Item → Place → Step
  end : Place → Step
  refused : Refusal → Place → Step

abbrev pub fault : Place → Reason → Step
fault p why = refused (refusal_at why (offset_of p)) p

-- a record of n bytes, which rest begins with and whose meaning is given
abbrev pub taken : Place → ℕ → List ℕ → Result Item Reason → Step
taken p n rest (Ok i) = one i (record { rest = drop n rest; size = p.size; started = is_start i })
taken p n rest (Err why) = fault p why

-- before the start: the bytes left are a length in two bytes, so many bytes of a record, and others
abbrev pub unstarted : Place → List ℕ → Step
unstarted p [] = fault p Order
unstarted p (high ∷ []) = fault p Truncated
unstarted p (high ∷ low ∷ rest) =
    cond (nat_le (high * 256 + low) (length rest))
    (taken p (high * 256 + low) rest (record_of (take (high * 256 + low) rest)))
    (fault p Truncated)

-- after the start nothing is left
abbrev pub ended : Place → List ℕ → Step
ended p [] = end p
ended p (b ∷ rest) = fault p Order

abbrev pub step : Place → Step
step p = cond p.started (ended p p.rest) (unstarted p p.rest)

abbrev pub more : Item → Result (List Item) Refusal → Result (List Item) Refusal
more i (Ok is) = Ok (i ∷ is)
more i (Err e) = Err e

-- what is read from a step on, where `go` says what is read from the place after it
abbrev pub after : (Place → Result (List Item) Refusal) → Step → Result (List Item) Refusal
after go (one i q) = more i (go q)
after go (end q) = Ok []
after go (refused e q) = Err e

-- the records from a place on, in at most n steps
unfoldable pub walk : ℕ → Place → Result (List Item) Refusal
walk zero p = Err (refusal_at Order (offset_of p))
walk (suc n) p = after (λ q. walk n q) (step p)

-- the records from a place on: each takes two bytes or more, so these steps are enough (`unfolds` of Format)
abbrev pub walked : Place → Result (List Item) Refusal
walked p = walk (suc (length p.rest)) p

-- the place of the first record
abbrev pub begin : List ℕ → Result Place Refusal
begin [] = Err (refusal_at Size 0)
begin (version ∷ rest) =
    cond (nat_le (length (version ∷ rest)) 65535)
    (cond (version == 1) (Ok (record { rest = rest; size = length (version ∷ rest); started = false })) (Err (refusal_at Version 0)))
    (Err (refusal_at Size 0))

abbrev pub from : Result Place Refusal → Result (List Item) Refusal
from (Ok p) = walked p
from (Err e) = Err e

-- the records of an image
abbrev pub records : List ℕ → Result (List Item) Refusal
records image = from (begin image)

abbrev pub counted : Result (List Item) Refusal → Result ℕ Refusal
counted (Ok is) = Ok (length is)
counted (Err e) = Err e
