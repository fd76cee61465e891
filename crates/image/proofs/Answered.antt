-- What an answer of the reader says, by the step that it is. Assumes nothing.
use Rattle.std.proofs.Common.{◌≡◌, Some, None, Ok, Err, Option, Result, sym, refl, ap, ◌∙◌}
use Rattle.image.specs.declared.reader.Reader.{Reader}
use Rattle.image.specs.declared.record.Record.{Record}
use Rattle.image.specs.declared.refusal.Refusal.{Refusal}
use Rattle.image.specs.Readers.{place, remaining, answered, told, Falls, Ranges}
use Rattle.image.specs.Reading.{one, step, after, walked}
use Rattle.image.specs.Values.{item}
use Rattle.image.proofs.Ranges.{in_range}
use Rattle.image.proofs.Steps.{says, shorter, unfolds}

told_after : (r : Result (Option Record) Refusal) (t : Reader) → told r (remaining t) ≡ after walked (answered r t)
told_after (Ok (Some r)) t = refl
told_after (Ok None) t = refl
told_after (Err x) t = refl

-- r is the answer at s, and t the reader after it
module _ (s t : Reader) (r : Result (Option Record) Refusal) (e : answered r t ≡ step (place s)) where
  pub whole : told r (remaining t) ≡ remaining s
  whole = told_after r t ∙ ap (after walked) e ∙ sym (unfolds (place s))

pub falls : (s t : Reader) (r : Result (Option Record) Refusal) → answered r t ≡ step (place s) → Falls r s t
falls s t (Ok (Some r)) e = shorter (place s) (item r) (place t) e
falls s t (Ok None) e = tt
falls s t (Err x) e = tt

pub ranges : (s t : Reader) (r : Result (Option Record) Refusal) → answered r t ≡ step (place s) → Ranges r
ranges s t (Ok (Some r)) e = let taken = says (place s) (one (item r) (place t)) e in in_range taken.body (item r) taken.means
ranges s t (Ok None) e = tt
ranges s t (Err x) e = tt
