-- What a reader and its answers say. Assumes nothing.
use Rattle.std.specs.Prelude.{◌≡◌, ℕ, ◌+◌, ◌<◌, List, [], length, Some, None, Ok, Err, Option, Result}
use Rattle.std.specs.Option.{option_transpose, option_map}
use Rattle.image.specs.declared.reader.Found.{Found}
use Rattle.image.specs.declared.reader.Reader.{Reader}
use Rattle.image.specs.declared.record.Record.{Record}
use Rattle.image.specs.declared.records.Records.{Records}
use Rattle.image.specs.declared.refusal.Reason.{Reason}
use Rattle.image.specs.declared.refusal.Refusal.{Refusal}
use Rattle.image.specs.Reading.{Place, Step, one, end, refused, fault, step, more, walked}
use Rattle.image.specs.Records.{Item, InRange, is_start}
use Rattle.image.specs.Values.{item}

abbrev pub place : Reader → Place
place r = record { rest = r.rest.now; size = r.size; started = r.started }

-- the records that a reader has yet to hand out
abbrev pub remaining : Reader → Result (List Item) Refusal
remaining r = walked (place r)

abbrev pub opened : Result Reader Refusal → Result Place Refusal
opened (Ok r) = Ok (place r)
opened (Err e) = Err e

-- the records of an image that was opened so
abbrev pub fresh : Result Reader Refusal → Result (List Item) Refusal
fresh (Ok r) = remaining r
fresh (Err e) = Err e

-- what stands where a reader is, by the record that it finds there and the bytes after it
abbrev pub seen : Result (Option Found) Reason → Reader → Step
seen (Ok (Some f)) s = one (item f.«record») (record { rest = f.after.now; size = s.size; started = is_start (item f.«record») })
seen (Ok None) s = end (place s)
seen (Err why) s = fault (place s) why

abbrev pub answered : Result (Option Record) Refusal → Reader → Step
answered (Ok (Some r)) s = one (item r) (place s)
answered (Ok None) s = end (place s)
answered (Err e) s = refused e (place s)

-- what an answer and the records that remain after it come to
abbrev pub told : Result (Option Record) Refusal → Result (List Item) Refusal → Result (List Item) Refusal
told (Ok (Some r)) rest = more (item r) rest
told (Ok None) rest = Ok []
told (Err e) rest = Err e

-- the number of bytes that a reader has yet to read
abbrev pub unread : Reader → ℕ
unread r = length r.rest.now

-- a record leaves fewer bytes, so that a loop over the records ends
abbrev pub Falls : Result (Option Record) Refusal → Reader → Reader → Type 0
Falls (Ok (Some r)) s t = unread t < unread s
Falls (Ok None) s t = Unit {0}
Falls (Err e) s t = Unit {0}

abbrev pub Ranges : Result (Option Record) Refusal → Type 0
Ranges (Ok (Some r)) = InRange (item r)
Ranges (Ok None) = Unit {0}
Ranges (Err e) = Unit {0}

-- nothing remains where the reader is gone
abbrev pub remaining_of : Option Reader → Result (List Item) Refusal
remaining_of (Some r) = remaining r
remaining_of None = Ok []

-- what a loop over the records has yet to see
abbrev pub to_come : Records → Result (List Item) Refusal
to_come s = remaining_of s.reader

-- a byte more than the reader has yet to read, for the refusal that may come
abbrev pub unread_of : Option Reader → ℕ
unread_of (Some r) = unread r + 1
unread_of None = 0

-- a loop has at most so many turns left: each record takes a byte or more
abbrev pub turns_left : Records → ℕ
turns_left s = unread_of s.reader

-- what ends a loop lets the reader go
abbrev pub Over : Option (Result Record Refusal) → Records → Type 0
Over (Some (Ok r)) t = Unit {0}
Over (Some (Err e)) t = t.reader ≡ None
Over None t = t.reader ≡ None

-- what a loop sees of a record or a refusal
abbrev pub told_item : Result Record Refusal → Result Item Refusal
told_item (Ok r) = Ok (item r)
told_item (Err e) = Err e

-- what a loop sees in a turn, and where its reader then stands
pub record Seen : Type 0 where
  pub told : Option (Result Item Refusal)
  pub place : Option Place

-- a record is seen and read over; a refusal is seen, and then the reader is gone, as at the end
abbrev pub seen_at : Step → Seen
seen_at (one i q) = record { told = Some (Ok i); place = Some q }
seen_at (end q) = record { told = None; place = None }
seen_at (refused e q) = record { told = Some (Err e); place = None }

-- what is to be seen where a reader stands, and nothing where it is gone
abbrev pub to_see : Option Reader → Seen
to_see (Some r) = seen_at (step (place r))
to_see None = record { told = None; place = None }

-- what a loop sees in a turn, with what is to come after it, is what was to come before it; it is just what stands where the
-- reader was; a record is in range, and after a refusal or the end nothing comes
pub record Turn (s : Records) (seen : Option (Result Record Refusal)) (t : Records) : Type 0 where
  pub whole : told (option_transpose seen) (to_come t) ≡ to_come s
  pub exact : ◌≡◌ {A = Seen} (record { told = option_map told_item seen; place = option_map place t.reader }) (to_see s.reader)
  pub ranges : Ranges (option_transpose seen)
  pub over : Over seen t
