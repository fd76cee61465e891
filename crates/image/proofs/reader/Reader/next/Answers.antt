use Rattle.std.proofs.Common.{rules, ◌≡◌, Some, None, Ok, Option, Result}
use Rattle.image.specs.declared.reader.Reader.{Reader}
use Rattle.image.specs.declared.record.Record.{Record}
use Rattle.image.specs.declared.refusal.Refusal.{Refusal}
use Rattle.image.specs.Readers.{place, answered}
use Rattle.image.specs.Reading.{step}
use Rattle.image.proofs.Answered.{whole, falls, ranges}
use Rattle.image.proofs.reader.Reader.next.Goals as goal

pub returns-in_err-found-clause-whole : goal.returns-in_err-found-clause-whole
returns-in_err-found-clause-whole c =
    let s : Reader = c.args.self.now in
    whole s s c.from_residual.result (search rules)

pub returns-in_default-clause-whole : goal.returns-in_default-clause-whole
returns-in_default-clause-whole c =
    let s : Reader = c.args.self.now in
    whole s s (Ok None) (search rules)

pub returns : goal.returns
returns c =
    let s : Reader = c.args.self.now in
    let t : Reader = record { rest = c.in-Some.field-0.after; size = s.size; started = c.is_start-self.result } in
    let r : Result (Option Record) Refusal = Ok (Some c.in-Some.field-0.«record») in
    let e : answered r t ≡ step (place s) = search rules in
    record { steps = e; whole = whole s t r e; falls = falls s t r e; ranges = ranges s t r e }
