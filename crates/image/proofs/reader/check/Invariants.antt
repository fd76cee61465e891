use Rattle.std.proofs.Common.{◌≡◌, ◌+◌, ◌≤◌}
use Rattle.image.specs.Readers.{to_come, turns_left}
use Rattle.image.specs.Reading.{counted, records}
use Rattle.image.proofs.Counting.{plus}
use Rattle.image.proofs.reader.check.Given as goal

-- the records counted so far and those to come are all records
abbrev pub invariant-loop-record : goal.invariant-loop-record
invariant-loop-record l =
    record {
      all : counted (records l.image) ≡ plus l.count (counted (to_come l.record-iterator));
      few : l.count + turns_left l.record-iterator ≤ 65536;
    }
