-- What the records of the code say. Assumes nothing.
use Rattle.std.specs.Prelude.{Ok, Err, Result}
use Rattle.image.specs.declared.record.Record.{Record}
use Rattle.image.specs.declared.record.Record.TheVariants.{Entry, Data, Start}
use Rattle.image.specs.declared.refusal.Reason.{Reason}
use Rattle.image.specs.Records.{Item, entry, bytes, start}

abbrev pub item : Record → Item
item (Entry e) = entry e
item (Data d) = bytes d.erpn d.address d.bytes.now
item (Start s) = start s.counter s.msr

abbrev pub meaning : Result Record Reason → Result Item Reason
meaning (Ok r) = Ok (item r)
meaning (Err e) = Err e
