use Rattle.std.proofs.Common.{Ok, arith}
use Rattle.std.proofs.lemmas.Grind.{common_steps}
use Rattle.placing.proofs.Telling.{told}
use Rattle.placing.proofs.place.Goals as goal

pub returns-in_err-place_byte-clause-first : goal.returns-in_err-place_byte-clause-first
returns-in_err-place_byte-clause-first g c = told (g.B.Bus.model c.args.bus.now) c.args.address c.args.bytes.now _ (grind (arith, common_steps))

pub returns-clause-first : goal.returns-clause-first
returns-clause-first g c = told (g.B.Bus.model c.args.bus.now) c.args.address c.args.bytes.now (Ok tt) (grind (arith, common_steps))
