-- What the two sides have become makes the joined bus.
use Rattle.std.proofs.Common.{arith}
use Rattle.bus.proofs.Joining.{joined_left, joined_right}
use Rattle.bus.proofs.JoinedBus.write.Goals as goal

pub returns-in-Err-eq1-clause-state : goal.returns-in-Err-eq1-clause-state
returns-in-Err-eq1-clause-state g c =
    grind (arith, joined_right _ (g.R.Bus.model c.args.self.now.right) (g.met.L.Bus.lawful c.args.self.now.left) c.args.address c.args.width c.args.value (grind arith))

pub returns-in_default-2-clause-state : goal.returns-in_default-2-clause-state
returns-in_default-2-clause-state g c =
    let h = c.in_default in
    grind (arith, joined_left _ (g.R.Bus.model c.args.self.now.right) (g.met.L.Bus.lawful c.args.self.now.left) c.args.address c.args.width c.args.value (grind arith))
