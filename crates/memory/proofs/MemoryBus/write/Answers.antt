-- What a put makes of the window's frames and of the rest.
use Rattle.std.proofs.Common.{arith, rules}
use Rattle.memory.proofs.Windows.{memory-written, outside_kept}
use Rattle.memory.proofs.MemoryBus.write.Goals as goal

pub returns-clause-state : goal.returns-clause-state
returns-clause-state c = memory-written c.args.self.now.first c.args.self.now.bytes.now c.put.new.bytes c.args.address c.args.width c.args.value (search rules) (search rules) (search rules)

pub returns-clause-loan : goal.returns-clause-loan
returns-clause-loan c =
    grind (arith, outside_kept c.args.self.now.first c.args.self.now.bytes.now c.put.new.bytes c.args.address c.args.width c.args.value (search rules) (search rules) (search rules))
