use Rattle.std.proofs.Common.{arith}
use Rattle.flags.proofs.FlagPageBus.read.Goals as goal
use Rattle.flags.proofs.Pages.{read_flags, read_enable}

pub returns-in-Flags-clause-answer : goal.returns-in-Flags-clause-answer
returns-in-Flags-clause-answer c =
    let page = c.args.self.now in
    grind (arith, read_flags page.frame page.flags page.enable c.args.address c.args.width (grind arith) (grind arith))

pub returns-in-Enable-clause-answer : goal.returns-in-Enable-clause-answer
returns-in-Enable-clause-answer c =
    let page = c.args.self.now in
    grind (arith, read_enable page.frame page.flags page.enable c.args.address c.args.width (grind arith) (grind arith))
