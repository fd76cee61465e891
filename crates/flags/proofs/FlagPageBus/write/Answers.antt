use Rattle.std.proofs.Common.{arith}
use Rattle.flags.proofs.FlagPageBus.write.Goals as goal
use Rattle.flags.proofs.Pages.{wrote_flags, wrote_enable}

pub returns-in-Flags-clause-state : goal.returns-in-Flags-clause-state
returns-in-Flags-clause-state c =
    let page = c.args.self.now in
    grind (arith, wrote_flags page.frame page.flags page.enable c.args.address c.args.width (grind arith) c.args.value (grind arith))

pub returns-in-Enable-clause-state : goal.returns-in-Enable-clause-state
returns-in-Enable-clause-state c =
    let page = c.args.self.now in
    wrote_enable page.frame page.flags page.enable c.args.address c.args.width (grind arith) c.args.value (grind arith)
