use Rattle.std.proofs.Common.{w32, arith, rules}
use Rattle.std.proofs.lemmas.Nat.Bits.{bit_at_and, bit_at_not}
use Rattle.std.specs.Int.{bit_not}
use Rattle.flags.proofs.FlagPage.clear.Goals as goal

pub returns-clause-bits : goal.returns-clause-bits
returns-clause-bits c i h =
    let p = bit_at_and c.args.self.now.flags (bit_not w32 c.args.ones) i in
    let q = bit_at_not w32 c.args.ones i (search rules) h in
    grind arith
