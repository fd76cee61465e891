use Rattle.std.proofs.Common.{arith, rules}
use Rattle.isa.specs.Decoded.{decoded}
use Rattle.isa.proofs.Round.{in_range}
use Rattle.isa.proofs.decoding.decode.Goals as goal

pub returns-clause-in_range : goal.returns-clause-in_range
unfolding decoded
returns-clause-in_range c = in_range c.args.word (omega arith) c.by_primary.result (search rules)
