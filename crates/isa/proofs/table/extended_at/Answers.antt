use Rattle.std.proofs.Common.{rules, tests}
use Rattle.isa.specs.Listed.{extended_at}
use Rattle.isa.proofs.table.extended_at.Goals as goal

-- no row has the number
pub returns-in_default : goal.returns-in_default
unfolding extended_at
returns-in_default c = search (tests, rules)
