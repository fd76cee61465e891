use Rattle.isolation.proofs.Lives.{isolation}
use Rattle.isolation.proofs.law.Goals as goal

pub returns : goal.returns
returns c = isolation
