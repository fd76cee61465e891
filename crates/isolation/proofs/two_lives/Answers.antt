use Rattle.isolation.proofs.Witness.{two_lives}
use Rattle.isolation.proofs.two_lives.Goals as goal

pub returns : goal.returns
returns c = two_lives
