use Rattle.std.proofs.Common.{length}
use Rattle.image.specs.Readers.{place}
use Rattle.loader.specs.Loading.{screened, checked}
use Rattle.loader.proofs.Screening.{Rest}
use Rattle.loader.proofs.screen.Given as goal

abbrev pub invariant-loop-part : goal.invariant-loop-part
invariant-loop-part g l = Rest (g.B.Bus.model l.bus) (place l.reader) (checked (screened (g.B.Bus.model l.bus) l.image))

abbrev pub decreases-loop-part : goal.decreases-loop-part
decreases-loop-part g l = length l.reader.rest.now
