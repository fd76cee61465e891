-- The core of a life in the code, as where the life stands. Assumes nothing.
use Rattle.bus.specs.Model.{Model}
use Rattle.step.specs.Steps.{state_of}
use Rattle.life.specs.Lives.{Standing, running, stopped, retired}
use Rattle.living.specs.declared.held.Held.{Held}
use Rattle.living.specs.declared.held.Held.TheVariants.{Up, Down, Gone}

abbrev pub standing_of : Held → Model → Standing
standing_of (Up r) m = running (state_of r.core m)
standing_of (Down d) m = stopped (state_of d.core m)
standing_of Gone m = retired m
