-- A core as the machine that contracts see of it. Assumes nothing.
use Rattle.core465.specs.declared.machine.Core.TheInside.{Inside}
use Rattle.core465.specs.Machine.{Machine}

abbrev pub machine_of : Inside → Machine
machine_of c = record { working = c.working; shown = c.shown; hidden = c.hidden; entries = c.pages.entries }
