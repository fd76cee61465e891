-- How an instruction ends whose deed is done. Assumes nothing.
use Rattle.std.specs.Prelude.{◌≡◌}
use Rattle.cpu.specs.declared.registers.Working.{Working}
use Rattle.cpu.specs.declared.deed.Deed.{Deed}
use Rattle.cpu.specs.declared.deed.Deed.TheVariants.{Finished}

-- nothing is left to do, and the registers are those given
abbrev pub Finishes : Deed → Working → Working → Type 0
Finishes d exit w = (d ≡ Finished) × (exit ≡ w)
