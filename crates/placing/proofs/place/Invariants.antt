use Rattle.std.proofs.Common.{◌≡◌, ◌+◌, ◌<◌, ◌^◌, drop}
use Rattle.placing.specs.Placing.{placed}
use Rattle.placing.proofs.place.Given as goal

-- what is left to write, from where the bus stands, comes to the whole
abbrev pub invariant-loop-i : goal.invariant-loop-i
invariant-loop-i g l = record {
  left : placed (g.B.Bus.model l.bus) (l.address + l.i) (drop l.i l.bytes) ≡ placed (g.B.Bus.model l.initial.bus) l.address l.bytes;
  loan : g.B.Bus.lent l.bus ≡ g.B.Bus.lent l.initial.bus;
  fits : l.address + l.i < 2 ^ 64;
}
