use Rattle.std.proofs.Common.{refl}
use lib.Count.{count_leading_zeros}
use Rattle.word.specs.Shifts.{mask}
use Rattle.isa.specs.Listed.{primary_at}
use Rattle.isa.specs.Decoded.{decoded}
use Rattle.cpu.specs.Integer.{completed}
use Rattle.pages.proofs.Known.{known_translation}
use Rattle.core465.specs.Machine.{new_machine}
use Rattle.core465.proofs.values.known_values.Goals as goal

pub returns : goal.returns
unfolding count_leading_zeros mask completed new_machine decoded primary_at
returns c = record {
  plain_mask = refl;
  wrapped_mask = refl;
  no_bits = refl;
  sum = refl;
  sum_overflows = refl;
  sum_sticks = refl;
  sum_recorded = refl;
  shift_carries = refl;
  shift_keeps = refl;
  system_call = refl;
  translation = known_translation;
}
