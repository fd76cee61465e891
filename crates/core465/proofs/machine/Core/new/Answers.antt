use Rattle.std.proofs.Common.{sym, subst}
use Rattle.core465.specs.Machine.{MachineKept, new_machine}
use Rattle.core465.proofs.Fresh.{new_kept, zero_working, zero_shown, zero_hidden}
use Rattle.core465.proofs.machine.Core.new.Goals as goal

pub returns-clause-is : goal.returns-clause-is
unfolding new_machine
returns-clause-is c =
    simp (
      zero_working c.default.result c.default.ensures,
      zero_shown c.default-2.result c.default-2.ensures,
      zero_hidden c.default-3.result c.default-3.ensures,
      c.empty.ensures.value,
    )

pub invariant_of-result : goal.invariant_of-result
invariant_of-result c = subst MachineKept (sym (returns-clause-is c)) new_kept

pub returns-clause-keeps : goal.returns-clause-keeps
returns-clause-keeps c = invariant_of-result c
