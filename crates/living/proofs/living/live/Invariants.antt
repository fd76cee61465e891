use Rattle.std.proofs.Common.{◌≡◌, ◌≤◌, ◌++◌, length, drop, vec_items, vec_len, vec_capacity}
use Rattle.life.specs.Lives.{From}
use Rattle.living.specs.Commands.{responses, lived}
use Rattle.living.specs.Standings.{standing_of}
use Rattle.living.proofs.living.live.Given as goal

abbrev pub invariant-loop-command : goal.invariant-loop-command
invariant-loop-command g l =
    ((vec_len l.answers ≡ l.command-index) × (length l.commands ≤ vec_capacity l.answers))
    × (vec_items l.answers ++ responses (drop l.command-index l.commands) (standing_of l.life (g.B.Bus.model l.bus))
    ≡ responses l.commands (standing_of l.initial.life (g.B.Bus.model l.initial.bus)))
    × (lived (drop l.command-index l.commands) (standing_of l.life (g.B.Bus.model l.bus))
    ≡ lived l.commands (standing_of l.initial.life (g.B.Bus.model l.initial.bus)))
    × From (standing_of l.initial.life (g.B.Bus.model l.initial.bus)) (standing_of l.life (g.B.Bus.model l.bus))
