-- What user state sees of a core, and what its accesses reach. Assumes nothing.
use Rattle.std.specs.Prelude.{ℕ, Bool, ◌&&◌, List, Result}
use Rattle.word.specs.Words.{wrap}
use Rattle.cpu.specs.declared.registers.Msr.{Msr}
use Rattle.cpu.specs.Effects.{Seen, seen_of}
use Rattle.pages.specs.declared.entry.Entry.{Entry}
use Rattle.pages.specs.declared.translation.Access.{Access}
use Rattle.pages.specs.declared.translation.Access.TheVariants.{Fetch, Load, Store}
use Rattle.pages.specs.declared.translation.PageFault.{PageFault}
use Rattle.pages.specs.Translating.{translate}
use Rattle.core465.specs.Machine.{Machine}

-- the registers that user state sees
abbrev pub seen : Machine → Seen
seen m = seen_of m.working m.shown

-- the line is up and external interrupts are enabled
abbrev pub external : Seen → Bool
external v = v.shown.line && v.shown.msr.ee

-- by access and effective address: the real address, or that no entry matches, or that the one that matches does not grant it
abbrev pub Reach : Type 0
Reach = Access → ℕ → Result ℕ PageFault

-- the space of a fetch is IS, that of data DS
abbrev pub space_of : Access → Msr → Bool
space_of Fetch m = m.is
space_of Load m = m.ds
space_of Store m = m.ds

-- effective addresses have 32 bits
abbrev pub reach_of : List Entry → Msr → (pid : ℕ) → Reach
reach_of es m pid access a = translate es (record { space = space_of access m; pid = pid; effective = wrap a }) (record { user = m.pr; access = access })

abbrev pub reach : Machine → Reach
reach m = reach_of m.entries m.shown.msr m.hidden.pid
