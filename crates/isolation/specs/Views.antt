-- What user state sees of a core and its bus, and when two of them are alike in it. Assumes nothing.
use Rattle.std.specs.Prelude.{◌≡◌, ℕ, Bool, true, false, Ok}
use Rattle.bus.specs.declared.Direction.{Direction}
use Rattle.bus.specs.Model.{Wiring, Model, frame_of}
use Rattle.pages.specs.declared.translation.Access.{Access}
use Rattle.pages.specs.declared.translation.Access.TheVariants.{Fetch, Load, Store}
use Rattle.cpu.specs.Effects.{Seen}
use Rattle.cpu.specs.Registers.{with_pc}
use Rattle.core465.specs.Reaching.{Reach, seen, reach}
use Rattle.step.specs.declared.answer.Answer.{Answer}
use Rattle.step.specs.declared.answer.Answer.TheVariants.{Done, Interrupt, BusFault}
use Rattle.step.specs.Steps.{State}

-- some access of these kinds leads into the frame
pub record Leads (kinds : Access → Bool) (r : Reach) (frame : ℕ) : Type 0 where
  pub access : Access
  pub of_kind : kinds access ≡ true
  pub effective : ℕ
  pub real : ℕ
  pub goes : r access effective ≡ Ok real
  pub lands : frame_of real ≡ frame

abbrev pub reads : Access → Bool
reads Fetch = true
reads Load = true
reads Store = false

abbrev pub stores : Access → Bool
stores Fetch = false
stores Load = false
stores Store = true

abbrev pub any : Access → Bool
any access = true

-- frames that may be loaded or executed; that may be stored to; that some access leads into
abbrev pub Readable : Reach → ℕ → Type 0
Readable = Leads reads

abbrev pub Storable : Reach → ℕ → Type 0
Storable = Leads stores

abbrev pub Reached : Reach → ℕ → Type 0
Reached = Leads any

-- two wirings have the same denials and write rules in all frames that the reach gives an address in
pub record SameWires (r : Reach) (m n : Wiring) : Type 0 where
  pub denials : (d : Direction) (a w : ℕ) → Reached r (frame_of a) → m.denial d a w ≡ n.denial d a w
  pub rules : (f : ℕ) → Reached r f → m.rule f ≡ n.rule f

-- two buses have, besides, the same bytes in all frames that may be loaded or executed
pub record SameBus (r : Reach) (m n : Model) : Type 0 where
  pub bytes : (f : ℕ) → Readable r f → m.bytes f ≡ n.bytes f
  pub wires : SameWires r m.wiring n.wiring

abbrev pub InUser : State → Type 0
InUser s = s.machine.shown.msr.pr ≡ true

-- both are in user state with this reach, and alike in the user's view: no one there can tell which is which
pub record Alike (r : Reach) (s t : State) : Type 0 where
  pub in_user : InUser s
  pub here : reach s.machine ≡ r
  pub there : reach t.machine ≡ r
  pub registers : seen s.machine ≡ seen t.machine
  pub buses : SameBus r s.bus t.bus

-- what user state sees of the registers, but for the counter
abbrev pub uncounted : Seen → Seen
uncounted v = record { working = with_pc v.working 0; shown = v.shown }

-- the same just after an interrupt: the counter is not compared, and the frames are still those of this reach
pub record AlikeOut (r : Reach) (s t : State) : Type 0 where
  pub registers : uncounted (seen s.machine) ≡ uncounted (seen t.machine)
  pub buses : SameBus r s.bus t.bus

-- after a call, by whether it met an interrupt
abbrev pub After : (met : Bool) → Reach → State → State → Type 0
After false = Alike
After true = AlikeOut

abbrev pub interrupts : Answer → Bool
interrupts (Done x) = false
interrupts (Interrupt t) = true
interrupts (BusFault f) = false
