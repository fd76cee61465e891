-- Which images are loaded, and what loading one does. Assumes nothing.
use Rattle.std.specs.Prelude.{ℕ, zero, suc, ◌+◌, ◌*◌, ◌^◌, Bool, true, cond, not, ◌&&◌, List, [], ◌∷◌, length, is_some, Ok, Err, Result}
use Rattle.bus.specs.Model.{Model}
use Rattle.bus.specs.declared.Direction.TheVariants.{Write}
use Rattle.image.specs.declared.record.PageEntry.{PageEntry}
use Rattle.image.specs.declared.refusal.Reason.TheVariants.{Denied, Order}
use Rattle.image.specs.declared.refusal.Refusal.{Refusal}
use Rattle.image.specs.Reasons.{refusal_at}
use Rattle.image.specs.Records.{Item, entry, bytes, start}
use Rattle.image.specs.Reading.{Place, offset_of, Step, one, end, refused, fault, step, after, begin}
use Rattle.placing.specs.Placing.{placed}
use Rattle.pages.specs.declared.entry.Entry.{Entry}
use Rattle.pages.specs.Tables.{with_entry}
use Rattle.cpu.specs.Registers.{msr_from, with_pc}
use Rattle.core465.specs.Deeds.{with_working, with_entries, with_msr}
use Rattle.step.specs.Steps.{State, with_machine}

-- the bus serves the write of each of these bytes, from the address on
abbrev pub serves : Model → (address : ℕ) → List ℕ → Bool
serves m a [] = true
serves m a (b ∷ bs) = not (is_some (m.wiring.denial Write a 1)) && serves m (a + 1) bs

-- the bus takes the data of a record, if it has data
abbrev pub accepts : Model → Item → Bool
accepts m (entry e) = true
accepts m (bytes erpn a bs) = serves m (erpn * 2 ^ 32 + a) bs
accepts m (start c w) = true

-- a record in its turn: what the reader refuses, and then data that the bus does not take
abbrev pub judged : Model → Place → Step → Step
judged m p (one i q) = cond (accepts m i) (one i q) (fault p Denied)
judged m p (end q) = end q
judged m p (refused e q) = refused e q

-- the records from a place on, in at most n steps, as the reader's own walk has them
unfoldable pub screen : Model → ℕ → Place → Result (List Item) Refusal
screen m zero p = Err (refusal_at Order (offset_of p))
screen m (suc n) p = after (λ q. screen m n q) (judged m p (step p))

abbrev pub screened_from : Model → Result Place Refusal → Result (List Item) Refusal
screened_from m (Ok p) = screen m (suc (length p.rest)) p
screened_from m (Err e) = Err e

-- the records to load, or the first refusal
abbrev pub screened : Model → (image : List ℕ) → Result (List Item) Refusal
screened m image = screened_from m (begin image)

abbrev pub checked : Result (List Item) Refusal → Result Unit Refusal
checked (Ok is) = Ok tt
checked (Err e) = Err e

-- a page entry as the table holds it
abbrev pub entry_of : PageEntry → Entry
entry_of e = record { tid = e.tid; word0 = e.word0; word1 = e.word1; word2 = e.word2 }

-- a record, loaded: an entry is replaced, bytes are written one by one, counter and MSR are set
abbrev pub applied : Item → State → State
applied (entry e) s = with_machine s (with_entries s.machine (with_entry s.machine.entries e.number (entry_of e)))
applied (bytes erpn a bs) s = record { machine = s.machine; bus = (placed s.bus (erpn * 2 ^ 32 + a) bs).model }
applied (start c w) s = with_machine s (with_msr (with_working s.machine (with_pc s.machine.working c)) (msr_from w))

abbrev pub applied_all : List Item → State → State
applied_all [] s = s
applied_all (i ∷ is) s = applied_all is (applied i s)

-- what a load answers, and what it leaves
pub record Loaded : Type 0 where
  pub answer : Result Unit Refusal
  pub state : State

abbrev pub loaded_by : Result (List Item) Refusal → State → Loaded
loaded_by (Ok is) s = record { answer = Ok tt; state = applied_all is s }
loaded_by (Err e) s = record { answer = Err e; state = s }

-- an image is checked whole, and only then loaded
unfoldable pub loaded : (image : List ℕ) → State → Loaded
loaded image s = loaded_by (screened s.bus image) s
