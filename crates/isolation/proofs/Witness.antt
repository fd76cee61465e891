-- Two lives on two boards of two frames of plain memory: in frame 0 stand a load and a store, frame 1 is out of reach.
use Rattle.std.proofs.Common.{◌≡◌, ℕ, ◌+◌, ◌%◌, ◌^◌, ◌<◌, Bool, true, false, cond, eqb, get_or, replicate, Some, None, Ok, Err, Result, unwrap_or, sym, refl, ap, ◌∙◌, subst, arith}
use lib.ListN.{length-replicate}
use Rattle.std.proofs.lemmas.Bool.Decides.{nat_tests}
use Rattle.bus.specs.Model.{Model, Bytes, big_endian, frame_of, offset_of}
use Rattle.bus.specs.Rules.{Lawful, IsWiring, IsFrame}
use Rattle.memory.specs.Memory.{window_wiring}
use Rattle.memory.specs.Laws.{memory_lawful}
use Rattle.isa.specs.declared.instruction.Load.{Load as LoadFormat}
use Rattle.isa.specs.declared.instruction.LoadOp.TheVariants.{Lwz}
use Rattle.isa.specs.declared.instruction.Offset.TheVariants.{Displacement}
use Rattle.isa.specs.declared.instruction.Instruction.TheVariants as instruction
use Rattle.isa.specs.Listed.{primary_at}
use Rattle.isa.specs.Decoded.{decoded}
use Rattle.cpu.specs.Effects.{Seen, effect}
use Rattle.cpu.specs.Memory.{loading, received}
use Rattle.pages.specs.declared.entry.Entry.{Entry as PageEntry}
use Rattle.pages.specs.declared.matching.VirtualAddress.{VirtualAddress}
use Rattle.pages.specs.declared.translation.Access.{Access}
use Rattle.pages.specs.declared.translation.Access.TheVariants.{Fetch, Load, Store}
use Rattle.pages.specs.declared.translation.PageFault.{PageFault}
use Rattle.pages.specs.declared.translation.PageFault.TheVariants.{Miss}
use Rattle.pages.specs.Matching.{matches, found}
use Rattle.pages.specs.Tables.{with_entry}
use Rattle.pages.specs.Translating.{real_of, resolved, translate}
use Rattle.core465.specs.Machine.{Machine, new_machine}
use Rattle.core465.specs.Reaching.{Reach, reach}
use Rattle.service.specs.declared.putting.Put.{Put}
use Rattle.service.specs.declared.putting.Put.TheVariants.{Special, Msr, Entry}
use Rattle.service.specs.Putting.{put_machine}
use Rattle.step.specs.Plans.{planned}
use Rattle.step.specs.Steps.{State, stepped}
use Rattle.life.specs.Lives.{running, called, put, resume, here, then, Life}
use Rattle.isolation.specs.Views.{Leads, Readable, Storable, Alike, After, interrupts}
use Rattle.isolation.proofs.Steps.{steps_alike}
use Rattle.isolation.specs.Witness.{TakesLoad, TakesStore, TwoLives}

-- lwz r3,0(0) and stw r3,0x200(0)
abbrev code : Bytes
code k = cond (eqb k 0) 0x80 (cond (eqb k 1) 0x60 (cond (eqb k 4) 0x90 (cond (eqb k 5) 0x60 (cond (eqb k 6) 2 0))))

abbrev board : (secret : ℕ) → Model
board secret = record {
  bytes = λ f k. cond (eqb f 0) (code k) (cond (eqb f 1) (cond (eqb k 0) secret 0) 0);
  wiring = window_wiring 0 2048;
}

wires : IsWiring (window_wiring 0 2048)
wires = subst (λ n. IsWiring (window_wiring 0 n)) (length-replicate {A = ℕ} 2048 0) (memory_lawful 0 (replicate 2048 0)).wiring

board_frame : (secret : ℕ) → secret < 256 → (f : ℕ) → IsFrame ((board secret).bytes f)
board_frame secret h f = record { small = λ k. grind (arith, nat_tests); inside = λ k i. grind (arith, nat_tests) }

board_lawful : (secret : ℕ) → secret < 256 → Lawful (board secret)
board_lawful secret h = record { wiring = wires; frames = board_frame secret h; nothing = λ f k e. grind (arith, nat_tests) }

-- a page of 1,024 bytes at 0 that user state may fetch, load and store in
abbrev page : PageEntry
page = record { tid = 0; word0 = 0x200; word1 = 0; word2 = 0x38 }

abbrev put_in : Put → Machine → Machine
put_in p m = unwrap_or (put_machine p m) m

-- user state, with a word in SPRG0
abbrev at : (sprg secret : ℕ) → State
at sprg secret = record { machine = put_in (Msr 0x4000) (put_in (Special 272 sprg) (put_in (Entry 0 page) new_machine)); bus = board secret }

life : (sprg secret : ℕ) → secret < 256 → Life (running (at sprg secret))
unfolding called
life sprg secret h = record {
  bus = board secret;
  lawful = board_lawful secret h;
  way = then (then (then (then here (put (Entry 0 page))) (put (Special 272 sprg))) (put (Msr 0x4000))) resume;
}

abbrev common : Reach
common = reach (at 16 7).machine

-- every access that goes anywhere goes to frame 0
abbrev address : ℕ → VirtualAddress
address ea = record { space = false; pid = 0; effective = ea % 2 ^ 32 }

module _ (a : ℕ) where
  outside : ◌≡◌ {A = Result ℕ PageFault} (Err Miss) (Ok a) → frame_of a ≡ 0
  outside e = grind arith

  inside : (ea : ℕ) → ◌≡◌ {A = Result ℕ PageFault} (Ok (real_of page (ea % 2 ^ 32))) (Ok a) → frame_of a ≡ 0
  inside ea e = let z : 0 + (0 + ea % 2 ^ 32 % 1024) ≡ a = cc in omega arith

  by-page : (k : Access) (b : Bool) (ea : ℕ) → resolved (at 16 7).machine.entries (address ea) (record { user = true; access = k }) (cond b (Some 0) None) ≡ Ok a → frame_of a ≡ 0
  unfolding with_entry new_machine
  by-page Fetch true ea e = inside ea e
  by-page Fetch false ea e = outside e
  by-page Load true ea e = inside ea e
  by-page Load false ea e = outside e
  by-page Store true ea e = inside ea e
  by-page Store false ea e = outside e

  reaches : (k : Access) (ea : ℕ) → common k ea ≡ Ok a → frame_of a ≡ 0
  unfolding translate found with_entry new_machine
  reaches Fetch ea e = by-page Fetch (matches page (address ea)) ea e
  reaches Load ea e = by-page Load (matches page (address ea)) ea e
  reaches Store ea e = by-page Store (matches page (address ea)) ea e

only_zero : (kinds : Access → Bool) (f : ℕ) → Leads kinds common f → f ≡ 0
only_zero kinds f h = sym h.lands ∙ reaches h.real h.access h.effective h.goes

-- frame 0 has the same bytes on both boards
same_bytes : (f m n : ℕ) → f ≡ 0 → (board m).bytes f ≡ (board n).bytes f
same_bytes f m n e = subst (λ g. (board m).bytes g ≡ (board n).bytes g) (sym e) refl

one_and_other : Alike common (at 16 7) (at 32 9)
unfolding new_machine
one_and_other = record {
  in_user = refl;
  here = refl;
  there = refl;
  registers = refl;
  buses = record { bytes = λ f h. same_bytes f 7 9 (only_zero _ f h); wires = record { denials = λ d a w h. refl; rules = λ f h. refl } };
}

abbrev lwz : LoadFormat
lwz = record { op = Lwz; rt = 3; ra = 0; offset = Displacement 0; update = false }

takes-load : TakesLoad (at 16 7)
unfolding stepped planned translate found with_entry new_machine decoded primary_at effect
takes-load = record {
  at = 0;
  fetched = refl;
  instruction = instruction.Load lwz;
  read = refl;
  address = 0;
  width = 4;
  after = λ x. received (loading lwz (at 16 7).machine.working) x (at 16 7).machine.working;
  loads = refl;
  done = refl;
}

takes-store : TakesStore (stepped (at 16 7)).state
unfolding stepped planned translate found with_entry new_machine decoded primary_at effect received
takes-store = record { stored = record { address = 0x200; width = 4; value = 0x80600000 }; done = refl }

-- what one takes the other takes, by the law itself
module _ (r : Reach) (s t : State) (al : Alike r s t) (l : TakesLoad s) where
  goes-there : r Fetch s.machine.working.pc ≡ Ok l.at
  goes-there = ap (λ (q : Reach). q Fetch s.machine.working.pc) (sym al.here) ∙ l.fetched

  frame_seen : Readable r (frame_of l.at)
  frame_seen = record { access = Fetch; of_kind = refl; effective = s.machine.working.pc; real = l.at; goes = goes-there; lands = refl }

  load_too : TakesLoad t
  load_too = record {
    at = l.at;
    fetched = ap (λ (q : Reach). q Fetch t.machine.working.pc) al.there ∙ ap (λ (v : Seen). r Fetch v.working.pc) (sym al.registers) ∙ goes-there;
    instruction = l.instruction;
    read = ap (λ (b : Bytes). decoded (big_endian b (offset_of l.at) 4)) (sym (al.buses.bytes (frame_of l.at) frame_seen)) ∙ l.read;
    address = l.address;
    width = l.width;
    after = l.after;
    loads = ap (effect l.instruction) (sym al.registers) ∙ l.loads;
    done = sym (steps_alike r s t al).0 ∙ l.done;
  }

  still_alike : Alike r (stepped s).state (stepped t).state
  still_alike = subst (λ (b : Bool). After b r (stepped s).state (stepped t).state) (ap interrupts l.done) (steps_alike r s t al).1

  store_too : TakesStore (stepped s).state → TakesStore (stepped t).state
  store_too x = record { stored = x.stored; done = sym (steps_alike r (stepped s).state (stepped t).state still_alike).0 ∙ x.done }

may_store : Storable common 0
unfolding translate found with_entry new_machine
may_store = record { access = Store; of_kind = refl; effective = 0; real = 0; goes = refl; lands = refl }

pub two_lives : TwoLives
unfolding new_machine
two_lives = record {
  one = at 16 7;
  other = at 32 9;
  life_of_one = life 16 7 (omega arith);
  life_of_other = life 32 9 (omega arith);
  common = common;
  alike = one_and_other;
  hidden_differs = λ e. let z : ◌≡◌ {A = ℕ} 16 32 = ap (λ h. get_or h.sprg 0 0) e in omega arith;
  hidden_frame = 1;
  out_of_reach = λ h. let z : ◌≡◌ {A = ℕ} 1 0 = only_zero _ 1 h in omega arith;
  bytes_differ = λ e. let z : ◌≡◌ {A = ℕ} 7 9 = ap (λ b. b 0) e in omega arith;
  shared_frame = 0;
  may_store = may_store;
  one_loads = takes-load;
  other_loads = load_too common (at 16 7) (at 32 9) one_and_other takes-load;
  one_stores = takes-store;
  other_stores = store_too common (at 16 7) (at 32 9) one_and_other takes-load takes-store;
}
