-- Buses that are the same as far as a reach sees them give one plan, and what a plan may be in user state.
use Rattle.std.proofs.Common.{◌≡◌, ℕ, Bool, true, false, cond, eqb, Some, None, Ok, Err, Option, Result, refl, ap, ◌∙◌, ap₂, arith}
use Rattle.bus.specs.Model.{Model, Bytes, big_endian, answered, read_of, write_of, written, offset_of, frame_of}
use Rattle.bus.specs.declared.Direction.TheVariants.{Read, Write}
use Rattle.isa.specs.declared.instruction.Instruction.{Instruction}
use Rattle.isa.specs.Decoded.{decoded}
use Rattle.interrupt.specs.declared.Cause.{Cause}
use Rattle.interrupt.specs.declared.Cause.TheVariants.{ExternalInput, Alignment, Program}
use Rattle.interrupt.specs.declared.ProgramFault.TheVariants.{Privileged}
use Rattle.interrupt.specs.declared.DataAccess.{DataAccess}
use Rattle.cpu.specs.declared.registers.Working.{Working}
use Rattle.cpu.specs.declared.deed.Privileged.{Privileged as PrivilegedDeed}
use Rattle.cpu.specs.Effects.{Seen, Effect, finish, load, store, probe, trap, call, illegal, privileged, effect}
use Rattle.pages.specs.declared.translation.Access.{Access}
use Rattle.pages.specs.declared.translation.Access.TheVariants.{Fetch, Load, Store}
use Rattle.pages.specs.declared.translation.PageFault.{PageFault}
use Rattle.pages.specs.declared.translation.PageFault.TheVariants.{Miss, Denied}
use Rattle.core465.specs.Reaching.{Reach, external}
use Rattle.step.specs.declared.answer.Stored.{Stored}
use Rattle.step.specs.declared.answer.BusFault.{BusFault}
use Rattle.step.specs.declared.answer.Layer.{Layer}
use Rattle.step.specs.Plans.{Plan, works, writes, faults, does, leaves, aligned, fetching, located, goes, loading_at, storing_at, at_real, read_by, write_by, carries, executes, planned}
use Rattle.isolation.specs.Views.{Leads, Readable, Reached, Storable, SameBus}

-- a fetch, a load or a store that goes to a real address was given it by the reach
fetch_real : (t : Result ℕ PageFault) (a : ℕ) → fetching t ≡ Ok a → t ≡ Ok a
fetch_real (Ok b) a e = let z : b ≡ a = cc in ap Ok z
fetch_real (Err Miss) a e = grind arith
fetch_real (Err Denied) a e = grind arith

aligned-real : (b : Bool) (c : Cause) (p a : ℕ) → ◌≡◌ {A = Result ℕ Cause} (cond b (Ok p) (Err c)) (Ok a) → ◌≡◌ {A = Result ℕ PageFault} (Ok p) (Ok a)
aligned-real true c p a e = let z : p ≡ a = cc in ap Ok z
aligned-real false c p a e = grind arith

data_real : (x : DataAccess) (n : ℕ) (t : Result ℕ PageFault) (a : ℕ) → located x n t ≡ Ok a → t ≡ Ok a
data_real x n (Ok b) a e = aligned-real (aligned x.effective n) (Alignment x) b a e
data_real x n (Err Miss) a e = grind arith
data_real x n (Err Denied) a e = grind arith

module _ (r : Reach) where
  leads : (kinds : Access → Bool) (k : Access) → kinds k ≡ true → (ea a : ℕ) → r k ea ≡ Ok a → Leads kinds r (frame_of a)
  leads kinds k is ea a e = record { access = k; of_kind = is; effective = ea; real = a; goes = e; lands = refl }

  pub readable_reached : (f : ℕ) → Readable r f → Reached r f
  readable_reached f h = record { access = h.access; of_kind = refl; effective = h.effective; real = h.real; goes = h.goes; lands = h.lands }

  fetch_readable : (ea a : ℕ) → fetching (r Fetch ea) ≡ Ok a → Readable r (frame_of a)
  fetch_readable ea a e = leads _ Fetch refl ea a (fetch_real (r Fetch ea) a e)

  load_readable : (ea n a : ℕ) → goes r (loading_at ea) n ≡ Ok a → Readable r (frame_of a)
  load_readable ea n a e = leads _ Load refl ea a (data_real (loading_at ea) n (r Load ea) a e)

  store_storable : (ea n a : ℕ) → goes r (storing_at ea) n ≡ Ok a → Storable r (frame_of a)
  store_storable ea n a e = leads _ Store refl ea a (data_real (storing_at ea) n (r Store ea) a e)

  storable_reached : (f : ℕ) → Storable r f → Reached r f
  storable_reached f h = record { access = h.access; of_kind = refl; effective = h.effective; real = h.real; goes = h.goes; lands = h.lands }

  -- a write leaves buses the same
  pub written_same : {m n : Model} → SameBus r m n → (a k x : ℕ) → SameBus r (written m a k x) (written n a k x)
  written_same {m} {n} same a k x = record { bytes = λ f h. by f h (eqb f (frame_of a)); wires = same.wires }
    where
      by : (f : ℕ) → Readable r f → (b : Bool) → ◌≡◌ {A = Bytes}
          (λ j. cond b (m.wiring.rule f (m.bytes f) (offset_of a) k x j) (m.bytes f j))
          (λ j. cond b (n.wiring.rule f (n.bytes f) (offset_of a) k x j) (n.bytes f j))
      by f h true = λ i j. same.wires.rules f (readable_reached f h) i (same.bytes f h i) (offset_of a) k x j
      by f h false = λ i j. same.bytes f h i j

  at_same : (k k' : ℕ → Plan) (o : Result ℕ Cause) → ((a : ℕ) → o ≡ Ok a → k a ≡ k' a) → at_real k o ≡ at_real k' o
  at_same k k' (Ok a) h = h a refl
  at_same k k' (Err c) h = refl

  module _ (m n : Model) (same : SameBus r m n) where
    read_same : (a k : ℕ) → Readable r (frame_of a) → read_of m a k ≡ read_of n a k
    read_same a k h =
        ap₂ (λ (o : Option ℕ) (x : ℕ). answered o x) (same.wires.denials Read a k (readable_reached (frame_of a) h))
        (ap (λ (b : Bytes). big_endian b (offset_of a) k) (same.bytes (frame_of a) h))

    write_same : (a k : ℕ) → Reached r (frame_of a) → write_of m a k ≡ write_of n a k
    write_same a k h = ap (λ (o : Option ℕ). answered o tt) (same.wires.denials Write a k h)

    module _ (v : Seen) where
      carry_same : (f : Effect) → carries v r m f ≡ carries v r n f
      carry_same (finish w) = refl
      carry_same (load ea k f) =
          at_same _ _ (goes r (loading_at ea) k) (λ a e. ap (read_by _ a k (λ x. works (f x))) (read_same a k (load_readable ea k a e)))
      carry_same (store ea k x w) =
          at_same _ _ (goes r (storing_at ea) k)
          (λ a e. ap (write_by (record { address = a; width = k; value = x }) w) (write_same a k (storable_reached (frame_of a) (store_storable ea k a e))))
      carry_same (probe ea k w) = refl
      carry_same trap = refl
      carry_same call = refl
      carry_same illegal = refl
      carry_same (privileged d) = refl

      execute_same : (i : Option Instruction) → executes v r m i ≡ executes v r n i
      execute_same None = refl
      execute_same (Some i) = carry_same (effect i v)

      fetched-same : (l : Layer) (a : ℕ) (o : Result ℕ ℕ) → read_by l a 4 (λ x. executes v r m (decoded x)) o ≡ read_by l a 4 (λ x. executes v r n (decoded x)) o
      fetched-same l a (Ok x) = execute_same (decoded x)
      fetched-same l a (Err c) = refl

      pub plan_same : planned v r m ≡ planned v r n
      unfolding planned
      plan_same = ap (λ (p : Plan). cond (external v) (leaves ExternalInput) p)
          (at_same _ _ (fetching (r Fetch v.working.pc))
          (λ a e. ap (read_by _ a 4 (λ x. executes v r m (decoded x))) (read_same a 4 (fetch_readable v.working.pc a e)) ∙ fetched-same _ a (read_of n a 4)))

-- what a plan may be in user state
pub data Fits (r : Reach) : Plan → Type 0 where
  work : {w : Working} → Fits r (works w)
  write : {x : Stored} {w : Working} → Storable r (frame_of x.address) → Fits r (writes x w)
  fault : {f : BusFault} → Fits r (faults f)
  leave : {c : Cause} → Fits r (leaves c)

module _ (v : Seen) (r : Reach) (user : v.shown.msr.pr ≡ true) where
  both : (b : Bool) (x y : Plan) → Fits r x → Fits r y → Fits r (cond b x y)
  both true x y p q = p
  both false x y p q = q

  at-fits : (k : ℕ → Plan) (o : Result ℕ Cause) → ((a : ℕ) → o ≡ Ok a → Fits r (k a)) → Fits r (at_real k o)
  at-fits k (Ok a) h = h a refl
  at-fits k (Err c) h = leave

  read_fits : (l : Layer) (a n : ℕ) (k : ℕ → Plan) (o : Result ℕ ℕ) → ((x : ℕ) → Fits r (k x)) → Fits r (read_by l a n k o)
  read_fits l a n k (Ok x) h = h x
  read_fits l a n k (Err c) h = fault

  write_fits : (x : Stored) (w : Working) (o : Result Unit ℕ) → Storable r (frame_of x.address) → Fits r (write_by x w o)
  write_fits x w (Ok u) h = write h
  write_fits x w (Err c) h = fault

  permit_fits : (d : PrivilegedDeed) (b : Bool) → b ≡ true → Fits r (cond b (leaves (Program Privileged)) (does d))
  permit_fits d true e = leave
  permit_fits d false e = grind arith

  module _ (m : Model) where
    carry_fits : (f : Effect) → Fits r (carries v r m f)
    carry_fits (finish w) = work
    carry_fits (load ea k f) = at-fits _ (goes r (loading_at ea) k) (λ a e. read_fits _ a k _ (read_of m a k) (λ x. work))
    carry_fits (store ea k x w) = at-fits _ (goes r (storing_at ea) k) (λ a e. write_fits _ w (write_of m a k) (store_storable r ea k a e))
    carry_fits (probe ea k w) = at-fits _ (goes r (storing_at ea) k) (λ a e. work)
    carry_fits trap = leave
    carry_fits call = leave
    carry_fits illegal = leave
    carry_fits (privileged d) = permit_fits d v.shown.msr.pr user

    execute_fits : (i : Option Instruction) → Fits r (executes v r m i)
    execute_fits None = leave
    execute_fits (Some i) = carry_fits (effect i v)

    pub plan_fits : Fits r (planned v r m)
    unfolding planned
    plan_fits = both (external v) _ _ leave
        (at-fits _ (fetching (r Fetch v.working.pc)) (λ a e. read_fits _ a 4 _ (read_of m a 4) (λ x. execute_fits (decoded x))))
