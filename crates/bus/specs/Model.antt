-- What a bus is known by, and what a question, a read and a write make of it.
use Rattle.std.specs.Prelude.{◌≡◌, ℕ, zero, suc, ◌+◌, ◌-◌, ◌*◌, ◌/◌, ◌%◌, ◌^◌, Bool, cond, ◌&&◌, ◌||◌, ◌⊎◌, Some, None, Ok, Err, Option, Result, ◌==◌, nat_le, nat_lt}
use Rattle.bus.specs.declared.Direction.{Direction}
use Rattle.bus.specs.declared.Direction.TheVariants.{Read, Write}

-- the bytes of one frame, by their offset
abbrev pub Bytes : Type 0
Bytes = ℕ → ℕ

-- What a bus never changes.
pub record Wiring : Type 0 where
  -- by a frame's number: whether the frame is absent
  pub absent : ℕ → Bool
  -- by direction, address and width: the code of the denial, or None where the access is served
  pub denial : Direction → ℕ → ℕ → Option ℕ
  -- by a frame's number: its new bytes, from the old bytes, the offset, the width and the value
  pub rule : ℕ → Bytes → ℕ → ℕ → ℕ → Bytes

-- What a bus is known by.
pub record Model : Type 0 where
  -- by a frame's number
  pub bytes : ℕ → Bytes
  pub wiring : Wiring

-- an address as the number of its frame and the offset in it
abbrev pub frame_of : ℕ → ℕ
frame_of a = a / 1024

abbrev pub offset_of : ℕ → ℕ
offset_of a = a % 1024

-- how many bytes a well-formed access has
abbrev pub IsWidth : ℕ → Type 0
IsWidth w = (w ≡ 1) ⊎ ((w ≡ 2) ⊎ (w ≡ 4))

-- a width of 1, 2 or 4, and an address that is a multiple of it below 2^36
abbrev pub well_formed : ℕ → ℕ → Bool
well_formed a w = (w == 1 || (w == 2 || w == 4)) && (a % w == 0 && nat_lt a (2 ^ 36))

-- the big-endian number in the `w` bytes from `o` on
abbrev pub big_endian : Bytes → ℕ → ℕ → ℕ
big_endian b o zero = 0
big_endian b o (suc w) = big_endian b o w * 256 + b (o + w)

-- the byte at `j` of the `w` bytes that hold `v` big-endian
abbrev pub digit : ℕ → ℕ → ℕ → ℕ
digit w v j = v / 256 ^ (w - 1 - j) % 256

-- the write rule of plain memory: the value put at `o` big-endian, the other bytes as they were
abbrev pub put_at : Bytes → ℕ → ℕ → ℕ → Bytes
put_at b o w v k = cond (nat_le o k && nat_lt k (o + w)) (digit w v (k - o)) (b k)

-- the answer to a denied access, or else this one
abbrev pub answered : {A : Type 0} → Option ℕ → A → Result A ℕ
answered None x = Ok x
answered (Some c) x = Err c

-- the first of the two where the access is served, the second where it is denied
abbrev pub if_served : {A : Type 0} → Option ℕ → A → A → A
if_served None x y = x
if_served (Some c) x y = y

-- the value that a served read answers
abbrev pub value_at : Model → ℕ → ℕ → ℕ
value_at m a w = big_endian (m.bytes (frame_of a)) (offset_of a) w

-- what a read answers
abbrev pub read_of : Model → ℕ → ℕ → Result ℕ ℕ
read_of m a w = answered (m.wiring.denial Read a w) (value_at m a w)

-- what a write answers
abbrev pub write_of : Model → ℕ → ℕ → Result Unit ℕ
write_of m a w = answered (m.wiring.denial Write a w) tt

-- the bus after a served write: one frame changed by its rule
abbrev pub written : Model → ℕ → ℕ → ℕ → Model
written m a w v = record {
  bytes = λ f k. cond (f == frame_of a) (m.wiring.rule f (m.bytes f) (offset_of a) w v k) (m.bytes f k);
  wiring = m.wiring;
}

-- the bus after a write, served or denied
abbrev pub after : Model → ℕ → ℕ → ℕ → Model
after m a w v = if_served (m.wiring.denial Write a w) (written m a w v) m
