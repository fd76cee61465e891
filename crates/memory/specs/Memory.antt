-- Plain memory: the whole frames of a window of bytes.
use Rattle.std.specs.Prelude.{ℕ, ◌+◌, ◌-◌, ◌*◌, ◌/◌, ◌%◌, ◌^◌, Bool, cond, not, ◌&&◌, List, length, Some, None, Option, nat_le, nat_lt, slice_index}
use Rattle.std.specs.Borrow.{GName}
use Rattle.bus.specs.Model.{Model, Wiring, Bytes, put_at, well_formed, frame_of}
use Rattle.memory.specs.declared.Memory.{Memory}

-- the byte at a place of a list, as a number below 256
abbrev pub byte_of : List ℕ → Bytes
byte_of s k = slice_index s k % 256

-- whether a window of `n` bytes from the frame `first` on has the whole frame `f`
abbrev pub in_window : ℕ → ℕ → ℕ → Bool
in_window first n f = nat_le first f && (nat_lt (f - first) (n / 1024) && nat_lt f (2 ^ 26))

abbrev pub window_denial : ℕ → ℕ → ℕ → ℕ → Option ℕ
window_denial first n a w = cond (well_formed a w) (cond (in_window first n (frame_of a)) None (Some 1)) (Some 254)

-- a window's wiring: only its whole frames are there, both directions are served, and a value is put big-endian
abbrev pub window_wiring : ℕ → ℕ → Wiring
window_wiring first n = record {
  absent = λ f. not (in_window first n f);
  denial = λ _ a w. window_denial first n a w;
  rule = λ _. put_at;
}

-- the bytes of the frame `f` of the window
abbrev pub windowed : ℕ → ℕ → Bytes → ℕ → Bytes
windowed first n b f k = cond (in_window first n f && nat_lt k 1024) (b ((f - first) * 1024 + k)) 0

-- plain memory over the bytes `s` from the frame `first` on
abbrev pub memory : ℕ → List ℕ → Model
memory first s = record {
  bytes = windowed first (length s) (byte_of s);
  wiring = window_wiring first (length s);
}

-- What is lent to plain memory and no write alters.
pub record Slice : Type 0 where
  -- which slice it is, by the ghost name of the reference to it
  pub name : GName
  pub first : ℕ
  pub size : ℕ
  -- its bytes outside the frames that are served
  pub rest : Bytes

abbrev pub outside : ℕ → List ℕ → Bytes
outside first s k = cond (in_window first (length s) (first + k / 1024)) 0 (byte_of s k)

-- the model of a `Memory`
abbrev pub model_of : Memory → Model
model_of m = memory m.first m.bytes.now

-- what is lent to a `Memory`
abbrev pub slice_of : Memory → Slice
slice_of m = record {
  name = m.bytes.ghost_name;
  first = m.first;
  size = length m.bytes.now;
  rest = outside m.first m.bytes.now;
}
