-- What the bytes of a record mean: the kind and the body that its length counts. Assumes nothing.
use Rattle.std.specs.Prelude.{◌≡◌, ℕ, ◌+◌, ◌*◌, ◌%◌, ◌≤◌, Bool, true, false, cond, ◌&&◌, List, [], ◌∷◌, length, drop, Ok, Err, Result, ◌==◌, bit_and, nat_le, slice_index}
use Rattle.image.specs.declared.record.PageEntry.{PageEntry}
use Rattle.image.specs.declared.refusal.Reason.{Reason}
use Rattle.image.specs.declared.refusal.Reason.TheVariants.{Form, Range}

-- a record, with what its data is and not where it lies
pub data Item : Type 0 where
  entry : PageEntry → Item
  bytes : (erpn address : ℕ) → List ℕ → Item
  start : (counter msr : ℕ) → Item

abbrev pub is_start : Item → Bool
is_start (entry e) = false
is_start (bytes n a bs) = false
is_start (start c m) = true

-- the word of the four bytes from place i on, the first the highest
abbrev pub word_at : List ℕ → ℕ → ℕ
word_at bs i = slice_index bs i * 16777216 + slice_index bs (i + 1) * 65536 + slice_index bs (i + 2) * 256 + slice_index bs (i + 3)

-- a page entry: its number, its TID and three words, of which it keeps some bits
abbrev pub entry_of : List ℕ → Result Item Reason
entry_of bs =
    cond (length bs == 14)
    (cond (nat_le (slice_index bs 0) 63)
    (Ok (entry (record {
      number = slice_index bs 0;
      tid = slice_index bs 1;
      word0 = bit_and (word_at bs 2) 0xFFFFFFF0;
      word1 = bit_and (word_at bs 6) 0xFFFFFC0F;
      word2 = bit_and (word_at bs 10) 0xFFBF;
    })))
    (Err Range))
    (Err Form)

-- data: an ERPN, a low address and 1 to 1,024 bytes that lie within one frame
abbrev pub data_of : List ℕ → Result Item Reason
data_of bs =
    cond (nat_le 6 (length bs) && nat_le (length bs) 1029)
    (cond (nat_le (slice_index bs 0) 15 && nat_le (word_at bs 1 % 1024 + length (drop 5 bs)) 1024)
    (Ok (bytes (slice_index bs 0) (word_at bs 1) (drop 5 bs)))
    (Err Range))
    (Err Form)

-- the start: a counter, which is a multiple of four, and an MSR, which has no other bits than these
abbrev pub start_of : List ℕ → Result Item Reason
start_of bs =
    cond (length bs == 8)
    (cond (word_at bs 0 % 4 == 0 && bit_and (word_at bs 4) 0x2D230 == word_at bs 4)
    (Ok (start (word_at bs 0) (word_at bs 4)))
    (Err Range))
    (Err Form)

abbrev pub record_of : List ℕ → Result Item Reason
record_of [] = Err Form
record_of (kind ∷ body) = cond (kind == 1) (entry_of body) (cond (kind == 2) (data_of body) (cond (kind == 3) (start_of body) (Err Form)))

-- no bit of a word but those of a mask
abbrev pub Only : ℕ → ℕ → Type 0
Only mask w = bit_and w mask ≡ w

-- what holds of each record that is read
abbrev pub InRange : Item → Type 0
InRange (entry e) = (e.number ≤ 63) × Only 0xFFFFFFF0 e.word0 × Only 0xFFFFFC0F e.word1 × Only 0xFFBF e.word2
InRange (bytes n a bs) = (n ≤ 15) × (1 ≤ length bs) × (a % 1024 + length bs ≤ 1024)
InRange (start c m) = (c % 4 ≡ 0) × Only 0x2D230 m
