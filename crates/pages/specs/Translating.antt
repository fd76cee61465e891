-- What the entries make of an address.
use Rattle.std.specs.Prelude.{ℕ, ◌+◌, ◌*◌, ◌/◌, ◌%◌, ◌^◌, ◌<◌, Bool, cond, List, Some, None, Ok, Err, Option, Result, slice_index_or}
use Rattle.pages.specs.Entries.{blank}
use Rattle.pages.specs.Matching.{has, page_bytes, found}
use Rattle.pages.specs.declared.entry.Entry.{Entry}
use Rattle.pages.specs.declared.matching.VirtualAddress.{VirtualAddress}
use Rattle.pages.specs.declared.translation.Access.{Access}
use Rattle.pages.specs.declared.translation.Access.TheVariants.{Fetch, Load, Store}
use Rattle.pages.specs.declared.translation.Right.{Right}
use Rattle.pages.specs.declared.translation.PageFault.{PageFault}
use Rattle.pages.specs.declared.translation.PageFault.TheVariants.{Miss, Denied}

-- the bit of word 2 that grants an access: UX, UR and UW in user state, SX, SR and SW in supervisor state
abbrev pub right_bit : (user : Bool) → Access → ℕ
right_bit user Fetch = cond user 0x20 0x04
right_bit user Load = cond user 0x08 0x01
right_bit user Store = cond user 0x10 0x02

abbrev pub right : Right → ℕ
right r = right_bit r.user r.access

abbrev pub grants : Entry → Right → Bool
grants e r = has e.word2 (right r)

-- ERPN, the page part of RPN, and the offset in the page
abbrev pub real_of : Entry → (effective : ℕ) → ℕ
real_of e effective = e.word1 % 16 * 2 ^ 32 + (e.word1 / page_bytes e * page_bytes e + effective % page_bytes e)

-- what an entry makes of an address that matches it
abbrev pub through : Entry → (effective : ℕ) → Right → Result ℕ PageFault
through e effective r = cond (grants e r) (Ok (real_of e effective)) (Err Denied)

-- what the entry that a search found makes of the address
abbrev pub resolved : List Entry → VirtualAddress → Right → Option ℕ → Result ℕ PageFault
resolved es a r None = Err Miss
resolved es a r (Some n) = through (slice_index_or es n blank) a.effective r

-- what the entries make of an address: the first one that matches decides
unfoldable pub translate : List Entry → VirtualAddress → Right → Result ℕ PageFault
translate es a r = resolved es a r (found es a)

-- a real address has 36 bits
abbrev pub InReal : Result ℕ PageFault → Type 0
InReal (Ok address) = address < 2 ^ 36
InReal (Err fault) = Unit {0}
