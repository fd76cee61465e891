-- Which entry an address matches.
use Rattle.std.specs.Prelude.{◌≡◌, ℕ, ◌*◌, ◌/◌, ◌%◌, ◌^◌, ◌<◌, Bool, true, false, not, ◌&&◌, ◌||◌, List, length, Some, None, Option, ◌==◌, bit_and, nat_le, slice_index_or}
use Rattle.std.specs.List.{position_from}
use Rattle.pages.specs.Entries.{blank}
use Rattle.pages.specs.declared.entry.Entry.{Entry}
use Rattle.pages.specs.declared.matching.VirtualAddress.{VirtualAddress}

-- the word has the bit
abbrev pub has : (word bit : ℕ) → Bool
has word bit = not (bit_and word bit == 0)

abbrev pub alike : Bool → Bool → Bool
alike true b = b
alike false b = not b

-- the SIZE field, bits 24 to 27
abbrev pub size_of : Entry → ℕ
size_of e = e.word0 / 16 % 16

-- SIZE 0, 1, 2, 3, 4, 5, 7 and 9 are sizes of pages
abbrev pub is_page : Entry → Bool
is_page e = nat_le (size_of e) 5 || size_of e == 7 || size_of e == 9

-- a page has 4^SIZE KiB
abbrev pub page_bytes : Entry → ℕ
page_bytes e = 1024 * 4 ^ size_of e

-- the address and EPN are the same above the page size
abbrev pub agrees : Entry → ℕ → Bool
agrees e effective = effective / page_bytes e == e.word0 / page_bytes e

-- V is 1, SIZE is that of a page, TS is the address's space, TID is 0 or the address's process, and the address lies in the page
abbrev pub matches : Entry → VirtualAddress → Bool
matches e a =
    has e.word0 0x200
    && is_page e
    && alike (has e.word0 0x100) a.space
    && (e.tid == 0 || e.tid == a.pid)
    && agrees e a.effective

-- what a search answers: the number of an entry that matches while none with a lower number does, or that none matches
abbrev pub Lowest : List Entry → VirtualAddress → Option ℕ → Type 0
Lowest es a None = (k : ℕ) → k < length es → matches (slice_index_or es k blank) a ≡ false
Lowest es a (Some n) = (n < length es) × (matches (slice_index_or es n blank) a ≡ true) × ((k : ℕ) → k < n → matches (slice_index_or es k blank) a ≡ false)

-- the number of the first entry that the address matches
unfoldable pub found : List Entry → VirtualAddress → Option ℕ
found es a = position_from (λ e. matches e a) 0 es
