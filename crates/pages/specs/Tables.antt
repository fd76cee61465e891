-- The table of the entries: one entry read, replaced or rewritten.
use Rattle.std.specs.Prelude.{ℕ, ◌%◌, cond, List, nat_lt, slice_index_or, slice_set}
use Rattle.pages.specs.Entries.{blank, kept_of, rewritten}
use Rattle.pages.specs.declared.entry.Entry.{Entry}
use Rattle.pages.specs.declared.entry.Word.{Word}

-- the entries with that of the number replaced, if there is one
unfoldable pub with_entry : List Entry → (number : ℕ) → Entry → List Entry
with_entry es number e = cond (nat_lt number 64) (slice_set es number (kept_of e)) es

-- the entry that the low six bits of a word name
abbrev pub selected : List Entry → (selector : ℕ) → Entry
selected es selector = slice_index_or es (selector % 64) blank

-- the entries after tlbwe: that entry rewritten, and no other
unfoldable pub written : List Entry → (selector : ℕ) → Word → (value newTid : ℕ) → List Entry
written es selector word value newTid = slice_set es (selector % 64) (rewritten (selected es selector) word value newTid)
