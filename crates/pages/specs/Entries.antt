-- Page entries: the bits that they keep, and the rewriting of a word.
use Rattle.std.specs.Prelude.{◌≡◌, ℕ, List, bit_and}
use Rattle.std.specs.List.{All}
use Rattle.pages.specs.declared.entry.Entry.{Entry}
use Rattle.pages.specs.declared.entry.Word.{Word}
use Rattle.pages.specs.declared.entry.Word.TheVariants.{PageId, Xlat, Attrib}

-- the entry of which every bit is zero
abbrev pub blank : Entry
blank = record { tid = 0; word0 = 0; word1 = 0; word2 = 0 }

-- what an entry keeps of its TID, and of each word
abbrev pub tid_bits : ℕ → ℕ
tid_bits t = bit_and t 0xFF

abbrev pub word0_bits : ℕ → ℕ
word0_bits w = bit_and w 0xFFFF_FFF0

abbrev pub word1_bits : ℕ → ℕ
word1_bits w = bit_and w 0xFFFF_FC0F

abbrev pub word2_bits : ℕ → ℕ
word2_bits w = bit_and w 0xFFBF

-- an entry without the bits that no entry keeps
abbrev pub kept_of : Entry → Entry
kept_of e = record { tid = tid_bits e.tid; word0 = word0_bits e.word0; word1 = word1_bits e.word1; word2 = word2_bits e.word2 }

-- an entry has no other bits than those that entries keep
abbrev pub Kept : Entry → Type 0
Kept e = kept_of e ≡ e

abbrev pub AllKept : List Entry → Type 0
AllKept es = All Kept es

-- one of the three words
abbrev pub word_of : Entry → Word → ℕ
word_of e PageId = e.word0
word_of e Xlat = e.word1
word_of e Attrib = e.word2

-- an entry with one of its words rewritten, and with the first one its TID too
abbrev pub rewritten : Entry → Word → (value newTid : ℕ) → Entry
rewritten e PageId value newTid = record { tid = tid_bits newTid; word0 = word0_bits value; word1 = e.word1; word2 = e.word2 }
rewritten e Xlat value newTid = record { tid = e.tid; word0 = e.word0; word1 = word1_bits value; word2 = e.word2 }
rewritten e Attrib value newTid = record { tid = e.tid; word0 = e.word0; word1 = e.word1; word2 = word2_bits value }
