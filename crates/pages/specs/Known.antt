-- A translation worked out by hand.
use Rattle.std.specs.Prelude.{◌≡◌, ℕ, true, false, List, ◌∷◌, Ok}
use Rattle.pages.specs.Translating.{grants, translate}
use Rattle.pages.specs.declared.entry.Entry.{Entry}
use Rattle.pages.specs.declared.translation.Right.{Right}

-- a page of 1 MiB of all processes, in space 0, from 0x00100000 on, at the real address 0x100300000
abbrev pub megabyte_page : (word2 : ℕ) → Entry
megabyte_page word2 = record { tid = 0; word0 = 0x0010_0250; word1 = 0x0030_0001; word2 = word2 }

-- such an entry takes 0x001ABCDE to 0x1003ABCDE for every access that it grants, in every process, whatever entries follow
abbrev pub KnownTranslation : Type 0
KnownTranslation =
    (word2 pid : ℕ) (others : List Entry) (right : Right) → grants (megabyte_page word2) right ≡ true
    → translate (megabyte_page word2 ∷ others) (record { space = false; pid = pid; effective = 0x001A_BCDE }) right ≡ Ok 0x1_003A_BCDE
