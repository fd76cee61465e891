-- The words of an entry by number.
use Rattle.std.specs.Prelude.{ℕ, cond, Ok, Err, Result, ◌==◌}
use Rattle.pages.specs.declared.entry.Word.{Word}
use Rattle.pages.specs.declared.entry.Word.TheVariants.{PageId, Xlat, Attrib}
use Rattle.pages.specs.declared.entry.NoSuchWord.{NoSuchWord}

-- the word that a WS field names
abbrev pub word_numbered : ℕ → Result Word NoSuchWord
word_numbered ws = cond (ws == 0) (Ok PageId) (cond (ws == 1) (Ok Xlat) (cond (ws == 2) (Ok Attrib) (Err (record {}))))
