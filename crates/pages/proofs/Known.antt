-- The translation worked out by hand is what the definitions give.
use Rattle.std.proofs.lemmas.Bool.{cond-true}
use Rattle.pages.specs.Matching.{found}
use Rattle.pages.specs.Translating.{translate}
use Rattle.pages.specs.Known.{KnownTranslation}

pub known_translation : KnownTranslation
unfolding translate found
known_translation word2 pid others right h = cond-true _ _ _ h
