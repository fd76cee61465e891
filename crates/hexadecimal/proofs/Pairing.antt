-- A digit that waits for its second half. Assumes nothing.
use Rattle.std.proofs.Common.{◌≡◌, ℕ, ◌<◌, List, [], ◌∷◌, ◌++◌, Some, None, Option}
use Rattle.std.proofs.lemmas.List.{append-nil}
use Rattle.hexadecimal.specs.Text.{pairs}

-- a digit that waits for its second half, before the others
abbrev pub held : Option ℕ → List ℕ → List ℕ
held None ds = ds
held (Some d) ds = d ∷ ds

abbrev pub Under : Option ℕ → Type 0
Under None = Unit {0}
Under (Some d) = d < 16

-- at the end it is dropped
pub pairs_end : (bs : List ℕ) (first : Option ℕ) → bs ++ pairs (held first []) ≡ bs
pairs_end bs None = append-nil bs
pairs_end bs (Some d) = append-nil bs
