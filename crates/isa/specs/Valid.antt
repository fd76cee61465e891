-- Forms that are illegal though each of their fields is in range. Assumes nothing.
use Rattle.std.specs.Prelude.{ℕ, ◌/◌, ◌%◌, Bool, not, ◌&&◌, ◌||◌, ◌==◌}
use Rattle.isa.specs.declared.instruction.BranchTarget.{BranchTarget}
use Rattle.isa.specs.declared.instruction.BranchTarget.TheVariants.{Link, Count}

-- a load that updates its base has one, and does not load it
abbrev pub load_valid : Bool → ℕ → ℕ → Bool
load_valid update rt ra = not update || (not (ra == 0) && not (ra == rt))

-- a store that updates its base has one
abbrev pub store_valid : Bool → ℕ → Bool
store_valid update ra = not update || not (ra == 0)

-- the bits of BO, from the left
abbrev pub ignores_condition : ℕ → Bool
ignores_condition bo = bo / 16 % 2 == 1

abbrev pub wants_condition : ℕ → Bool
wants_condition bo = bo / 8 % 2 == 1

abbrev pub keeps_count : ℕ → Bool
keeps_count bo = bo / 4 % 2 == 1

abbrev pub wants_zero : ℕ → Bool
wants_zero bo = bo / 2 % 2 == 1

abbrev pub hints : ℕ → Bool
hints bo = bo % 2 == 1

-- no bit of BO without a meaning is set: what a condition should be where it is ignored, what the count should be
-- where it is kept, and the hint where both are so
abbrev pub options_valid : ℕ → Bool
options_valid bo =
    not (ignores_condition bo && wants_condition bo)
    && (not (keeps_count bo && wants_zero bo) && not (ignores_condition bo && (keeps_count bo && hints bo)))

-- and a branch to the count register does not decrement it
abbrev pub branch_valid : BranchTarget → ℕ → Bool
branch_valid Link bo = options_valid bo
branch_valid Count bo = options_valid bo && keeps_count bo
