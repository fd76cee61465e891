-- A sum is exact. Assumes nothing.
use Rattle.std.proofs.Common.{true, false, arith}
use Rattle.std.proofs.lemmas.Int.{ints}
use Rattle.std.proofs.lemmas.Bool.Decides.{nat_tests}
use Rattle.word.specs.Exact.{SumExact}

pub sum_exact : SumExact
sum_exact a b true ha hb = (λ h. grind (arith, ints, nat_tests), grind (arith, nat_tests))
sum_exact a b false ha hb = (λ h. grind (arith, ints, nat_tests), grind (arith, nat_tests))
