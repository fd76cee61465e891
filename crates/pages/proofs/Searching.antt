-- What a search answers is known by its law: `Lowest` leaves a single answer.
use Rattle.std.proofs.Common.{◌≡◌, ℕ, zero, suc, ◌+◌, List, [], ◌∷◌, Some, None, Option, sym, refl, ap, ◌∙◌, suc-le-suc, le_of_suc-le-suc, zero-lt-suc, arith}
use Rattle.std.specs.List.{position_from}
use Rattle.std.specs.Option.{option_map}
use Rattle.std.proofs.lemmas.Bool.{cond-true, cond-false}
use Rattle.pages.specs.Matching.{matches, found, Lowest}
use Rattle.pages.specs.declared.entry.Entry.{Entry}
use Rattle.pages.specs.declared.matching.VirtualAddress.{VirtualAddress}

-- counted from i on
lowest_from : (i : ℕ) (es : List Entry) (a : VirtualAddress) (r : Option ℕ) → Lowest es a r → option_map (λ n. i + n) r ≡ position_from (λ e. matches e a) i es
lowest_from i [] a None h = refl
lowest_from i [] a (Some n) h = let l = h.0 in absurd (omega arith)
lowest_from i (e ∷ es) a None h =
    lowest_from (i + 1) es a None (λ k l. h (suc k) (suc-le-suc l)) ∙ sym (cond-false _ _ _ (h zero (zero-lt-suc _)))
lowest_from i (e ∷ es) a (Some zero) h = let n : i + 0 ≡ i = omega arith in ap Some n ∙ sym (cond-true _ _ _ h.1)
lowest_from i (e ∷ es) a (Some (suc n)) h =
    let m : i + suc n ≡ i + 1 + n = omega arith in
    ap Some m
    ∙ lowest_from (i + 1) es a (Some n) (le_of_suc-le-suc h.0, h.1, λ k l. h.2 (suc k) (suc-le-suc l))
    ∙ sym (cond-false _ _ _ (h.2 zero (zero-lt-suc _)))

pub lowest_found : (es : List Entry) (a : VirtualAddress) (r : Option ℕ) → Lowest es a r → r ≡ found es a
unfolding found
lowest_found es a None h = lowest_from 0 es a None h
lowest_found es a (Some n) h = let m : n ≡ 0 + n = omega arith in ap Some m ∙ lowest_from 0 es a (Some n) h
