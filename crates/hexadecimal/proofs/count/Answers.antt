use Rattle.std.proofs.Common.{◌≡◌, ℕ, ◌<◌, true, false, not, List, length, get_or, Some, None, Ok, sym, ap, ◌∙◌, below_more, arith}
use Rattle.std.proofs.lemmas.Bool.Decides.{nat_tests}
use Rattle.std.proofs.lemmas.Grind.{common_steps}
use Rattle.std.proofs.lemmas.List.{take_all}
use Rattle.std.proofs.lemmas.List.Elements.{filter_map-append}
use Rattle.std.proofs.lemmas.List.Sums.{position_or_len_is}
use Rattle.hexadecimal.specs.Text.{symbol_of, is_known, unknown, digits}
use Rattle.hexadecimal.proofs.count.Goals as goal
use Rattle.hexadecimal.proofs.count.Goals.{in-Digit, in-Space}

-- where the first unknown character stands
found : (text : List ℕ) (i : ℕ) → i < length text → ((k : ℕ) → k < i → is_known (symbol_of (get_or text k 0)) ≡ true) → is_known (symbol_of (get_or text i 0)) ≡ false → unknown text ≡ Some i
found text i h known stop =
    let at = position_or_len_is (λ c. not (is_known (symbol_of c))) text i 0 (omega arith) (λ k l. ap not (known k l)) (λ _. ap not stop) in
    grind (arith, nat_tests)

none : (text : List ℕ) (i : ℕ) → i ≡ length text → ((k : ℕ) → k < i → is_known (symbol_of (get_or text k 0)) ≡ true) → unknown text ≡ None
none text i h known =
    let at = position_or_len_is (λ c. not (is_known (symbol_of c))) text i 0 (omega arith) (λ k l. ap not (known k l)) (λ l. absurd (omega arith)) in
    grind (arith, nat_tests)

pub returns-in-Other : goal.returns-in-Other
returns-in-Other c =
    let e = found c.args.text.now c.loop-offset.offset c.loop-offset-test.true c.loop-offset.invariant.known (ap is_known (sym c.in-Other.ensures.value)) in
    rw e

pub loop-offset-preserved : goal.loop-offset-preserved
loop-offset-preserved c =
    elim c.match-classify.branch [
      | in-Digit w ↦ record {
        few = omega arith;
        known = below_more _ _ c.loop-offset.invariant.known (ap is_known (sym w.in-Digit.ensures.value));
        counted = grind (arith, common_steps, filter_map-append);
      }
      | in-Space w ↦ record {
        few = omega arith;
        known = below_more _ _ c.loop-offset.invariant.known (ap is_known (sym w.in-Space.ensures.value));
        counted = grind (arith, common_steps, filter_map-append);
      }
    ]

pub returns : goal.returns
returns c =
    let e = none c.args.text.now c.loop-offset.offset (omega arith) c.loop-offset.invariant.known in
    rw e (ap Ok (c.loop-offset.invariant.counted ∙ ap (λ cs. length (digits cs)) (take_all _ _ c.loop-offset-test.false)))
