use Rattle.std.proofs.Common.{[], vec_items, sym, ap, ◌∙◌, rules, tests}
use Rattle.std.proofs.lemmas.List.{append-nil, map-id, take_all}
use Rattle.std.proofs.lemmas.Iterator.{YieldsList-from_slice, YieldsList-from_take}
use Rattle.std.proofs.lemmas.Iterator.Consumers.{YieldsList-from_filter_map, YieldsList-end, YieldsList-at}
use Rattle.hexadecimal.specs.Text.{symbol_of, digit_of, pairs}
use Rattle.hexadecimal.proofs.Pairing.{pairs_end}
use Rattle.hexadecimal.proofs.gather.Goals as goal

pub returns : goal.returns
returns c =
    let all = YieldsList-end (YieldsList-at c.into_iter-digit-iterator.ensures.into_iter_gives (YieldsList-from_take c.args.number (YieldsList-at c.take-digit-items.ensures.source (YieldsList-from_filter_map _ (λ x. digit_of (symbol_of x)) (YieldsList-from_slice c.args.text.now cc) c.filter_map.ensures.closure (λ x r q k. search (rules, tests)))) c.take-digit-items.ensures.count)) c.loop-digit.yielded _ c.loop-digit.yielded_by _ _ c.in-None.is c.next.ensures.steps in
    let told = c.loop-digit.invariant.1 [] ∙ pairs_end (vec_items c.loop-digit.bytes) c.loop-digit.first in
    sym told ∙ ap pairs (append-nil c.loop-digit.yielded ∙ sym (map-id c.loop-digit.yielded) ∙ all.0 ∙ take_all _ _ c.requires)
