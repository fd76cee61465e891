use Rattle.std.proofs.Common.{length, refl, ap, ◌∙◌, arith, rules, tests}
use Rattle.std.proofs.lemmas.Iterator.{YieldsList-from_range}
use Rattle.std.proofs.lemmas.Iterator.Search.{all_from_yields_List}
use Rattle.loader.specs.Loading.{serves}
use Rattle.loader.proofs.Serving.{free, each}
use Rattle.loader.proofs.serves.Goals as goal

pub returns : goal.returns
returns g c =
    let m = g.B.Bus.model c.args.bus.now in
    let bs = c.args.«data».bytes.now in
    all_from_yields_List (free m) _ _ c.all.result c.all.ensures.ran (YieldsList-from_range _ _ (length bs) refl (omega arith)) (λ x b q k. search (rules, tests))
    ∙ each m _ bs
    ∙ ap (λ a. serves m a bs) c.real_address-begin.ensures.value
