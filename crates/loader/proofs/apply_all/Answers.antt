use Rattle.std.proofs.Common.{◌≡◌, true, is_ok, ap, ◌∙◌}
use Rattle.image.specs.Readers.{remaining}
use Rattle.image.specs.Reading.{more}
use Rattle.image.specs.Values.{item}
use Rattle.step.specs.Steps.{State, state_of}
use Rattle.loader.specs.Loading.{loaded_by}
use Rattle.loader.proofs.Applying.{more_ok, more-loaded}
use Rattle.loader.proofs.apply_all.Goals as goal

pub loop-part-preserved : goal.loop-part-preserved
loop-part-preserved g c =
    let i = item c.in-Ok-Some.part in
    let r = remaining c.next.new.self in
    let whole : more i r ≡ remaining c.loop-part.reader = simp c.in-Ok-Some.field-0-is at c.in-Ok-Some.ensures.whole in
    let ok : is_ok (more i r) ≡ true = ap is_ok whole ∙ c.loop-part.invariant.0 in
    let s = state_of c.loop-part.core (g.B.Bus.model c.loop-part.bus) in (
      more_ok i r ok,
      ap (λ (t : State). (loaded_by r t).state) c.apply.ensures.does ∙ more-loaded i r s ok ∙ ap (λ x. (loaded_by x s).state) whole ∙ c.loop-part.invariant.1,
      λ k. c.apply.ensures.keeps (c.loop-part.invariant.2 k),
    )
