use Rattle.std.proofs.Common.{◌≡◌, Err, sym, ap, ◌∙◌}
use Rattle.std.proofs.lemmas.Result.{err_from_is_err_and}
use Rattle.image.specs.declared.refusal.Reason.TheVariants.{Denied}
use Rattle.image.specs.Readers.{place}
use Rattle.image.specs.Reasons.{refusal_at}
use Rattle.image.specs.Reading.{one, end, step}
use Rattle.image.specs.Values.{item}
use Rattle.loader.proofs.Screening.{accepted, rejected, ended, faulted}
use Rattle.loader.proofs.screen.Goals as goal

pub returns-then-not-accepts : goal.returns-then-not-accepts
returns-then-not-accepts g c =
    let p = place c.loop-part.reader in
    let q = place c.next.new.self in
    let e : one (item c.in-Some.part) q ≡ step p = simp c.in-Some.is at c.in_ok-part.ensures.steps in
    ap Err (c.at.ensures ∙ ap (refusal_at Denied) c.offset-offset.ensures)
    ∙ rejected (g.B.Bus.model c.args.bus.now) p _ c.loop-part.invariant (item c.in-Some.part) q e (sym c.if-not-accepts.ensures)

pub loop-part-preserved : goal.loop-part-preserved
loop-part-preserved g c =
    let p = place c.loop-part.reader in
    let q = place c.next.new.self in
    let e : one (item c.in-Some.part) q ≡ step p = simp c.in-Some.is at c.in_ok-part.ensures.steps in
    accepted (g.B.Bus.model c.args.bus.now) p _ c.loop-part.invariant (item c.in-Some.part) q e (sym c.if-not-accepts.ensures)

pub returns-in_default : goal.returns-in_default
returns-in_default g c =
    let p = place c.loop-part.reader in
    let q = place c.next.new.self in
    let e : end q ≡ step p = simp c.in_default.is at c.in_ok-part.ensures.steps in
    ended (g.B.Bus.model c.args.bus.now) p _ c.loop-part.invariant q e

pub returns-in_err-part : goal.returns-in_err-part
returns-in_err-part g c =
    let exit = err_from_is_err_and c.from_residual-in_err-part.result c.from_residual-in_err-part.ensures.1 in
    rw (exit.1, exit.2)
    (faulted (g.B.Bus.model c.args.bus.now) (place c.loop-part.reader) _ c.loop-part.invariant c.in_err-part.field-0.0 (place c.next.new.self)
    c.in_err-part.ensures.steps)
