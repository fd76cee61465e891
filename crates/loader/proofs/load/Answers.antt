use Rattle.std.proofs.lemmas.Result.{err_from_is_err_and}
use Rattle.image.specs.Readers.{remaining}
use Rattle.step.specs.Steps.{state_of}
use Rattle.loader.specs.Loading.{screened, loaded}
use Rattle.loader.proofs.Applying.{refuses, sound_ok, loads}
use Rattle.loader.proofs.Law.{loading_law}
use Rattle.loader.proofs.load.Goals as goal

pub returns-in_err-screen : goal.returns-in_err-screen
unfolding loaded
returns-in_err-screen g c =
    let exit = err_from_is_err_and c.from_residual.result c.from_residual.ensures.1 in
    let m = g.B.Bus.model c.args.bus.now in
    record {
      does = rw (exit.1, exit.2) (refuses (screened m c.args.image.now) c.in_err-screen.field-0.0 (state_of c.args.core.now m) c.in_err-screen.ensures);
      keeps = c.counter.ensures.keeps;
      lawful = loading_law;
    }

pub apply_all-requires : goal.apply_all-requires
apply_all-requires g c =
    sound_ok c.args.image.now (state_of c.args.core.now (g.B.Bus.model c.args.bus.now)) (remaining c.in_ok-open.field-0) c.in_ok-open.ensures.whole
    c.in_ok-screen.ensures

pub returns : goal.returns
returns g c =
    record {
      does = loads c.args.image.now (state_of c.args.core.now (g.B.Bus.model c.args.bus.now)) (remaining c.in_ok-open.field-0) c.in_ok-open.ensures.whole
          c.in_ok-screen.ensures _ c.apply_all.ensures.does;
      keeps = c.apply_all.ensures.keeps c.counter.ensures.keeps;
      lawful = loading_law;
    }
