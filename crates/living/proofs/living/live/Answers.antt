use Rattle.std.proofs.Common.{◌≡◌, ◌+◌, ◌≤◌, [], ◌++◌, length, get_or, drop, vec_items, sym, refl, ap, ◌∙◌, subst}
use Rattle.std.proofs.lemmas.List.{drop_all, append-nil}
use Rattle.step.specs.Steps.{state_of}
use Rattle.life.specs.Lives.{Standing, stopped, From, here, retired, bus_of}
use Rattle.living.specs.Commands.{responded, obeyed, responses, lived}
use Rattle.living.specs.Standings.{standing_of}
use Rattle.isolation.proofs.Lives.{isolation}
use Rattle.living.proofs.Chains.{lived-more, responses-more, way-more, held_bus, ending}
use Rattle.living.proofs.living.live.Goals as goal

pub returns-in_err-answers-clause-law : goal.returns-in_err-answers-clause-law
returns-in_err-answers-clause-law g c = isolation

pub loop-command-init : goal.loop-command-init
loop-command-init g c =
    let made = c.in_ok-answers.ensures in
    let start = stopped (state_of c.new.result.core (g.B.Bus.model c.args.bus.now)) in
    ((made.len, made.capacity), ap (λ xs. xs ++ responses c.args.commands.now start) made.items, refl, here)

pub loop-command-preserved : goal.loop-command-preserved
loop-command-preserved g c =
    let cs = c.args.commands.now in
    let i = c.loop-command.command-index in
    let d = c.command-item.result in
    let old = standing_of c.loop-command.life (g.B.Bus.model c.loop-command.bus) in
    let new = standing_of c.obey-next.result.0 (g.B.Bus.model c.obey-next.new.bus) in
    let r = c.obey-next.result.1 in
    let e : responded r new ≡ obeyed old (get_or cs i d) = c.obey-next.ensures ∙ ap (obeyed old) c.command-item.is in
    let inv = c.loop-command.invariant in
    let pushed = c.push_reserved.ensures in (
      (pushed.len ∙ ap (λ n. n + 1) inv.0.0, subst (λ n. length cs ≤ n) (sym pushed.capacity) inv.0.1),
      responses-more cs i d c.loop-command-test.true old new r e (vec_items c.loop-command.answers) (vec_items c.push_reserved.new.self) pushed.items
          ∙ inv.1,
      lived-more cs i d c.loop-command-test.true old new r e ∙ inv.2,
      way-more old new (get_or cs i d) r e inv.3,
    )

pub returns : goal.returns
unfolding responses lived
returns g c =
    let m = g.B.Bus.model c.args.bus.now in
    let last = g.B.Bus.model c.loop-command.bus in
    let none : drop c.loop-command.command-index c.args.commands.now ≡ [] = drop_all _ _ c.loop-command-test.false in
    let end = standing_of c.loop-command.life last in
    let start = c.new.ensures m in
    let inv = c.loop-command.invariant in
    record {
      law = isolation;
      answers =
          sym (append-nil (vec_items c.loop-command.answers))
          ∙ ap (λ xs. vec_items c.loop-command.answers ++ responses xs end) (sym none)
          ∙ inv.1
          ∙ ap (responses c.args.commands.now) start;
      leaves =
          sym (held_bus c.loop-command.life last)
          ∙ ap bus_of (ap (λ xs. lived xs end) (sym none) ∙ inv.2 ∙ ap (lived c.args.commands.now) start);
      whole = record {
        lawful = g.met.B.Bus.lawful c.args.bus.now;
        way = subst (λ (z : Standing). From z (retired last)) start (ending c.loop-command.life last inv.3);
      };
    }
