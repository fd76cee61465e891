-- A life, one command on, and its end.
use Rattle.std.proofs.Common.{◌≡◌, ℕ, ◌+◌, ◌<◌, List, [], ◌∷◌, ◌++◌, length, get_or, drop, sym, refl, ap, ◌∙◌, subst, ap₂, append_assoc}
use Rattle.std.proofs.lemmas.List.{at_drop_more}
use Rattle.bus.specs.Model.{Model}
use Rattle.life.specs.Lives.{Standing, running, stopped, retired, called, stop, retire, From, then, bus_of}
use Rattle.living.specs.declared.command.Command.{Command}
use Rattle.living.specs.declared.command.Command.TheVariants.{ToStopped, ToRunning, Show}
use Rattle.living.specs.declared.command.Response.{Response}
use Rattle.living.specs.declared.held.Held.{Held}
use Rattle.living.specs.declared.held.Held.TheVariants.{Up, Down, Gone}
use Rattle.living.specs.Commands.{stopped_call, running_call, Obeyed, responded, obeyed, responses, lived}
use Rattle.living.specs.Standings.{standing_of}

module _ (cs : List Command) (i : ℕ) (d : Command) (h : i < length cs) (z y : Standing) (r : Response) (e : responded r y ≡ obeyed z (get_or cs i d)) where
  goes : y ≡ (obeyed z (get_or cs i d)).after
  goes = ap (λ (x : Obeyed). x.after) e

  pub lived-more : lived (drop (i + 1) cs) y ≡ lived (drop i cs) z
  unfolding lived
  lived-more = ap (lived (drop (i + 1) cs)) goes ∙ sym (at_drop_more (λ xs. lived xs z) cs i d h)

  pub responses-more : (vs ws : List Response) → ws ≡ vs ++ r ∷ [] → ws ++ responses (drop (i + 1) cs) y ≡ vs ++ responses (drop i cs) z
  unfolding responses
  responses-more vs ws b =
      ap₂ (λ (x : List Response) (y : Standing). x ++ responses (drop (i + 1) cs) y) b goes
      ∙ append_assoc vs (r ∷ []) (responses (drop (i + 1) cs) (obeyed z (get_or cs i d)).after)
      ∙ ap (λ (x : Obeyed). vs ++ x.response ∷ responses (drop (i + 1) cs) (obeyed z (get_or cs i d)).after) e
      ∙ ap (λ (xs : List Response). vs ++ xs) (sym (at_drop_more (λ xs. responses xs z) cs i d h))

-- a command is a call, or nothing
obeys : {x : Standing} (z : Standing) (c : Command) → From x z → From x (obeyed z c).after
obeys (stopped s) (ToStopped c) w = then w (stopped_call c)
obeys (stopped s) (ToRunning c) w = w
obeys (stopped s) (Show d) w = w
obeys (running s) (ToStopped c) w = w
obeys (running s) (ToRunning c) w = then w (running_call c)
obeys (running s) (Show d) w = w
obeys (retired m) (ToStopped c) w = w
obeys (retired m) (ToRunning c) w = w
obeys (retired m) (Show d) w = w

pub way-more : {x : Standing} (z y : Standing) (c : Command) (r : Response) → responded r y ≡ obeyed z c → From x z → From x y
way-more {x} z y c r e w = subst (From x) (sym (ap (λ (k : Obeyed). k.after) e)) (obeys z c w)

pub held_bus : (k : Held) (m : Model) → bus_of (standing_of k m) ≡ m
held_bus (Up r) m = refl
held_bus (Down d) m = refl
held_bus Gone m = refl

-- a core that is not retired yet is stopped and retired
pub ending : {x : Standing} (k : Held) (m : Model) → From x (standing_of k m) → From x (retired m)
unfolding called
ending (Up r) m w = then (then w stop) retire
ending (Down d) m w = then w retire
ending Gone m w = w
