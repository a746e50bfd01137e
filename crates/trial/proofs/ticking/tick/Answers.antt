-- A tick, whose lent buffer has room. Assumes nothing.
use mathlib.Core.Path.{ap, ◌∙◌}
use Rattle.machine.proofs.LentLaws.{any_lent}
use Rattle.machine.specs.Calls.{state}
use Rattle.controller.specs.Held.{held_tick}
use Rattle.trial.specs.Trial.{first_of}
use Rattle.trial.proofs.ticking.tick.Goals as goal

pub returns : goal.returns
returns c =
    λ s h e.
    let lent = any_lent (state s h) c.args.word c.args.buf.now c.requires.in_bounds in
    let p = c.tick-a.ensures.0 s h e ∙ ap held_tick lent in
    λ i. record {
      controller = (p i).controller;
      end = (c.first.ensures ∙ (λ j. first_of c.args.was.end (p j).ended c.args.n)) i;
    }
