-- The controller of a running session holds the bench's machine, and calls made it. Assumes nothing.
use mathlib.Core.Path.{sym}
use Rattle.machine.specs.Calls.{state}
use Rattle.session.proofs.PlaceLaws.{at_controller}
use Rattle.session.proofs.SessionLaws.{reached}
use Rattle.session.proofs.state.Session.controller.Goals as goal

pub returns : goal.returns
returns c =
    record {
      runs = λ w h p e. sym (at_controller (state w h) p c.args.self e);
      reachable = reached c.args.self c.requires;
    }
