-- The controller that has the host's first line, and no input yet; and the law of whole lines. Assumes nothing.
use Rattle.session.proofs.LineLaws.{lines}
use Rattle.session.proofs.SessionLaws.{fresh_told}
use Rattle.session.proofs.state.Session.new.Goals as goal

pub returns : goal.returns
returns c =
    let t = fresh_told _ _ c.opened.ensures c.new.ensures in
    record {
      value = t.0;
      running = t.1;
      lines = lines;
    }
