-- A character kept. Assumes nothing.
use Rattle.session.specs.declared.state.Place.TheVariants.{Asking}
use Rattle.session.proofs.state.Session.keep.Goals as goal

pub returns : goal.returns
returns c =
    let m = c.args.self.controller in
    λ l e. λ i. record {
      session = record { controller = m; kept = c.push.ensures.keeping l e i; place = Asking };
      length = 0;
      number = 0;
    }
