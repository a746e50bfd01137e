-- A session with nothing kept. Assumes nothing.
use Rattle.session.proofs.answer.stand.Goals as goal

pub returns : goal.returns
returns c =
    λ i. record {
      session = record { controller = c.args.sent.controller; kept = c.new.ensures i; place = c.args.place };
      length = c.args.sent.length;
      number = c.args.sent.number;
    }
