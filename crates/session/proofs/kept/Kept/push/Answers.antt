-- One character more, on every list so kept. Assumes nothing.
use Rattle.laws.proofs.Pick.{picks}
use Rattle.session.proofs.KeptLaws.{push_told}
use Rattle.session.proofs.kept.Kept.push.Goals as goal

pub returns-then-self-lt-ROOM-clause-keeping : goal.returns-then-self-lt-ROOM-clause-keeping
returns-then-self-lt-ROOM-clause-keeping c = push_told c.args.self c.args.b (search picks)
