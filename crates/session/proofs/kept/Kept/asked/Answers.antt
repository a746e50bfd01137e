-- What the line asks, on every list so kept. Assumes nothing.
use Rattle.laws.proofs.Pick.{picks}
use Rattle.session.proofs.KeptLaws.{asked_told}
use Rattle.session.proofs.kept.Kept.asked.Goals as goal

pub returns-then-self-gt16-clause-keeping : goal.returns-then-self-gt16-clause-keeping
returns-then-self-gt16-clause-keeping c = asked_told c.args.self (search picks)
