-- All behind `silent `, or all. Assumes nothing.
use Rattle.laws.proofs.Pick.{picks, tolds}
use Rattle.phrases.proofs.unsilenced.Goals as goal

pub returns-then-is_silent : goal.returns-then-is_silent
returns-then-is_silent c = search (picks, tolds)

pub returns : goal.returns
returns c = search (picks, tolds)
