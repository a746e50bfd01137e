-- A number out of range is told before too little space. Assumes nothing.
use Rattle.journal.proofs.takes.Goals as goal

pub returns-then-not-fit : goal.returns-then-not-fit
returns-then-not-fit c = rw (← c.fit.ensures, c.if-not-fit.true)
