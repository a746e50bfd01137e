-- The measure is the groups that may follow. Assumes nothing.
use Rattle.journal.proofs.numbers.+size.Given as goal

abbrev pub decreases-size : goal.decreases-size
decreases-size l = l.more
