-- The measure is the groups that may follow. Assumes nothing.
use Rattle.journal.proofs.numbers.+read.Given as goal

abbrev pub decreases-read : goal.decreases-read
decreases-read l = l.more
