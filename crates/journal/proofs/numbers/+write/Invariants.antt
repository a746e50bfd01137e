-- The measure is the groups that may follow. Assumes nothing.
use Rattle.journal.proofs.numbers.+write.Given as goal

abbrev pub decreases-write : goal.decreases-write
decreases-write l = l.more
