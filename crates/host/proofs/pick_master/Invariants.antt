-- No axis asked so far is the longest. Assumes nothing.
use Rattle.host.proofs.MasterLaws.{Passed}
use Rattle.host.proofs.pick_master.Given as goal

abbrev pub invariant-loop-k : goal.invariant-loop-k
invariant-loop-k l = Passed l.distances l.k
