-- Byte by byte. The invariant: calls made the controller. Assumes nothing.
use Rattle.controller.specs.Reach.{Reachable}
use Rattle.vectors.proofs.pairs.pair_after.Given as goal

abbrev pub invariant-loop-b : goal.invariant-loop-b
invariant-loop-b l = Reachable l.controller
