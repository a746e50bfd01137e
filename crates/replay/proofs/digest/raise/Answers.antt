-- `raise` meets its contract. Assumes nothing.
use Rattle.laws.proofs.Signs.{cast_fits}
use Rattle.replay.proofs.RaisedLaws.{sum_fits, raised_fits, raised_is}
use Rattle.replay.proofs.digest.raise.Goals as goal

pub overflow_cast-result : goal.overflow_cast-result
overflow_cast-result c = cast_fits c.args.z c.ranges.z

pub overflow_add-result : goal.overflow_add-result
overflow_add-result c = sum_fits c.args.z c.ranges.z

pub overflow_cast-result-2 : goal.overflow_cast-result-2
overflow_cast-result-2 c = raised_fits c.args.z c.ranges.z

pub returns : goal.returns
returns c = raised_is c.args.z c.ranges.z
