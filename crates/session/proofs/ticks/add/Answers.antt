-- A pulse added to a sum that has room for it. Assumes nothing.
use Rattle.session.proofs.SumLaws.{pulse_fits, sum_fits, sum_is}
use Rattle.session.proofs.ticks.add.Goals as goal

pub overflow_cast-result : goal.overflow_cast-result
overflow_cast-result c = pulse_fits _ _ c.ranges.sum c.ranges.pulse

pub overflow_add-result : goal.overflow_add-result
overflow_add-result c = sum_fits _ _ c.ranges.sum c.ranges.pulse c.requires

pub returns : goal.returns
returns c = sum_is _ _ c.ranges.sum c.ranges.pulse c.requires
