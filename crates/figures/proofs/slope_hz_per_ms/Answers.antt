-- `slope_hz_per_ms` is 5n/4 exactly: 1.25 is 5/4, and a product with it loses nothing. Assumes nothing.
use Rattle.figures.proofs.Values.{units_are, slope_unit, slope_unit_is}
use Rattle.figures.proofs.slope_hz_per_ms.Goals as goal

pub returns : goal.returns
returns c = units_are 5 c.args.n slope_unit c.ranges.n.fits slope_unit_is
